use mathlib.Core.Path.{◌≡◌, ap, ◌∙◌}
use mathlib.Core.Bool.{false}
use Prim.Native.Nat.{◌<◌}
use native.Mathlib.Omega.{arith}
use lib.IntN.{pos, negsuc}
use mir.ValLaws.{to_z-of_z}
use Rattle.raster.specs.Pixels.{index}
use Rattle.candidate.specs.Holding.{offer_given}
use Rattle.candidate.proofs.Held.{ahead-relax}
use Rattle.scan.specs.Scan.{from_three}
use Rattle.scan.proofs.Fused.{passing_start, passing_turn, passing_end, near_before}
use Rattle.scan.proofs.FourSedNeighbours.from_labelled.Goals as goal

pub loop-x-init : goal.loop-x-init
loop-x-init c =
    let a = c.args in
    let r = c.requires in
    simp (to_z-of_z, c.ranges.o) (passing_start a.w false a.y a.before a.o r.row r.rows r.labelled c.nothing-last.ensures (omega (arith, r.row.sheet.wide)))

pub ahead-mid-requires-clause-near : goal.ahead-mid-requires-clause-near
ahead-mid-requires-clause-near c = near_before _ _ _ _ _ c.loop-x.invariant c.loop-x.x (omega arith)

pub loop-x-preserved : goal.loop-x-preserved
unfolding from_three
loop-x-preserved c =
    let t = c.straight-last.ensures in
    let l = c.loop-x in
    let a = c.args in
    let p = l.invariant in
    let on : l.x < a.w = omega arith in
    let at = index a.w l.x a.y in
    passing_turn a.w false a.y a.before _ p.rows.other p on
    (t.written ∙ ap (offer_given l.last (negsuc 0) at) (ahead-relax c.ahead-mid.ensures (p.labelled l.x on) at (pos 0))) t.handed_on

pub returns-clause-written : goal.returns-clause-written
returns-clause-written c =
    let a = c.args in
    let n : c.loop-x.x ≡ a.w = omega arith in
    simp (to_z-of_z, c.ranges.o) at ((passing_end a.w false a.y a.before _ (rw n at c.loop-x.invariant)).0)
