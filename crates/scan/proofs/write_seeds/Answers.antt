use mathlib.Core.Path.{◌≡◌, ◌∙◌}
use native.Mathlib.Numerals.{add-one}
use native.Mathlib.Omega.{arith}
use lib.ListN.{length}
use mir.Syntax.{w32}
use mir.Val.{SFits}
use mir.ValLaws.{to_z-of_z}
use Rattle.scan.proofs.Sowing.{sown-none, sown-more, sown-all}
use Rattle.scan.proofs.write_seeds.Goals as goal

pub loop-p-init : goal.loop-p-init
loop-p-init c = sown-none _ _

pub loop-p-preserved : goal.loop-p-preserved
loop-p-preserved c =
    let v = c.seed_of-v in
    let l = c.loop-p in
    let f : SFits w32 v.result = record { sfits = v.type_inv } in
    let e = simp (to_z-of_z, f) at c.put_at.ensures in
    rw add-one (e ∙ (rw (v.ensures.0, l.invariant) (sown-more l.p c.args.sheet.now c.args.map.now c.requires (omega arith))))

pub returns : goal.returns
returns c =
    let s = c.args.sheet.now in
    let n : c.loop-p.p ≡ length s = omega arith in
    c.loop-p.invariant ∙ (rw n (sown-all s c.args.map.now c.requires))
