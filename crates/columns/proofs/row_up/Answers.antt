use Rattle.std.proofs.Common.{arith, rules, ◌≡◌, ◌+◌, pos, get_or}
use mir.Syntax.{w16}
use mir.Val.{SFits}
use mir.ValLaws.{to_z-of_z}
use Rattle.columns.proofs.Numbers.{zero_bits}
use Rattle.columns.proofs.Spreading.{spread_more}
use Rattle.columns.proofs.row_up.Goals as goal

pub loop-x-preserved : goal.loop-x-preserved
loop-x-preserved c =
    let l = c.loop-x in
    let i = c.args.base + l.x in
    let fu : SFits w16 (get_or l.ways i (pos 0)) = search rules in
    let fn : SFits w16 (get_or l.near l.x (pos 0)) = search rules in
    let fd : SFits w16 c.step-d.result = record { sfits = c.step-d.type_inv } in
    let fs : SFits w16 c.shorter_of.result = record { sfits = c.shorter_of.type_inv } in
    -- what is read of `near` and of the ways is what stood there at entry
    let u : get_or l.ways i (pos 0) ≡ get_or c.args.ways.now i (pos 0) = l.invariant.done.high_kept i (omega arith) in
    let e = rw (zero_bits _ fu, to_z-of_z w16 _ fn, l.invariant.left l.x (omega arith), u) at c.step-d.ensures in
    let k = rw (to_z-of_z w16 _ fu, to_z-of_z w16 _ fd, u) at c.shorter_of.ensures in
    simp (to_z-of_z, fs, fd) (spread_more l.invariant (omega arith) (omega arith) (omega arith) e k)
