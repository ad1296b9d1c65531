use Rattle.std.proofs.Common.{rules}
use Prim.Native.Nat.{◌+◌}
use native.Mathlib.Omega.{arith}
use mathlib.Core.Path.{refl}
use lib.IntN.{pos}
use lib.ListN.{get_or}
use mir.Syntax.{w16}
use mir.Val.{SFits}
use mir.ValLaws.{to_z-of_z}
use Rattle.raster.proofs.Writing.{write_none, write_more}
use Rattle.exact.proofs.copy_row.Goals as goal

pub loop-k-preserved : goal.loop-k-preserved
loop-k-preserved c =
    let l = c.loop-k in
    let f : SFits w16 (get_or c.args.map.now (c.args.base + l.k) (pos 0)) = search rules in
    rw (to_z-of_z w16 _ f) (write_more _ _ l.invariant.0 (omega arith) refl, omega arith)

pub loop-k-init : goal.loop-k-init
loop-k-init c = (write_none _ _, omega arith)
