-- `rebuild::mark_row` meets its contract. The invariant: the first x bytes of the row are written, the rest is as it was.
use mathlib.Core.Bool.{cond}
use Prim.Native.Nat.{◌+◌}
use lib.Dec.{ltb}
use lib.ListN.{get_or}
use Rattle.raster.specs.Rows.{RowWritten}
use Rattle.rebuild.proofs.mark_row.Given as goal

abbrev pub invariant-loop-x : goal.invariant-loop-x
invariant-loop-x l = RowWritten l.base l.x (λ x. cond (ltb l.t (get_or l.reach x 0)) 1 (get_or l.initial.out (l.base + x) 0)) l.initial.out l.out
