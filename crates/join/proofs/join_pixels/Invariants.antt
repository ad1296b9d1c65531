-- `join::join_pixels` meets its contract. The invariant: the numbers of the first p pixels are written, the rest are as they were.
use Prim.Native.Nat.{◌*◌}
use Rattle.raster.proofs.Writing.{Writing}
use Rattle.join.proofs.Joining.{number}
use Rattle.join.proofs.join_pixels.Given as goal

abbrev pub invariant-loop-p : goal.invariant-loop-p
invariant-loop-p l = Writing (number l.first l.second) l.initial.target (2 * l.p) l.target
