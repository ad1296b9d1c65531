-- `chamfer::is_steep` meets its contract. The invariant: the flag is that of the first x pairs of neighbours.
use mathlib.Core.Path.{◌≡◌}
use Prim.Native.Nat.{◌+◌}
use lib.Dec.{ltb}
use lib.ListN.{get_or}
use Rattle.raster.specs.Loop.{any_below}
use Rattle.chamfer.specs.Rows.{candidate}
use Rattle.chamfer.proofs.is_steep.Given as goal

abbrev pub invariant-loop-x : goal.invariant-loop-x
invariant-loop-x l =
    l.steep ≡ any_below l.x (λ z. ltb (candidate (get_or l.values (l.from + z) 0) l.side) (get_or l.values (l.to + z) 0))
