-- `exact::copy_row` meets its contract. The invariant: the ways of the first k columns stand in the working row.
use Prim.Native.Nat.{◌≤◌}
use Rattle.exact.specs.Rows.{way_at}
use Rattle.raster.proofs.Writing.{Writing}
use Rattle.exact.proofs.copy_row.Given as goal

abbrev pub invariant-loop-k : goal.invariant-loop-k
invariant-loop-k l = Writing (way_at l.map l.base) l.initial.ways l.k l.ways × (l.k ≤ l.w)
