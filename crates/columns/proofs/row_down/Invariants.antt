-- `columns::row_down` meets its contract. The invariant: the first x pixels of the row are spread, and `near` is as it was from there on.
use mathlib.Core.Bool.{not}
use Prim.Native.Nat.{◌+◌}
use lib.Dec.{eqb}
use lib.ListN.{get_or}
use Rattle.columns.proofs.Spreading.{SpreadTo}
use Rattle.columns.proofs.row_down.Given as goal

abbrev pub invariant-loop-x : goal.invariant-loop-x
invariant-loop-x l = SpreadTo l.base l.w (λ z. not (eqb (get_or l.sheet (l.base + z) 0) 0)) (λ z v. v) l.initial.ways l.initial.near l.x l.ways l.near
