-- `columns::row_up` meets its contract. The invariant: the first x pixels of the row are spread, and `near` is as it was from there on.
use Prim.Native.Nat.{◌+◌}
use lib.IntN.{pos}
use lib.ListN.{get_or}
use Rattle.columns.specs.Column.{is_zero, shorter}
use Rattle.columns.proofs.Spreading.{SpreadTo}
use Rattle.columns.proofs.row_up.Given as goal

abbrev pub invariant-loop-x : goal.invariant-loop-x
invariant-loop-x l = SpreadTo l.base l.w (λ z. is_zero (get_or l.initial.ways (l.base + z) (pos 0))) (λ z v. shorter (get_or l.initial.ways (l.base + z) (pos 0)) v) l.initial.ways l.initial.near l.x l.ways l.near
