-- `chamfer::from_above` meets its contract. The invariant: the first x pixels of the row are written.
use Prim.Native.Nat.{◌+◌}
use lib.ListN.{get_or}
use Rattle.raster.specs.Rows.{RowWritten}
use Rattle.chamfer.specs.Rows.{from_three, or_copper}
use Rattle.chamfer.proofs.from_above.Given as goal

abbrev pub invariant-loop-x : goal.invariant-loop-x
invariant-loop-x l =
    RowWritten l.base l.x (λ z. or_copper (get_or l.sheet (l.base + z) 0) (from_three l.weights.side l.weights.corner l.row z)) l.initial.values l.values
