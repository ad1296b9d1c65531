-- `chamfer::from_below` meets its contract. The invariant: the first x pixels of the row are written.
use Prim.Native.Nat.{◌+◌, min}
use lib.ListN.{get_or}
use Rattle.raster.specs.Rows.{RowWritten}
use Rattle.chamfer.specs.Rows.{from_three}
use Rattle.chamfer.proofs.from_below.Given as goal

abbrev pub invariant-loop-x : goal.invariant-loop-x
invariant-loop-x l = RowWritten l.base l.x (λ z. min (get_or l.initial.values (l.base + z) 0) (from_three l.weights.side l.weights.corner l.row z)) l.initial.values l.values
