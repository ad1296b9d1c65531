-- `skeleton::keep_row` meets its contract. The invariant: the first x bytes of the row are written, the rest is as it was.
use Rattle.raster.specs.Rows.{RowWritten}
use Rattle.skeleton.specs.Bands.{kept_in}
use Rattle.skeleton.proofs.keep_row.Given as goal

abbrev pub invariant-loop-x : goal.invariant-loop-x
invariant-loop-x l = RowWritten l.base l.x (kept_in l.above l.row l.below) l.initial.out l.out
