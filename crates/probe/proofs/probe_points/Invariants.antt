-- `probe::probe_points` meets its contract. The invariant: of the first k points the distances are written and the rows counted, and the row of the
-- last of them is worked out.
use Rattle.raster.specs.Distance.{true_distance}
use Rattle.raster.specs.Sheet.{copper_of}
use Rattle.raster.proofs.Writing.{Writing}
use Rattle.probe.specs.Points.{point_column, point_row}
use Rattle.probe.specs.Rows.{Worked}
use Rattle.probe.proofs.Counting.{RowsCounted}
use Rattle.probe.proofs.probe_points.Given as goal

abbrev pub invariant-loop-k : goal.invariant-loop-k
invariant-loop-k l =
    RowsCounted l.points l.sheet.h l.k l.reading.read l.rows
    × (Worked (copper_of l.sheet.bytes.now l.sheet.w) l.sheet.w l.sheet.h l.reading.read l.reading.above l.reading.below l.reading.row
    × Writing (λ i. true_distance (copper_of l.sheet.bytes.now l.sheet.w) l.sheet.w l.sheet.h (point_column l.points i) (point_row l.points i)) l.initial.out l.k l.out)
