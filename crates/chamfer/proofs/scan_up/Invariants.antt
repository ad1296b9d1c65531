-- `chamfer::scan_up` meets its contract. The invariant: the rows from y on have their values, of whatever sheet scan one left the map of, and the working row
-- has row y.
use Rattle.raster.specs.Pixels.{Mask}
use Rattle.chamfer.specs.Rows.{Halfway}
use Rattle.chamfer.proofs.Passes.{Up}
use Rattle.chamfer.proofs.scan_up.Given as goal

abbrev pub invariant-loop-y : goal.invariant-loop-y
invariant-loop-y l = (copper : Mask) → Halfway l.weights.side l.weights.corner copper l.w l.h l.initial.values → Up l.weights.side l.weights.corner l.w l.h copper l.initial.values l.y l.values l.row
