-- `chamfer::scan_down` meets its contract. The invariant: the first y rows are made, and the working row has the last of them.
use Rattle.raster.specs.Sheet.{copper_of}
use Rattle.chamfer.proofs.Passes.{Down}
use Rattle.chamfer.proofs.scan_down.Given as goal

abbrev pub invariant-loop-y : goal.invariant-loop-y
invariant-loop-y l =
    Down l.weights.side l.weights.corner l.w l.h (copper_of l.sheet l.w) l.y l.values l.row
