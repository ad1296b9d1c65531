-- `raster::fill_rectangle` meets its contract. The invariant: the sheet is as if the rectangle had the j rows that are written.
use mathlib.Core.Path.{◌≡◌}
use Rattle.raster.specs.Sheet.{filled}
use Rattle.raster.proofs.fill_rectangle.Given as goal

abbrev pub invariant-loop-j : goal.invariant-loop-j
invariant-loop-j l =
    l.sheet ≡ filled l.w l.h l.x l.y l.cols l.j l.v l.initial.sheet
