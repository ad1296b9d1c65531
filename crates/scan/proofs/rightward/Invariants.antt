-- The map is what the steps up to pixel x make of the one at entry, `last` is the vector of the pixel before x, and `keys` has the keys up to there.
use mathlib.Core.Path.{◌≡◌}
use Prim.Native.Nat.{◌-◌}
use Rattle.raster.specs.Loop.{ascend}
use Rattle.raster.specs.Pixels.{index}
use Rattle.candidate.specs.Holding.{AtPixel}
use Rattle.scan.specs.Rows.{RowOf, Keys}
use Rattle.scan.proofs.Sweeps.{right_step}
use Rattle.scan.proofs.rightward.Given as goal

abbrev pub invariant-loop-x : goal.invariant-loop-x
invariant-loop-x l = record {
  done : l.map ≡ ascend (right_step l.w l.y) (l.x - 1) l.initial.map;
  row : RowOf l.w l.y l.map;
  held : AtPixel l.last l.map (index l.w (l.x - 1) l.y);
  known : Keys l.w l.y l.x l.keys.of l.map;
}
