-- What the x steps left make of the map is the whole, `last` is the vector of pixel x, and `keys` has the keys of the pixels before it.
use mathlib.Core.Path.{◌≡◌}
use Prim.Native.Nat.{◌-◌}
use Rattle.raster.specs.Loop.{descend}
use Rattle.raster.specs.Pixels.{index}
use Rattle.candidate.specs.Holding.{AtPixel}
use Rattle.scan.specs.Rows.{RowOf, Keys}
use Rattle.scan.proofs.Sweeps.{left_step}
use Rattle.scan.proofs.leftward.Given as goal

abbrev pub invariant-loop-x : goal.invariant-loop-x
invariant-loop-x l = record {
  done : descend (left_step l.w l.y) l.x l.map ≡ descend (left_step l.w l.y) (l.w - 1) l.initial.map;
  row : RowOf l.w l.y l.map;
  held : AtPixel l.last l.map (index l.w l.x l.y);
  known : Keys l.w l.y l.x l.keys.of l.map;
}
