-- The map is what the y rows passed make of the one at entry, and the last of those rows is labelled throughout or not at all.
use mathlib.Core.Path.{◌≡◌}
use mathlib.Core.Bool.{cond}
use Prim.Native.Nat.{◌-◌, ◌<◌}
use lib.Dec.{ltb}
use Rattle.std.specs.Prelude.{None, Some}
use Rattle.raster.specs.Loop.{ascend}
use Rattle.candidate.specs.OnSheet.{OnSheet}
use Rattle.scan.specs.Scan.{down_row}
use Rattle.scan.specs.Rows.{Level}
use Rattle.scan.proofs.scan_down.Given as goal

abbrev pub invariant-loop-y : goal.invariant-loop-y
invariant-loop-y g l = record {
  done : l.map ≡ ascend (down_row l.w g.E.Neighbours.corners) l.y l.initial.map;
  sheet : OnSheet l.w l.map;
  before : l.before ≡ cond (ltb 0 l.y) (Some (l.y - 1)) None;
  level : 0 < l.y → Level l.w (l.y - 1) l.map;
}
