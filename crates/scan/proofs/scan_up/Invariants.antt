-- What the y rows left make of the map is the whole, and row y, if it is one, is labelled throughout or not at all.
use mathlib.Core.Path.{◌≡◌}
use mathlib.Core.Bool.{cond}
use Prim.Native.Nat.{◌<◌}
use lib.Dec.{ltb}
use Rattle.std.specs.Prelude.{None, Some}
use Rattle.raster.specs.Loop.{descend}
use Rattle.candidate.specs.OnSheet.{OnSheet}
use Rattle.scan.specs.Scan.{up_row}
use Rattle.scan.specs.Rows.{Level}
use Rattle.scan.proofs.scan_up.Given as goal

abbrev pub invariant-loop-y : goal.invariant-loop-y
invariant-loop-y g l = record {
  done : descend (up_row l.w g.E.Neighbours.corners l.h) l.y l.map ≡ descend (up_row l.w g.E.Neighbours.corners l.h) l.h l.initial.map;
  sheet : OnSheet l.w l.map;
  before : l.before ≡ cond (ltb l.y l.h) (Some l.y) None;
  level : l.y < l.h → Level l.w l.y l.map;
}
