-- `probe::Sheet::look_rows` meets its contract. The invariant: down to row r − 1 the columns that look for another copper have none, and they are counted.
use mathlib.Core.Path.{◌≡◌}
use Prim.Native.Nat.{◌-◌, ◌≤◌}
use lib.ListN.{get_or}
use Rattle.raster.specs.Loop.{count_below}
use Rattle.raster.specs.Sheet.{copper_of}
use Rattle.probe.specs.Rows.{outdated, LookedTos}
use Rattle.probe.proofs.Sheet.look_rows.Given as goal

abbrev pub invariant-loop-r : goal.invariant-loop-r
invariant-loop-r l =
    LookedTos (copper_of l.self.bytes.now l.self.w) l.self.w l.self.h l.y l.r l.below
    × (((l.y ≤ l.r) × (l.r ≤ l.self.h)) × (l.left ≡ count_below l.self.w (λ x. outdated l.y (get_or l.below x 0))))

abbrev pub decreases-loop-r : goal.decreases-loop-r
decreases-loop-r l = l.self.h - l.r
