-- `probe::Sheet::look_columns` meets its contract. The invariant: the first x columns have their copper, the others are as they were.
use mathlib.Core.Path.{◌≡◌}
use Prim.Native.Nat.{ℕ, ◌<◌, ◌≤◌}
use lib.ListN.{get_or}
use Rattle.raster.specs.Sheet.{copper_of}
use Rattle.probe.specs.Rows.{FirstBelow}
use Rattle.probe.proofs.Sheet.look_columns.Given as goal

abbrev pub invariant-loop-x : goal.invariant-loop-x
invariant-loop-x l =
    ((z : ℕ) → z < l.x → FirstBelow (copper_of l.self.bytes.now l.self.w) l.self.h z l.y (get_or l.below z 0))
    × ((z : ℕ) → l.x ≤ z → get_or l.below z 0 ≡ get_or l.initial.below z 0)
