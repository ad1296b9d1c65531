-- `probe::Sheet::look_column` meets its contract. The invariant: from row r to row j − 1 the column has no copper.
use mathlib.Core.Path.{◌≡◌}
use mathlib.Core.Bool.{false}
use Prim.Native.Nat.{ℕ, ◌<◌, ◌≤◌}
use Rattle.raster.specs.Sheet.{copper_of}
use Rattle.probe.proofs.Sheet.look_column.Given as goal

abbrev pub invariant-loop-j : goal.invariant-loop-j
invariant-loop-j l = (i : ℕ) → l.r ≤ i → i < l.j → copper_of l.self.bytes.now l.self.w l.x i ≡ false
