-- `exact::copper_end` meets its contract. The invariant: all columns from `from` to x − 1 are copper. The measure is what is left of the row.
use mathlib.Core.Path.{◌≡◌}
use Prim.Native.Nat.{ℕ, ◌-◌, ◌≤◌, ◌<◌}
use lib.IntN.{pos}
use lib.ListN.{get_or}
use Rattle.exact.proofs.copper_end.Given as goal

abbrev pub invariant-loop-x : goal.invariant-loop-x
invariant-loop-x l = (l.from ≤ l.x) × ((l.x ≤ l.w) × ((k : ℕ) → l.from ≤ k → k < l.x → get_or l.ways k (pos 0) ≡ pos 0))

abbrev pub decreases-loop-x : goal.decreases-loop-x
decreases-loop-x l = l.w - l.x
