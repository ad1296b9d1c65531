-- `envelope::skipped` meets its contract. The invariant: the places before x have no site.
use Prim.Native.Nat.{◌-◌, ◌≤◌}
use Rattle.envelope.specs.Hull.{Bare}
use Rattle.envelope.proofs.skipped.Given as goal

abbrev pub invariant-loop-x : goal.invariant-loop-x
invariant-loop-x l = (l.k ≤ l.x) × ((l.x ≤ l.n) × Bare l.cost l.k l.x)

abbrev pub decreases-loop-x : goal.decreases-loop-x
decreases-loop-x l = l.n - l.x
