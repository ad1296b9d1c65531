-- `envelope::is_bare` meets its contract. The invariant: if `bare` still holds, the places that were looked at have no site.
use mathlib.Core.Path.{◌≡◌}
use mathlib.Core.Bool.{true}
use Prim.Native.Nat.{◌+◌}
use Rattle.envelope.specs.Hull.{Bare}
use Rattle.envelope.proofs.is_bare.Given as goal

abbrev pub invariant-loop-g : goal.invariant-loop-g
invariant-loop-g l = l.bare ≡ true → Bare l.cost l.k (l.k + l.g-index)
