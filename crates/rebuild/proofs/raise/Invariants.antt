-- `rebuild::raise` meets its contract. The invariant: the rows from the later of r0 and t on, up to r, are covered.
use Rattle.rebuild.proofs.Raising.{Raising}
use Rattle.rebuild.proofs.raise.Given as goal

abbrev pub invariant-loop-r : goal.invariant-loop-r
invariant-loop-r l = Raising l.t l.price l.r0 l.r
