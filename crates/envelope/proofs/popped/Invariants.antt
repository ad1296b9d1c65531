-- `envelope::popped` meets its contract. The invariant: c entries are left, b is the site of the last, and the best is k or one of them (`Popping`); and one is left if there was any.
use Prim.Native.Nat.{◌<◌}
use Rattle.envelope.proofs.Turns.{Popping}
use Rattle.envelope.proofs.popped.Given as goal

abbrev pub invariant-loop-c : goal.invariant-loop-c
invariant-loop-c l = Popping l.cost l.k l.site l.count l.c l.b × (0 < l.count → 0 < l.c)
