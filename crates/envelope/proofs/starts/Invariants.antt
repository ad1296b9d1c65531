-- `envelope::starts` meets its contract. The invariant: the first j entries have their starts.
use Rattle.envelope.proofs.Turns.{Starting}
use Rattle.envelope.proofs.starts.Given as goal

abbrev pub invariant-loop-j : goal.invariant-loop-j
invariant-loop-j l = Starting l.cost l.n l.site l.start l.j
