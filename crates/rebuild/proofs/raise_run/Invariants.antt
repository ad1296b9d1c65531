-- `rebuild::raise_run` meets its contract. The invariant: the columns from `from` to x − 1 are raised, the rest are as they were.
use Rattle.rebuild.specs.Passes.{hits, RowRaised}
use Rattle.rebuild.proofs.raise_run.Given as goal

abbrev pub invariant-loop-x : goal.invariant-loop-x
invariant-loop-x l = RowRaised l.t l.h l.from l.x (λ x k. hits l.t x l.s l.g k) l.initial.reach l.reach
