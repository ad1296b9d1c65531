-- `rebuild::raise_row` meets its contract. The invariant: the columns from `to` on are raised, and those before it are held by the first c entries.
use Rattle.envelope.specs.Stack.{holder}
use Rattle.envelope.proofs.StackLaws.{Unstacked}
use Rattle.rebuild.specs.Passes.{hit_by, RowRaised}
use Rattle.rebuild.proofs.raise_row.Given as goal

abbrev pub invariant-loop-c : goal.invariant-loop-c
invariant-loop-c l =
    Unstacked l.n l.rows.site l.rows.start l.count l.c l.to
    × RowRaised l.t l.h l.to l.n (λ x. hit_by l.rows.cost l.t x (holder l.rows.site l.rows.start l.count x)) l.initial.reach l.reach
