-- `exact::write_row` meets its contract. The invariant: the pixels from `to` on are written, and those before it are held by the first c entries.
use lib.IntN.{pos}
use lib.ListN.{get_or}
use Rattle.envelope.specs.Stack.{holder}
use Rattle.envelope.proofs.StackLaws.{Unstacked}
use Rattle.exact.specs.Rows.{Written}
use Rattle.exact.proofs.write_row.Given as goal

abbrev pub invariant-loop-c : goal.invariant-loop-c
invariant-loop-c l =
    Unstacked l.n l.site l.start l.count l.c l.to × Written l.base l.to l.n (λ b. get_or l.ways b (pos 0)) (holder l.site l.start l.count) l.initial.map l.map
