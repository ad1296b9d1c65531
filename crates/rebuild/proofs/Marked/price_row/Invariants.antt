-- `rebuild::Marked::price_row` meets its contract. The invariant: the costs of the first k columns stand in the working row.
use Rattle.rebuild.specs.Passes.{Priced}
use Rattle.rebuild.proofs.Marked.price_row.Given as goal

abbrev pub invariant-loop-k : goal.invariant-loop-k
invariant-loop-k l = Priced l.self.map.now l.self.marks.now l.base l.k l.cost
