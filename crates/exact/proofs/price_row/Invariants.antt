-- `exact::price_row` meets its contract. The invariant: the costs of the first k columns stand in the working row.
use lib.IntN.{pos}
use lib.ListN.{get_or}
use Rattle.exact.specs.Rows.{way_cost}
use Rattle.raster.proofs.Writing.{Writing}
use Rattle.exact.proofs.price_row.Given as goal

abbrev pub invariant-loop-k : goal.invariant-loop-k
invariant-loop-k l = Writing (λ j. way_cost (get_or l.ways j (pos 0))) l.initial.cost l.k l.cost
