-- `exact::is_copper` meets its contract. The invariant: `copper` says whether the columns that were looked at are copper.
use mathlib.Core.Path.{◌≡◌}
use Rattle.exact.specs.Rows.{copper_from}
use Rattle.exact.proofs.is_copper.Given as goal

abbrev pub invariant-loop-v : goal.invariant-loop-v
invariant-loop-v l = l.copper ≡ copper_from l.ways l.x l.v-index
