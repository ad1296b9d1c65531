-- `probe::outdated_columns` meets its contract. The invariant: so many of the columns so far look for another copper.
use mathlib.Core.Path.{◌≡◌}
use lib.ListN.{get_or}
use Rattle.raster.specs.Loop.{count_below}
use Rattle.probe.specs.Rows.{outdated}
use Rattle.probe.proofs.outdated_columns.Given as goal

abbrev pub invariant-loop-b : goal.invariant-loop-b
invariant-loop-b l = l.count ≡ count_below l.b-index (λ z. outdated l.y (get_or l.below z 0))
