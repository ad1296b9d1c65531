-- `probe::write_ways` meets its contract. The invariant: the ways of the first x columns are written.
use lib.ListN.{get_or}
use Rattle.raster.proofs.Writing.{Writing}
use Rattle.probe.specs.Rows.{way_between}
use Rattle.probe.proofs.write_ways.Given as goal

abbrev pub invariant-loop-x : goal.invariant-loop-x
invariant-loop-x l = Writing (λ z. way_between l.h l.y (get_or l.above z 0) (get_or l.below z 0)) l.initial.ways l.x l.ways
