-- `storage::write_pairs` meets its contract. The invariant: the first i components are written, the rest are as they were.
use lib.IntN.{pos}
use lib.ListN.{get_or}
use Rattle.raster.proofs.Writing.{Writing}
use Rattle.storage.specs.Stored.{from_byte}
use Rattle.storage.proofs.write_pairs.Given as goal

abbrev pub invariant-loop-i : goal.invariant-loop-i
invariant-loop-i l = Writing (λ k. from_byte (get_or l.bytes k (pos 0))) l.initial.map l.i l.map
