-- `storage::write_bytes` meets its contract. The invariant: the first i bytes are written, the rest are as they were.
use lib.IntN.{pos}
use lib.ListN.{get_or}
use Rattle.raster.proofs.Writing.{Writing}
use Rattle.storage.specs.Stored.{to_byte}
use Rattle.storage.proofs.write_bytes.Given as goal

abbrev pub invariant-loop-i : goal.invariant-loop-i
invariant-loop-i l = Writing (λ k. to_byte (get_or l.map k (pos 0))) l.initial.bytes l.i l.bytes
