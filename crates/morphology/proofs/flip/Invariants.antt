-- `morphology::flip` meets its contract. The invariant: the bytes before the index are turned, the rest are as they were.
use lib.ListN.{get_or}
use Rattle.raster.proofs.Writing.{Writing}
use Rattle.morphology.specs.Threshold.{turned}
use Rattle.morphology.proofs.flip.Given as goal

abbrev pub invariant-loop-byte : goal.invariant-loop-byte
invariant-loop-byte l = Writing (λ k. turned (get_or l.fn.sheet k 0)) l.fn.sheet l.byte-index l.sheet
