use mathlib.Core.Path.{ap, ◌∙◌}
use native.Mathlib.Omega.{arith}
use Rattle.raster.proofs.Writing.{write_none, write_more, write_rest, write_all}
use Rattle.morphology.specs.Threshold.{turned, flipped}
use Rattle.morphology.proofs.flip.Goals as goal

pub loop-byte-preserved : goal.loop-byte-preserved
loop-byte-preserved c =
    let l = c.loop-byte in
    write_more _ _ l.invariant (omega arith) (c.inverted.ensures ∙ ap turned (write_rest _ _ l.invariant l.byte-index 0 (omega arith)))

pub returns : goal.returns
unfolding flipped
returns c = write_all _ _ c.loop-byte.invariant (omega arith)

pub loop-byte-init : goal.loop-byte-init
loop-byte-init c = write_none _ _
