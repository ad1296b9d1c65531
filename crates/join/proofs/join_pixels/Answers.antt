use Rattle.std.proofs.Common.{arith, refl, ◌∙◌}
use Rattle.raster.proofs.Writing.{write_none, write_all}
use Rattle.join.specs.Joined.{joined}
use Rattle.join.proofs.Joining.{put_more}
use Rattle.join.proofs.join_pixels.Goals as goal

pub loop-p-init : goal.loop-p-init
loop-p-init c = write_none _ _

pub loop-p-preserved : goal.loop-p-preserved
loop-p-preserved c =
    let a = c.args in
    rw (c.put_word.ensures, c.joined_word.ensures.dx, c.joined_word.ensures.dy)
    (put_more a.first.now a.second.now _ _ _ c.loop-p.invariant (omega (arith, c.requires.1.1)))

pub returns : goal.returns
unfolding joined
returns c = let r = c.requires in write_all _ _ c.loop-p.invariant (omega (arith, r.1.1)) ∙ rw (r.1.1, r.0) refl
