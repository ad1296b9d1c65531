use mathlib.Core.Path.{◌∙◌}
use native.Mathlib.Omega.{arith}
use Rattle.raster.specs.PixelsLaws.{pixels_is}
use Rattle.morphology.specs.Threshold.{thresholded_at, thresholded}
use Rattle.morphology.proofs.Rows.{rows_more}
use Rattle.morphology.proofs.Threshold.write.Goals as goal

pub loop-y-preserved : goal.loop-y-preserved
loop-y-preserved c =
    let r = c.write_row.ensures in
    let i = c.loop-y.invariant in
    let t = c.args.self in
    (rows_more (thresholded_at c.args.map.now t.w t.h t.q t.within t.rim) r i.0, r.long ∙ i.1)

pub returns : goal.returns
unfolding thresholded
returns c =
    let l = c.loop-y in
    pixels_is _ _ _ l.sheet 0 (omega (arith, l.invariant.1, c.requires.0)) (λ x y a b. l.invariant.0 x y a (omega arith))
