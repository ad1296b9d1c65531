use native.Mathlib.Numerals.{add-one}
use native.Mathlib.Omega.{arith}
use Rattle.std.proofs.Common.{refl}
use Rattle.raster.specs.Loop.{any_below, ascend}
use Rattle.raster.specs.LoopLaws.{up_turn}
use Rattle.cutter.specs.Gates.{blocked}
use Rattle.cutter.specs.Closest.{closest_along}
use Rattle.cutter.proofs.Cutter.look_along.Goals as goal

pub loop-i-init : goal.loop-i-init
unfolding blocked any_below closest_along ascend
loop-i-init c = (refl, (refl, omega arith))

pub loop-i-preserved : goal.loop-i-preserved
unfolding blocked any_below closest_along
loop-i-preserved c =
    let l = c.loop-i.invariant in
    let stopped = rw c.after.ensures at c.look_with-look.ensures.stopped in
    let met = rw c.after.ensures at c.look_with-look.ensures.met in
    (rw (add-one, stopped, l.0) refl, (up_turn _ _ _ met l.1.0, omega arith))
