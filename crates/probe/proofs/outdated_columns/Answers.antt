use mathlib.Core.Path.{refl, sym}
use Prim.Native.Nat.{ℕ}
use native.Mathlib.Omega.{arith}
use lib.ListN.{get_or}
use Rattle.raster.specs.Loop.{count_below}
use Rattle.raster.specs.LoopLaws.{count_next, count_few}
use Rattle.probe.specs.Rows.{outdated}
use Rattle.probe.proofs.Looking.{count_flag}
use Rattle.probe.proofs.outdated_columns.Goals as goal

pub loop-b-init : goal.loop-b-init
unfolding count_below
loop-b-init c = refl

pub overflow_add-count : goal.overflow_add-count
overflow_add-count c =
    let f = λ (z : ℕ). outdated c.args.y (get_or c.args.below.now z 0) in
    let i = c.loop-b.b-index in
    omega (arith, c.loop-b.invariant, c.from-count.ensures, count_flag c.loop-b.count (f i), count_few i f)

pub loop-b-preserved : goal.loop-b-preserved
loop-b-preserved c =
    let f = λ (z : ℕ). outdated c.args.y (get_or c.args.below.now z 0) in
    let i = c.loop-b.b-index in
    rw (c.from-count.ensures, (count_flag c.loop-b.count (f i)).0, c.loop-b.invariant) (sym (count_next i f))
