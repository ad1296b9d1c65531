use mathlib.Core.Path.{sym, ◌∙◌}
use Prim.Native.Nat.{◌<◌}
use native.Mathlib.Omega.{arith}
use lib.ListN.{get_or}
use borrow.Author.Tests.{ltb-true}
use Rattle.raster.specs.LoopLaws.{count_few}
use Rattle.raster.specs.Tests.{and_left}
use Rattle.probe.specs.Rows.{outdated}
use Rattle.probe.proofs.Looking.{looked_none, row_looked, all_settled, outdated_front}
use Rattle.probe.proofs.Sheet.look_rows.Goals as goal

pub loop-r-init : goal.loop-r-init
loop-r-init c =
    let a = c.args in
    (looked_none c.requires.1, ((omega arith, omega arith), c.outdated_columns-left.ensures ∙ outdated_front a.self.now.w a.y a.below.now (omega arith)))

pub overflow_mul-from : goal.overflow_mul-from
overflow_mul-from c =
    omega (arith, c.loop-r.invariant.1.1, count_few c.args.self.now.w (λ x. outdated c.args.y (get_or c.loop-r.below x 0)))

pub loop-r-preserved : goal.loop-r-preserved
loop-r-preserved c =
    let s = c.args.self.now in
    let i = c.loop-r.invariant in
    -- row r lies on the sheet
    let m : c.loop-r.r < s.h = ltb-true _ _ (and_left _ _ c.loop-r-test.true) in (
      row_looked s.bytes.now s.w i.1.0.0 m i.0 c.look_row.ensures,
      ((omega arith, omega arith), c.outdated_columns-left-in-loop-r.ensures ∙ outdated_front s.w c.args.y c.look_row.new.below (omega arith)),
    )

pub returns-then-left-eq0-clause-found : goal.returns-then-left-eq0-clause-found
returns-then-left-eq0-clause-found c = let i = c.loop-r.invariant in all_settled i.0 (sym i.1.1 ∙ c.if-left-eq0.true)
