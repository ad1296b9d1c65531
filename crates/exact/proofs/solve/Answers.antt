use borrow.Author.Rules.{rules}
use Prim.Native.Nat.{◌-◌}
use native.Mathlib.Omega.{arith}
use Rattle.exact.proofs.Solving.{solved_more, row_before}
use Rattle.exact.proofs.solve.Goals as goal

pub overflow_mul-y : goal.overflow_mul-y
overflow_mul-y c = search (rules, row_before c.args.w c.args.h c.loop-y.y (omega arith) c.loop-y.invariant.on)

pub solve_row-requires : goal.solve_row-requires
solve_row-requires c =
    let r = row_before c.args.w c.args.h c.loop-y.y (omega arith) c.loop-y.invariant.on in
    (omega (arith, c.loop-y.invariant.long), (omega arith, omega arith))

pub loop-y-preserved : goal.loop-y-preserved
loop-y-preserved c = solved_more c.loop-y.invariant (c.loop-y.y - 1) c.requires.1.0 (omega arith) c.solve_row.ensures
