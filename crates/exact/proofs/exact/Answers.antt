-- `exact::exact` meets its contract: over the ways of the columns the rows solved are the exact map (`solved_exact`). What is cleared in scratch covers the row
-- that it held (`row_cleared`).
use mathlib.Core.Path.{◌∙◌}
use native.Mathlib.Omega.{arith}
use lib.Seq.{length-take-le}
use Rattle.exact.proofs.Scratch.{row_cleared}
use Rattle.exact.proofs.Solved.{solved_exact}
use Rattle.exact.proofs.exact.Goals as goal

pub returns-clause-map_left : goal.returns-clause-map_left
returns-clause-map_left c =
    let b = c.requires.w_bound in
    solved_exact _ _ _ b.0 b.1 _ c.ways.ensures.at _ (omega arith) c.solve.ensures

pub returns-clause-scratch_left : goal.returns-clause-scratch_left
returns-clause-scratch_left c =
    let n = length-take-le c.args.w c.args.scratch.now (omega arith) in
    c.zero.ensures ∙ row_cleared c.args.w c.solve.new.ways c.args.scratch.now (c.solve.auto.ways ∙ n)
