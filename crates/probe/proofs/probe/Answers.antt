-- `probe::probe` meets its contract: what is cleared in scratch covers the row that it held.
use mathlib.Core.Path.{◌∙◌}
use native.Mathlib.Omega.{arith}
use lib.Seq.{length-take-le}
use Rattle.exact.proofs.Scratch.{row_cleared}
use Rattle.probe.proofs.probe.Goals as goal

pub returns-clause-scratch_left : goal.returns-clause-scratch_left
returns-clause-scratch_left c =
    let n = length-take-le c.args.w c.args.scratch.now (omega arith) in
    c.zero.ensures ∙ row_cleared c.args.w c.probe_points-rows.new.ways c.args.scratch.now (c.probe_points-rows.auto.ways ∙ n)
