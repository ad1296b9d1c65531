use Rattle.probe.proofs.Looking.{row_passed}
use Rattle.probe.proofs.Sheet.pass_rows.Goals as goal

pub loop-y-preserved : goal.loop-y-preserved
loop-y-preserved c = row_passed c.args.self.now.bytes.now c.args.self.now.w c.loop-y.invariant c.pass_row.ensures
