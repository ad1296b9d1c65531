use native.Mathlib.Omega.{arith}
use Rattle.chamfer.proofs.Passes.{down_more}
use Rattle.chamfer.proofs.scan_down.Goals as goal

pub loop-y-preserved : goal.loop-y-preserved
loop-y-preserved c = down_more _ _ _ _ c.args.weights.allowed _ c.loop-y.invariant (omega arith) c.from_above.ensures c.sweep.ensures
