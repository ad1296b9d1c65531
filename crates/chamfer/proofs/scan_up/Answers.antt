use mathlib.Core.Path.{◌∙◌}
use native.Mathlib.Omega.{arith}
use Rattle.chamfer.proofs.Passes.{up_more, up_all}
use Rattle.chamfer.proofs.scan_up.Goals as goal

pub loop-y-preserved : goal.loop-y-preserved
loop-y-preserved c = λ m half. up_more _ _ _ _ c.args.weights.allowed half (c.loop-y.invariant m half) (omega arith) (omega arith) c.from_below.ensures c.sweep.ensures

pub returns : goal.returns
returns c = λ m half. up_all _ _ _ _ (c.loop-y.invariant m half) (omega arith) (c.loop-y.auto.values ∙ c.requires.values_len)
