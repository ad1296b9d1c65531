-- Its columns start at 0, so that no row has covered any; each row of the pass is one row more; and the last row ends it.
use native.Mathlib.Omega.{arith}
use lib.ListN.{get_or-replicate}
use Rattle.rebuild.proofs.Passing.{pass_none, pass_more, pass_all}
use Rattle.rebuild.proofs.Marked.pass.Goals as goal

pub loop-t-init : goal.loop-t-init
loop-t-init g c = pass_none _ _ _ _ _ (λ x l. get_or-replicate 2048 x 0 0 (omega arith))

pub loop-t-preserved : goal.loop-t-preserved
loop-t-preserved g c = pass_more _ _ _ _ _ c.loop-t.invariant (omega arith) c.pass_row.ensures.raised c.pass_row.ensures.marked

pub returns : goal.returns
returns g c = pass_all _ _ _ _ _ c.loop-t.invariant (omega arith)
