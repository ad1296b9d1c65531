use Rattle.std.proofs.Common.{arith, refl, pos, negsuc}
use lib.ListN.{get_or-replicate}
use Rattle.raster.specs.Sheet.{copper_of}
use Rattle.columns.proofs.Passes.{pass_none, pass_room, pass_more}
use Rattle.columns.proofs.pass_down.Goals as goal

pub loop-y-init : goal.loop-y-init
loop-y-init c = pass_none (λ x l. get_or-replicate 2048 x (negsuc 0) (pos 0) (omega arith))

pub row_down-requires-clause-by_index : goal.row_down-requires-clause-by_index
row_down-requires-clause-by_index c = pass_room c.loop-y.invariant (omega arith)

pub loop-y-preserved : goal.loop-y-preserved
unfolding copper_of
loop-y-preserved c = pass_more c.loop-y.invariant (omega arith) refl (omega arith) refl (λ k a e. e) (λ x e. (refl, λ v. refl)) c.row_down.ensures
