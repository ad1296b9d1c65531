use Rattle.std.proofs.Common.{arith, ◌≡◌, ◌-◌, ap, ℤ, pos, negsuc}
use lib.ListN.{get_or-replicate}
use Rattle.columns.specs.Column.{shorter, is_zero}
use Rattle.columns.proofs.Passes.{pass_none, pass_room, pass_more, pass_all}
use Rattle.columns.proofs.pass_up.Goals as goal

pub loop-y-init : goal.loop-y-init
loop-y-init c = let e : c.args.h - c.args.h ≡ 0 = omega arith in rw e (pass_none (λ x l. get_or-replicate 2048 x (negsuc 0) (pos 0) (omega arith)))

pub row_up-requires-clause-by_index : goal.row_up-requires-clause-by_index
row_up-requires-clause-by_index c = pass_room c.loop-y.invariant (omega arith)

pub loop-y-preserved : goal.loop-y-preserved
loop-y-preserved c =
    pass_more c.loop-y.invariant (omega arith) (omega arith) (omega arith) (omega arith) (λ k a e. omega arith) (λ x e. (ap is_zero e, λ v. ap (λ (u : ℤ). shorter u v) e)) c.row_up.ensures

pub returns : goal.returns
returns c = pass_all c.loop-y.invariant (omega arith) (λ y a. (omega arith, omega arith))
