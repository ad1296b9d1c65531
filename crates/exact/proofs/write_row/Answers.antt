use mathlib.Core.Path.{refl, sym, ◌∙◌}
use native.Mathlib.Omega.{arith}
use mir.Syntax.{w16, w32}
use mir.Val.{SFits}
use lib.IntN.{pos}
use lib.ListN.{get_or}
use borrow.Author.Rules.{rules}
use mir.ValLaws.{to_z-of_z}
use Rattle.envelope.proofs.StackLaws.{unstack_top, unstack_more, unstack_all}
use Rattle.raster.specs.Vector.{mark}
use Rattle.envelope.specs.Best.{no_site}
use Rattle.exact.proofs.Runs.{run_filled, run_join}
use Rattle.exact.proofs.write_row.Goals as goal

pub loop-c-preserved-then-from-to : goal.loop-c-preserved-then-from-to
loop-c-preserved-then-from-to c =
    let i = c.loop-c.invariant in
    let f : SFits w16 (get_or c.args.ways.now c.from-s.result (pos 0)) = search rules in
    let e = to_z-of_z w32 _ (record { sfits = c.from.type_inv }) ∙ c.from.ensures ∙ to_z-of_z w16 _ f in
    let top = unstack_top i.0 (omega arith) c.from-from.ensures in (
      unstack_more i.0 (omega arith) c.from-from.ensures (omega arith) (omega arith),
      run_join (omega arith) i.0.on i.1 c.write_run.ensures (λ x a b. (top x a b ∙ sym c.from-s.ensures, rw e)),
    )

pub loop-c-preserved : goal.loop-c-preserved
loop-c-preserved c =
    let i = c.loop-c.invariant in
    (unstack_more i.0 (omega arith) c.from-from.ensures (omega arith) (omega arith), i.1)

pub returns : goal.returns
returns c =
    let i = c.loop-c.invariant in
    run_join (omega arith) i.0.on i.1 (run_filled {v = λ b. pos 0} {best = λ x. no_site} mark (omega arith) (omega arith) (omega arith) (c.fill.ensures.after (λ y h. h)) (λ x a b. (refl, refl))) (λ x a b. (unstack_all i.0 (omega arith) x b, refl))
