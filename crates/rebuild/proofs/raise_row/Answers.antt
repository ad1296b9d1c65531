use Prim.Native.Nat.{◌-◌, ◌<◌}
use native.Mathlib.Omega.{arith}
use borrow.Author.Tests.{ne_eqb}
use Rattle.envelope.specs.Best.{no_site}
use Rattle.envelope.proofs.StackLaws.{unstack_top, unstack_more, unstack_all}
use Rattle.rebuild.proofs.Raising.{lift_bare, lift_join}
use Rattle.rebuild.proofs.raise_row.Goals as goal

-- the run of an entry whose site lies on the row
pub loop-c-preserved-then-from-to : goal.loop-c-preserved-then-from-to
loop-c-preserved-then-from-to c =
    let i = c.loop-c.invariant in
    let on : c.from-s.result < c.args.n = rw c.from-s.ensures (c.requires.entries.seen (c.loop-c.c - 1) (omega (arith, i.0.few))) in
    let site = ne_eqb c.from-s.result no_site (omega (arith, on, c.requires.n_in_bounds)) in
    let top = unstack_top i.0 (omega arith) c.from-from.ensures in (
      unstack_more i.0 (omega arith) c.from-from.ensures (omega arith) (omega arith),
      lift_join (omega arith) i.0.on i.1 c.raise_run.ensures (λ x a b k. rw (top x a b, ← c.from-s.ensures, site)),
    )

pub loop-c-preserved : goal.loop-c-preserved
loop-c-preserved c =
    let i = c.loop-c.invariant in
    (unstack_more i.0 (omega arith) c.from-from.ensures (omega arith) (omega arith), i.1)

pub returns : goal.returns
returns c = let i = c.loop-c.invariant in lift_join (omega arith) i.0.on i.1 lift_bare (λ x a b k. rw (unstack_all i.0 (omega arith) x b))
