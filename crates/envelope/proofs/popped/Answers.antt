use native.Mathlib.Omega.{arith}
use borrow.Author.Rules.{rules}
use Rattle.envelope.proofs.Turns.{popping_all, popping_on, popping_corner, popping_lower}
use Rattle.envelope.proofs.popped.Goals as goal

pub loop-c-init : goal.loop-c-init
loop-c-init c = search (rules, popping_all)

pub loop-c-preserved : goal.loop-c-preserved
loop-c-preserved c = search (rules, popping_on)

pub returns-then-not-lies_above : goal.returns-then-not-lies_above
returns-then-not-lies_above c = search (rules, popping_corner)

pub returns-then-height : goal.returns-then-height
returns-then-height c =
    let i = c.loop-c.invariant in
    let r = c.requires in
    popping_lower r.n_bound r.hull r.k_lt_n.0 i.0 (omega arith) (λ e. omega (arith, i.1 (omega arith))) c.height.ensures.0 c.height-2.ensures.0 r.k_lt_n.1.0 (omega arith)
