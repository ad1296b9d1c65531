-- `exact::solve_next` meets its contract: a part between copper is worked out by itself, and copper goes to itself (`next_solved`).
use Prim.Native.Nat.{◌-◌}
use mathlib.Core.Path.{◌≡◌, refl}
use native.Mathlib.Omega.{arith}
use lib.IntN.{pos}
use Rattle.exact.proofs.Parts.{next_solved}
use Rattle.exact.proofs.Runs.{across-self, run_filled}
use Rattle.exact.proofs.solve_next.Goals as goal

pub returns : goal.returns
returns c =
    let s = c.requires in
    let e : c.saturating_sub-lo.result ≡ c.args.done - 1 = omega arith in
    rw (← e) (
    next_solved c.args.ways.now s.line.short (omega arith) s.done_lt_w.0 (λ l. rw e (s.done_lt_w.1 (omega arith)))
    c.copper_run-x.ensures c.min-hi.ensures c.solve_part.ensures c.copper_end-e.ensures
    (run_filled (pos 0) (omega arith) (omega arith) refl (c.fill.ensures.after (λ y h. h)) (λ x i l. across-self x (omega arith)))
    )
