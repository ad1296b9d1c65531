use mathlib.Core.Path.{ap, ◌∙◌}
use mathlib.Core.Bool.{not}
use native.Mathlib.Decide.{ℕ_discrete}
use native.Mathlib.Omega.{arith}
use borrow.Author.Tests.{eq-eqb, ne_eqb}
use Rattle.probe.proofs.Looking.{column-found, byte-copper}
use Rattle.probe.proofs.Sheet.look_column.Goals as goal

pub returns-then-self-j-ne0 : goal.returns-then-self-j-ne0
returns-then-self-j-ne0 c =
    let s = c.args.self.now in
    column-found (omega arith) (omega arith) (byte-copper s.bytes.now s.w c.args.x c.loop-j.j ∙ ap not (ne_eqb _ _ c.if-self-j-ne0.true)) c.loop-j.invariant

pub loop-j-preserved : goal.loop-j-preserved
loop-j-preserved c =
    let s = c.args.self.now in
    let e = byte-copper s.bytes.now s.w c.args.x c.loop-j.j ∙ ap not (eq-eqb _ _ c.if-self-j-ne0.false) in
    λ i k m. elim (ℕ_discrete i c.loop-j.j) [ yes q ↦ rw q e | no q ↦ c.loop-j.invariant i k (omega arith) ]
