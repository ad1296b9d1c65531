-- `storage::read_back` meets its contract: the rows of sides and lengths go first, then the look at the pixels decides.
use mathlib.Core.Path.{refl, sym, ◌∙◌}
use native.Mathlib.Omega.{arith}
use Rattle.std.proofs.lemmas.Result.{err_from_is_err_and}
use Rattle.storage.specs.Stored.{read_back_table, half_marked}
use Rattle.storage.specs.StoredLaws.{lengths_granted}
use Rattle.storage.proofs.Looking.{refused, looked}
use Rattle.storage.proofs.read_back.Goals as goal

pub returns-in_err-check_lengths-clause-answered : goal.returns-in_err-check_lengths-clause-answered
unfolding read_back_table
returns-in_err-check_lengths-clause-answered c =
    let a = c.args in
    let p = err_from_is_err_and c.from_residual.result c.from_residual.ensures.1 in
    rw (p.1, p.2) (refused a.w a.h _ _ (half_marked a.bytes.now) _ c.in_err-check_lengths.ensures)

pub has_half_marked-requires : goal.has_half_marked-requires
has_half_marked-requires c =
    let a = c.args in
    let l = lengths_granted a.w a.h _ _ (sym c.in_ok-check_lengths.ensures) in
    omega (arith, c.area.ensures, l.0)

pub returns-then-has_half_marked-clause-answered : goal.returns-then-has_half_marked-clause-answered
unfolding read_back_table
returns-then-has_half_marked-clause-answered c =
    let a = c.args in
    sym (looked a.w a.h _ _ _ (sym c.in_ok-check_lengths.ensures) c.area.ensures c.has_half_marked.ensures ∙ rw c.if-has_half_marked.true refl)

pub write_pairs-requires : goal.write_pairs-requires
write_pairs-requires c =
    let a = c.args in
    let l = lengths_granted a.w a.h _ _ (sym c.in_ok-check_lengths.ensures) in l.1 ∙ sym l.0

pub returns-clause-answered : goal.returns-clause-answered
unfolding read_back_table
returns-clause-answered c =
    let a = c.args in
    sym (looked a.w a.h _ _ _ (sym c.in_ok-check_lengths.ensures) c.area.ensures c.has_half_marked.ensures ∙ rw c.if-has_half_marked.false refl)
