-- `storage::store` meets its contract: the rows of sides and lengths go first, then the look at the pixels decides.
use mathlib.Core.Path.{refl, sym, ◌∙◌}
use mathlib.Core.Bool.{not}
use Prim.Native.Nat.{◌*◌}
use native.Mathlib.Omega.{arith}
use Rattle.std.proofs.lemmas.Result.{err_from_is_err_and}
use Rattle.storage.specs.Stored.{store_table, storable}
use Rattle.storage.specs.StoredLaws.{lengths_granted, storable_components}
use Rattle.storage.proofs.Looking.{refused, looked}
use Rattle.storage.proofs.store.Goals as goal

pub returns-in_err-check_lengths-clause-answered : goal.returns-in_err-check_lengths-clause-answered
unfolding store_table
returns-in_err-check_lengths-clause-answered c =
    let a = c.args in
    let p = err_from_is_err_and c.from_residual.result c.from_residual.ensures.1 in
    rw (p.1, p.2) (refused a.w a.h _ _ (λ p. not (storable a.map.now p)) _ c.in_err-check_lengths.ensures)

pub has_unstorable-requires : goal.has_unstorable-requires
has_unstorable-requires c =
    let a = c.args in
    let l = lengths_granted a.w a.h _ _ (sym c.in_ok-check_lengths.ensures) in
    omega (arith, c.area.ensures, l.0)

pub returns-then-has_unstorable-clause-answered : goal.returns-then-has_unstorable-clause-answered
unfolding store_table
returns-then-has_unstorable-clause-answered c =
    let a = c.args in
    sym (looked a.w a.h _ _ _ (sym c.in_ok-check_lengths.ensures) c.area.ensures c.has_unstorable.ensures ∙ rw c.if-has_unstorable.true refl)

pub write_bytes-requires : goal.write_bytes-requires
write_bytes-requires c =
    let a = c.args in
    let l = lengths_granted a.w a.h _ _ (sym c.in_ok-check_lengths.ensures) in
    (l.1 ∙ sym l.0, storable_components (a.h * a.w) a.map.now l.0 (rw c.area.ensures at (sym c.has_unstorable.ensures ∙ c.if-has_unstorable.false)))

pub returns-clause-answered : goal.returns-clause-answered
unfolding store_table
returns-clause-answered c =
    let a = c.args in
    sym (looked a.w a.h _ _ _ (sym c.in_ok-check_lengths.ensures) c.area.ensures c.has_unstorable.ensures ∙ rw c.if-has_unstorable.false refl)
