-- A row of a sheet that is written: no byte of it, one byte more, and all of it with one value; and what that leaves in the other rows.
-- Assumes nothing.
use mathlib.Core.Path.{◌≡◌, refl, ◌∙◌}
use mathlib.Core.Logic.{◌≢◌, inl, inr}
use mathlib.Core.List.{List}
use Prim.Native.Nat.{ℕ, ◌+◌, ◌*◌, ◌<◌, ◌≤◌}
use native.Mathlib.Decide.{dec_lt}
use native.Mathlib.Nat.{mul-le-mul_right}
use native.Mathlib.Omega.{arith}
use lib.ListN.{length, get_or, set, length-set}
use lib.Seq.{get_or-set_other}
use Rattle.raster.specs.Pixels.{index}
use Rattle.raster.specs.Rows.{RowWritten}
use Rattle.raster.specs.Sheet.{spanned}
use Rattle.raster.specs.SheetLaws.{spanned-length, spanned_in, spanned_out}
use Rattle.raster.proofs.Writing.{set_more}

module _ {base : ℕ} {f : ℕ → ℕ} {before : List ℕ} where
  pub row_none : RowWritten base 0 f before before
  row_none = record { long = refl; here = λ x l. absurd (omega arith); low_kept = λ p l. refl; high_kept = λ p l. refl }

  pub row_more : {n v : ℕ} {after : List ℕ} → RowWritten base n f before after → base + n < length before → v ≡ f n
      → RowWritten base (n + 1) f before (set after (base + n) v)
  row_more {n} {v} {after} r l e = record {
    long = length-set after (base + n) v ∙ r.long;
    here = set_more 0 (λ x u. u ≡ f x) (λ x. base + x) after (omega (arith, r.long)) (λ x m. omega arith) e r.here;
    low_kept = λ p m. get_or-set_other after (base + n) p v 0 (omega arith) ∙ r.low_kept p m;
    high_kept = λ p m. get_or-set_other after (base + n) p v 0 (omega arith) ∙ r.high_kept p (omega arith);
  }

pub row_filled : (base n v : ℕ) (s : List ℕ) → base + n ≤ length s → RowWritten base n (λ x. v) s (spanned base n v s)
row_filled base n v s room = record {
  long = spanned-length base n v s room;
  here = λ x l. spanned_in base n v s room (base + x) (omega arith) (omega arith);
  low_kept = λ p l. spanned_out base n v s room p (inl l);
  high_kept = λ p l. spanned_out base n v s room p (inr l);
}

-- the other rows of a sheet of width w are left alone
pub row_other : (w b : ℕ) {f : ℕ → ℕ} {before after : List ℕ} → RowWritten (b * w) w f before after → (x a : ℕ) → x < w → a ≢ b
    → get_or after (index w x a) 0 ≡ get_or before (index w x a) 0
row_other w b r x a l n = elim (dec_lt a b) [
  | yes q ↦ r.low_kept (index w x a) (omega (arith, mul-le-mul_right w q))
  | no q ↦ let k : b < a = omega arith in r.high_kept (index w x a) (omega (arith, mul-le-mul_right w k))
]
