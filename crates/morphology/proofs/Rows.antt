-- A sheet written row by row: a row that is filled and then written between its rims, and one row more.
-- Assumes nothing.
use mathlib.Core.Path.{◌≡◌, ◌∙◌}
use mathlib.Core.Bool.{cond}
use mathlib.Core.List.{List}
use Prim.Native.Nat.{ℕ, ◌+◌, ◌-◌, ◌*◌, ◌<◌, ◌≤◌}
use native.Mathlib.Decide.{dec_le, dec_lt}
use native.Mathlib.Omega.{arith}
use lib.ListN.{get_or}
use borrow.Author.Tests.{le-leb, lt-leb, le-ltb}
use Rattle.raster.specs.Pixels.{index}
use Rattle.raster.specs.Rows.{RowWritten}
use Rattle.raster.proofs.Rows.{row_other}
use Rattle.morphology.specs.Threshold.{inner}
use Rattle.morphology.proofs.Rim.{inner-true}

-- a row that holds v, then a run of its inner pixels
pub row_run : (base w v : ℕ) (f : ℕ → ℕ) {rim : ℕ} {s t u : List ℕ} → rim ≤ w
    → RowWritten base w (λ x. v) s t → RowWritten (base + rim) (base + (w - rim) - (base + rim)) (λ i. f (base + rim + i)) t u
    → RowWritten base w (λ x. cond (inner rim w x) (f (base + x)) v) s u
row_run base w v f {rim} {s} {t} {u} short filled run = record {
  long = run.long ∙ filled.long;
  here = pixel;
  low_kept = λ p l. run.low_kept p (omega arith) ∙ filled.low_kept p l;
  high_kept = λ p l. run.high_kept p (omega arith) ∙ filled.high_kept p l;
}
  where
    pixel : (x : ℕ) → x < w → get_or u (base + x) 0 ≡ cond (inner rim w x) (f (base + x)) v
    pixel x l = elim (dec_le rim x) [
      | yes a ↦ elim (dec_lt (x + rim) w) [
        | yes b ↦ let e : base + rim + (x - rim) ≡ base + x = omega arith in rw (inner-true rim w x a b) (rw e at (run.here (x - rim) (omega arith)))
        | no b ↦ rw (le-leb rim x a, le-ltb (x + rim) w (omega arith)) (run.high_kept (base + x) (omega arith) ∙ filled.here x l)
      ]
      | no a ↦ rw (lt-leb rim x (omega arith)) (run.low_kept (base + x) (omega arith) ∙ filled.here x l)
    ]

-- one row more of a sheet that holds f
pub rows_more : {w y : ℕ} (f : ℕ → ℕ → ℕ) {before after : List ℕ} → RowWritten (y * w) w (λ x. f x y) before after
    → ((x j : ℕ) → x < w → j < y → get_or before (index w x j) 0 ≡ f x j)
    → (x j : ℕ) → x < w → j < y + 1 → get_or after (index w x j) 0 ≡ f x j
rows_more {w} {y} f r above x j a l = elim (dec_lt j y) [
  | yes b ↦ row_other w y r x j a (omega arith) ∙ above x j a b
  | no b ↦ let e : j ≡ y = omega arith in rw e (r.here x a)
]
