-- The scans, row by row: how each starts, one row more, how it ends.
-- Assumes nothing.
use mathlib.Core.Path.{◌≡◌, refl, subst, ◌∙◌}
use mathlib.Core.Logic.{◌≢◌}
use mathlib.Core.List.{List}
use Prim.Native.Nat.{ℕ, ◌+◌, ◌*◌, ◌-◌, ◌≤◌, ◌<◌, min}
use native.Mathlib.Decide.{dec_lt}
use native.Mathlib.Omega.{arith}
use lib.ListN.{length, get_or}
use Rattle.raster.specs.Pixels.{Mask, index}
use Rattle.raster.specs.PixelsLaws.{pixels_is}
use Rattle.raster.specs.Rows.{RowWritten}
use Rattle.raster.specs.Sheet.{copper_of}
use Rattle.raster.proofs.Rows.{row_other}
use Rattle.chamfer.specs.Chamfer.{Weights, no_value, value, chamfer_map}
use Rattle.chamfer.specs.Rows.{from_three, or_copper, carried, Swept, Half, Halfway, Blank}
use Rattle.chamfer.proofs.Before.{Padded}
use Rattle.chamfer.proofs.Scans.{Above, Below, down_row_lem, up_row_lem}

-- a working row whose places beyond the pixels are as they were, and whose pixels have P
pad_swept : {w base : ℕ} {f : ℕ → ℕ} {P Q : (z v : ℕ) → Type 0} {values row values' row' : List ℕ} → Padded w P row → Swept base w f values row values' row'
    → ((z : ℕ) → z < w → Q z (f z)) → Padded w Q row'
pad_swept pad s has = record {
  first = s.kept.low_kept 0 (omega arith) ∙ pad.first;
  last = s.kept.high_kept _ (omega arith) ∙ pad.last;
  inner = λ z l. rw (s.kept.here z l) (has z l);
}

pad_blank : {w : ℕ} {P : (z v : ℕ) → Type 0} {row : List ℕ} → Blank w row → ((z : ℕ) → z < w → P z no_value) → Padded w P row
pad_blank {w} {P} {row} b has = record {
  first = b.blank 0 (omega arith);
  last = b.blank (1 + w) (omega arith);
  inner = λ z l. rw (b.blank (1 + z) (omega arith)) (has z l);
}

module _ (a b w h : ℕ) where
  -- ---- scan one

  -- the first y rows are made, and the working row has the last of them
  pub record Down (copper : Mask) (y : ℕ) (values row : List ℕ) : Type 0 where
    pub on : y ≤ h
    pub made : (x k : ℕ) → x < w → k < y → Half a b copper w h x k (get_or values (index w x k) 0)
    pub pad : Padded w (Above a b copper w h y) row

  pub down_none : {copper : Mask} {values row : List ℕ} → Blank w row → Down copper 0 values row
  down_none blank = record { on = omega arith; made = λ x k l m. absurd (omega arith); pad = pad_blank blank (λ z l. ((λ e. refl), (λ m. absurd (omega arith)))) }

  pub down_more : Weights a b → (sheet : List ℕ) {y : ℕ} {values row values₁ values₂ row₂ : List ℕ} → Down (copper_of sheet w) y values row → y < h
      → RowWritten (y * w) w (λ x. or_copper (get_or sheet (y * w + x) 0) (from_three a b row x)) values values₁
      → Swept (y * w) w (λ x. carried a (λ t. get_or values₁ (y * w + t) 0) (x + 1)) values₁ row values₂ row₂
      → Down (copper_of sheet w) (y + 1) values₂ row₂
  unfolding copper_of
  down_more ok sheet {y} {values} {row} {values₁} d l r s = record {
    on = omega arith;
    made = λ x k m n. elim (dec_lt k y) [
      | yes q ↦
          let e = row_other w y s.written x k m (λ z. omega arith) ∙ row_other w y r x k m (λ z. omega arith) in
          rw e (d.made x k m q)
      | no q ↦ let e : k ≡ y = omega arith in rw (e, s.written.here x m) (half x m)
    ];
    pad = pad_swept d.pad s (λ z m. ((λ e. absurd (omega arith)), (λ n. let e : y + 1 - 1 ≡ y = omega arith in rw e (half z m))));
  }
    where
      half : (x : ℕ) → x < w → Half a b (copper_of sheet w) w h x y (carried a (λ t. get_or values₁ (y * w + t) 0) (x + 1))
      half x m = down_row_lem a b ok (copper_of sheet w) w h y d.pad l (λ z. get_or sheet (y * w + z) 0) (λ z. get_or values₁ (y * w + z) 0) (λ z n. refl) (λ z n. r.here z n) x m

  pub down_all : {copper : Mask} {y : ℕ} {values row : List ℕ} → Down copper y values row → h ≤ y → length values ≡ h * w → Halfway a b copper w h values
  down_all d l long = record { long = long; at = λ x k m n. d.made x k m (omega arith) }

  -- ---- scan two

  -- the rows from y on have their values, the others are as scan one left them, and the working row has row y
  pub record Up (copper : Mask) (before : List ℕ) (y : ℕ) (values row : List ℕ) : Type 0 where
    pub done : (x k : ℕ) → x < w → y ≤ k → k < h → get_or values (index w x k) 0 ≡ value a b copper w h x k
    pub rest : (x k : ℕ) → x < w → k < y → get_or values (index w x k) 0 ≡ get_or before (index w x k) 0
    pub pad : Padded w (Below a b copper w h y) row

  pub up_none : {copper : Mask} {before row : List ℕ} → Blank w row → Up copper before h before row
  up_none blank = record { done = λ x k l m n. absurd (omega arith); rest = λ x k l m. refl; pad = pad_blank blank (λ z l. ((λ e. refl), (λ m. absurd (omega arith)))) }

  pub up_more : {copper : Mask} {before : List ℕ} {n y : ℕ} {values row values₁ values₂ row₂ : List ℕ} → Weights a b → Halfway a b copper w h before → Up copper before n values row → n ≡ y + 1 → y < h
      → RowWritten (y * w) w (λ x. min (get_or values (y * w + x) 0) (from_three a b row x)) values values₁
      → Swept (y * w) w (λ x. carried a (λ t. get_or values₁ (y * w + (w - 1 - t)) 0) (w - x)) values₁ row values₂ row₂
      → Up copper before y values₂ row₂
  up_more {copper} {before} {n} {y} {values} {row} {values₁} {values₂} ok half u next l r s = record {
    done = λ x k m o p. elim (dec_lt y k) [
      | yes q ↦ other x k m (λ z. omega arith) ∙ u.done x k m (omega arith) p
      | no q ↦ let e : k ≡ y = omega arith in rw (e, s.written.here x m) (is x m)
    ];
    rest = λ x k m o. other x k m (λ z. omega arith) ∙ u.rest x k m (omega arith);
    pad = pad_swept u.pad s (λ z m. ((λ e. absurd (omega arith)), (λ o. is z m)));
  }
    where
      other : (x k : ℕ) → x < w → k ≢ y → get_or values₂ (index w x k) 0 ≡ get_or values (index w x k) 0
      other x k m o = row_other w y s.written x k m o ∙ row_other w y r x k m o

      is : (x : ℕ) → x < w → carried a (λ t. get_or values₁ (y * w + (w - 1 - t)) 0) (w - x) ≡ value a b copper w h x y
      is x m =
          up_row_lem a b ok copper w h y (subst (λ (t : ℕ). Padded w (Below a b copper w h t) row) next u.pad) l (λ z. get_or values (y * w + z) 0) (λ z. get_or values₁ (y * w + z) 0)
          (λ z o. rw (u.rest z y o (omega arith)) (half.at z y o l)) (λ z o. r.here z o) x m

  pub up_all : {copper : Mask} {before values row : List ℕ} {y : ℕ} → Up copper before y values row → y ≡ 0 → length values ≡ h * w → values ≡ chamfer_map a b copper w h
  unfolding chamfer_map
  up_all {values = values} u z long = pixels_is w h _ values 0 long (λ x k l m. u.done x k l (omega arith) m)
