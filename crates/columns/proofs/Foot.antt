-- The nearest copper of a column, among equals the upper one: the shorter of the two ways leads there.
-- Assumes nothing.
use mathlib.Core.Path.{◌≡◌, sym, ap, subst, ◌∙◌}
use mathlib.Core.Bool.{Bool, true, false, true≢false}
use Prim.Native.Nat.{ℕ, ◌+◌, ◌-◌, ◌<◌, ◌≤◌}
use native.Mathlib.Decide.{dec_le}
use native.Mathlib.Omega.{arith}
use lib.Dec.{leb}
use lib.IntN.{ℤ, pos, ◌-ℤ◌}
use borrow.Author.Tests.{leb-true, leb-false}
use Rattle.raster.specs.Distance.{gap}
use Rattle.raster.specs.Pixels.{Mask}
use Rattle.raster.specs.Tests.{cond_ind}
use Rattle.raster.specs.Vector.{mark}
use Rattle.raster.specs.VectorLaws.{way_back, way_on}
use Rattle.columns.specs.Column.{shorter, way_of}
use Rattle.columns.proofs.Back.{Back, found, nothing, back}

-- r is the row of the nearest copper of column i from row y, among equals the least row
pub record NearestRow (copper : Mask) (h i y r : ℕ) : Type 0 where
  pub on : r < h
  pub is_copper : copper i r ≡ true
  pub least : (j : ℕ) → j < h → copper i j ≡ true → gap y r ≤ gap y j
  pub first : (j : ℕ) → j < r → copper i j ≡ true → gap y r < gap y j

-- what a way says of its column
pub data Foot (copper : Mask) (h i y : ℕ) : ℤ → Type 0 where
  row : (r : ℕ) → NearestRow copper h i y r → Foot copper h i y (pos r -ℤ pos y)
  no_row : ((j : ℕ) → j < h → copper i j ≡ false) → Foot copper h i y mark

module _ (copper : Mask) (h i y : ℕ) (inside : y < h) where
  -- what a search upwards or downwards found, of the rows of the column
  record Up (n : ℕ) : Type 0 where
    near : n ≤ y
    copper_at : copper i (y - n) ≡ true
    beyond : (j : ℕ) → j ≤ y → copper i j ≡ true → j + n ≤ y

  record Down (m : ℕ) : Type 0 where
    near : y + m < h
    copper_at : copper i (y + m) ≡ true
    beyond : (j : ℕ) → y ≤ j → j < h → copper i j ≡ true → y + m ≤ j

  -- the nearest of both, the one above, the one below
  nearest_up : (n : ℕ) → Up n → ((j : ℕ) → y < j → j < h → copper i j ≡ true → y + n ≤ j) → NearestRow copper h i y (y - n)
  unfolding gap
  nearest_up n u under = record {
    on = omega arith;
    is_copper = u.copper_at;
    least = λ j l c. elim (dec_le j y) [ yes q ↦ omega (arith, u.near, u.beyond j q c) | no q ↦ omega (arith, u.near, under j (omega arith) l c) ];
    first = λ j l c. omega (arith, u.near, u.beyond j (omega arith) c);
  }

  nearest_down : (m : ℕ) → Down m → ((j : ℕ) → j ≤ y → copper i j ≡ true → j + m < y) → NearestRow copper h i y (y + m)
  unfolding gap
  nearest_down m d over = record {
    on = d.near;
    is_copper = d.copper_at;
    least = λ j l c. elim (dec_le j y) [ yes q ↦ omega (arith, over j q c) | no q ↦ omega (arith, d.beyond j (omega arith) l c) ];
    first = λ j l c. elim (dec_le j y) [ yes q ↦ omega (arith, over j q c) | no q ↦ absurd (omega (arith, d.beyond j (omega arith) (omega (arith, d.near)) c)) ];
  }

  -- ---- from the searches

  bare : {t : Bool} → t ≡ true → t ≡ false → ⊥
  bare p q = true≢false (sym p ∙ q)

  up_found : (n : ℕ) → n ≤ y → copper i (y - n) ≡ true → ((m : ℕ) → m < n → copper i (y - m) ≡ false) → Up n
  up_found n l c none = record {
    near = l;
    copper_at = c;
    beyond = λ j k is_copper. elim (dec_le (j + n) y) [
      | yes q ↦ q
      | no q ↦ let e : y - (y - j) ≡ j = omega arith in absurd (bare is_copper (sym (ap (copper i) e) ∙ none (y - j) (omega arith)))
    ];
  }

  -- row j, counted from the bottom
  mirrored : (j : ℕ) → j < h → h - 1 - (h - 1 - j) ≡ j
  mirrored j l = omega arith

  down_found : (m : ℕ) → m ≤ h - 1 - y → copper i (h - 1 - (h - 1 - y - m)) ≡ true → ((k : ℕ) → k < m → copper i (h - 1 - (h - 1 - y - k)) ≡ false) → Down m
  down_found m l c none = record {
    near = omega arith;
    copper_at = ap (copper i) (omega arith) ∙ c;
    beyond = λ j k on is_copper. elim (dec_le (y + m) j) [
      | yes q ↦ q
      | no q ↦ let e : h - 1 - (h - 1 - y - (j - y)) ≡ j = seen j k on in absurd (bare is_copper (sym (ap (copper i) e) ∙ none (j - y) (omega arith)))
    ];
  }
    where
      seen : (j : ℕ) → y ≤ j → j < h → h - 1 - (h - 1 - y - (j - y)) ≡ j
      seen j k on = let e : h - 1 - y - (j - y) ≡ h - 1 - j = omega arith in ap (λ (t : ℕ). h - 1 - t) e ∙ mirrored j on

  down_bare : ((m : ℕ) → m ≤ h - 1 - y → copper i (h - 1 - m) ≡ false) → (j : ℕ) → y ≤ j → j < h → copper i j ≡ false
  down_bare none j k on = sym (ap (copper i) (mirrored j on)) ∙ none (h - 1 - j) (omega arith)

  -- from both searches together
  pub both : {u d : ℤ} → Back (copper i) y u → Back (λ t. copper i (h - 1 - t)) (h - 1 - y) d → Foot copper h i y (shorter u d)
  both (found n l c none) (found m k b rest) =
      let u = up_found n l c none in
      let d = down_found m k b rest in
      cond_ind (Foot copper h i y) (leb n m)
      (λ e. let o = leb-true n m e in subst (Foot copper h i y) (sym (way_back y n l)) (row (y - n) (nearest_up n u (λ j p q r. omega (arith, d.beyond j (omega arith) q r)))))
      (λ e. let o = leb-false n m e in subst (Foot copper h i y) (sym (way_on y m)) (row (y + m) (nearest_down m d (λ j p q. omega (arith, u.beyond j p q)))))
  both (found n l c none) (nothing rest) =
      let u = up_found n l c none in
      subst (Foot copper h i y) (sym (way_back y n l)) (row (y - n) (nearest_up n u (λ j p q r. absurd (bare r (down_bare rest j (omega arith) q)))))
  both (nothing none) (found m k b rest) =
      let d = down_found m k b rest in
      subst (Foot copper h i y) (sym (way_on y m)) (row (y + m) (nearest_down m d (λ j p q. absurd (bare q (none j p)))))
  both (nothing none) (nothing rest) = no_row (λ j l. elim (dec_le j y) [ yes q ↦ none j q | no q ↦ down_bare rest j (omega arith) l ])

  pub foot : Foot copper h i y (way_of copper h i y)
  foot = both (back (copper i) y) (back (λ t. copper i (h - 1 - t)) (h - 1 - y))
