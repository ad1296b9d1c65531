-- The points: what it says that none is off the sheet and that no row falls, and how many different rows lie among the first k.
-- Assumes nothing.
use mathlib.Core.Path.{◌≡◌, refl, sym, ◌∙◌}
use mathlib.Core.Bool.{Bool, true, false, cond, ◌||◌}
use mathlib.Core.List.{List}
use Prim.Native.Nat.{ℕ, zero, suc, ◌+◌, ◌-◌, ◌<◌, ◌≤◌}
use native.Mathlib.Decide.{dec_le, ℕ_discrete}
use native.Mathlib.Omega.{arith}
use lib.Dec.{eqb, leb}
use borrow.Author.Tests.{eq-eqb, ne_eqb, ltb-false, leb-false, le-leb, lt-leb}
use Rattle.raster.specs.Loop.{any_below, count_below}
use Rattle.raster.specs.LoopLaws.{any_next, any-true, any_false, any_none, count_few, count_same, count_more}
use Rattle.raster.specs.Tests.{or_left, or_right}
use Rattle.probe.specs.Points.{point_column, point_row, point_off, rows_fall, rows_among}

module _ (points : List ℕ) where
  -- a point of a list that is not refused
  pub point_on_sheet : (w h n k : ℕ) → point_off w h n points ≡ false → k < n → (point_column points k < w) × (point_row points k < h)
  unfolding point_off
  point_on_sheet w h n k e l =
      let o = any_false n _ k e l in
      (leb-false w _ (or_left (leb w (point_column points k)) _ o), leb-false h _ (or_right (leb w (point_column points k)) _ o))

  no_fall : (n k : ℕ) → rows_fall n points ≡ false → k + 1 < n → point_row points k ≤ point_row points (k + 1)
  unfolding rows_fall
  no_fall n k e l = ltb-false (point_row points (k + 1)) (point_row points k) (any_false (n - 1) _ k e (omega arith))

  -- ---- different rows

  -- one of the first k points lies in row y
  abbrev asked : (k y : ℕ) → Bool
  asked k y = any_below k (λ i. eqb (point_row points i) y)

  pub rows_few : (h k : ℕ) → rows_among h k points ≤ h
  unfolding rows_among
  rows_few h k = count_few h (asked k)

  rows_none : (h : ℕ) → 0 ≡ rows_among h 0 points
  unfolding rows_among count_below any_below
  rows_none zero = refl
  rows_none (suc h) = rows_none h

  -- the next point lies below all before it, or in the row of the last
  rows_new : (h k : ℕ) → ((i : ℕ) → i < k → point_row points i < point_row points k) → point_row points k < h
      → rows_among h (k + 1) points ≡ rows_among h k points + 1
  unfolding rows_among
  rows_new h k less on =
      count_more h (asked k) (asked (k + 1)) (point_row points k) on
      (any_none k _ (λ i l. ne_eqb (point_row points i) (point_row points k) (omega (arith, less i l))))
      (any-true (k + 1) _ k (omega arith) (eq-eqb (point_row points k) (point_row points k) refl))
      (λ y l q. any_next k _ ∙ rw (ne_eqb (point_row points k) y (λ e. q (sym e))))

  rows_same : (h k : ℕ) → 0 < k → point_row points k ≡ point_row points (k - 1) → rows_among h (k + 1) points ≡ rows_among h k points
  unfolding rows_among
  rows_same h k some e = count_same h (asked k) (asked (k + 1)) (λ y l. any_next k _ ∙ go y (eqb (point_row points k) y) refl)
    where
      go : (y : ℕ) (t : Bool) → eqb (point_row points k) y ≡ t → t || asked k y ≡ asked k y
      go y true q = sym (any-true k _ (k - 1) (omega arith) (rw (← e) q))
      go y false q = refl

  -- ---- after the first k points

  -- the first `read` rows are passed, and of the rows so many are different
  pub record RowsCounted (h k read rows : ℕ) : Type 0 where
    pub past : (i : ℕ) → i < k → point_row points i < read
    pub none_read : k ≡ 0 → read ≡ 0
    pub last_read : 0 < k → read ≡ point_row points (k - 1) + 1
    pub count : rows ≡ rows_among h k points

  pub counted_none : (h : ℕ) → RowsCounted h 0 0 0
  counted_none h = record { past = λ i l. absurd (omega arith); none_read = λ e. refl; last_read = λ l. absurd (omega arith); count = rows_none h }

  module _ {h k read rows : ℕ} (s : RowsCounted h k read rows) (n : ℕ) (level : rows_fall n points ≡ false) (more : k < n) where
    -- the next point lies in the last row that is passed, or below it
    pub counted_reach : read ≤ point_row points k + 1
    counted_reach = go k refl
      where
        go : (i : ℕ) → k ≡ i → read ≤ point_row points k + 1
        go zero e = omega (arith, s.none_read e)
        go (suc i) e =
            let l = s.last_read (omega arith) in
            let f : k - 1 + 1 ≡ k = omega arith in
            omega (arith, rw f at (no_fall n (k - 1) level (omega arith)))

    pub counted_more : {y rows' : ℕ} → y ≡ point_row points k → y < h → rows' ≡ cond (leb read y) (rows + 1) rows → RowsCounted h (k + 1) (y + 1) rows'
    counted_more {y} {rows'} e on r = record {
      past = λ i l. elim (ℕ_discrete i k) [ yes q ↦ rw q (omega arith) | no q ↦ omega (arith, s.past i (omega arith), counted_reach) ];
      none_read = λ z. absurd (omega arith);
      last_read = λ l. let f : k + 1 - 1 ≡ k = omega arith in rw f (omega arith);
      count = elim (dec_le read y) [ yes l ↦ (rw (le-leb read y l) at r) ∙ new l | no l ↦ (rw (lt-leb read y (omega arith)) at r) ∙ again (omega arith) ];
    }
      where
        new : read ≤ y → rows + 1 ≡ rows_among h (k + 1) points
        new l = omega (arith, s.count, rows_new h k (λ i m. omega (arith, s.past i m)) (omega arith))

        again : y < read → rows ≡ rows_among h (k + 1) points
        again l = go k refl
          where
            go : (i : ℕ) → k ≡ i → rows ≡ rows_among h (k + 1) points
            go zero z = absurd (omega (arith, s.none_read z))
            go (suc i) z =
                let m : 0 < k = omega arith in
                s.count ∙ sym (rows_same h k m (omega (arith, s.last_read m, counted_reach)))
