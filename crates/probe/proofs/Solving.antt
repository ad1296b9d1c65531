-- The row that is worked out: its ways lead to the nearest copper of each column, so its vectors are exact.
-- Assumes nothing.
use mathlib.Core.Path.{◌≡◌, ap, ◌∙◌}
use mathlib.Core.List.{List}
use Prim.Native.Nat.{ℕ, ◌+◌, ◌-◌, ◌<◌, ◌≤◌}
use native.Mathlib.Omega.{arith}
use lib.Dec.{eqb, leb}
use lib.IntN.{ℤ, pos}
use lib.ListN.{get_or}
use borrow.Author.Tests.{eqb-true, eqb-false, leb-true, leb-false}
use Rattle.raster.specs.Limits.{max_side}
use Rattle.raster.specs.Pixels.{Mask}
use Rattle.raster.specs.Tests.{cond_ind}
use Rattle.envelope.specs.Best.{best_site}
use Rattle.columns.proofs.Back.{Back, found, nothing}
use Rattle.columns.proofs.Foot.{Foot, both}
use Rattle.exact.specs.Rows.{costs_of, Written}
use Rattle.exact.proofs.Columns.{site_exact}
use Rattle.exact.proofs.Prices.{costs-at}
use Rattle.probe.specs.Rows.{LastAbove, LastAboves, Upcomings, FirstBelow, FirstBelows, way_up, way_down, way_between, RowExact, Worked}
use Rattle.probe.proofs.Looking.{above-none, upcoming_none, upcoming_later}

module _ (copper : Mask) (h x y : ℕ) (inside : y < h) where
  way_up_lem : {a : ℕ} → LastAbove copper x (y + 1) a → Back (copper x) y (way_up y a)
  way_up_lem {a} s = cond_ind (Back (copper x) y) (eqb a 0)
      (λ e. let z = eqb-true a 0 e in nothing (λ m l. s.bare m (omega arith) (omega arith)))
      (λ e.
      let z = eqb-false a 0 e in
      found (y + 1 - a) (omega arith) (ap (copper x) (omega (arith, s.on)) ∙ s.is_copper (omega arith)) (λ m l. s.bare (y - m) (omega arith) (omega arith)))

  way_down_lem : {b : ℕ} → FirstBelow copper h x y b → Back (λ t. copper x (h - 1 - t)) (h - 1 - y) (way_down h y b)
  way_down_lem {b} s =
      let u = s.upcoming in
      cond_ind (Back (λ t. copper x (h - 1 - t)) (h - 1 - y)) (leb b h)
      (λ e.
      let l = leb-true b h e in
      found (b - 1 - y) (omega arith) (ap (copper x) (omega (arith, s.ahead)) ∙ u.is_copper (omega (arith, s.ahead)) l)
      (λ m k. u.bare (h - 1 - (h - 1 - y - m)) (omega arith) (omega arith)))
      (λ e. let l = leb-false b h e in nothing (λ m k. u.bare (h - 1 - m) (omega arith) (omega arith)))

  -- the way of a column leads to its nearest copper
  pub way_foot : {a b : ℕ} → LastAbove copper x (y + 1) a → FirstBelow copper h x y b → Foot copper h x y (way_between h y a b)
  way_foot s t = both copper h x y inside (way_up_lem s) (way_down_lem t)

-- the row with these ways, solved
pub row_exact : (ways : List ℤ) {copper : Mask} {w h y : ℕ} {above below : List ℕ} {row row' : List ℤ} → w ≤ max_side → h ≤ max_side → y < h
    → LastAboves copper w (y + 1) above → FirstBelows copper w h y below
    → ((x : ℕ) → x < w → get_or ways x (pos 0) ≡ way_between h y (get_or above x 0) (get_or below x 0))
    → Written 0 0 w (λ b. get_or ways b (pos 0)) (best_site (costs_of ways w) w) row row' → RowExact copper w h y row'
row_exact ways {copper} {w} {h} {y} wide tall inside s t e r = record {
  at = λ x l.
      let n : 0 + x ≡ x = omega arith in
      rw (rw n at (r.dx x (omega arith) l), rw n at (r.dy x (omega arith) l))
      (site_exact copper w h wide tall x y inside (λ k. get_or ways k (pos 0)) (costs_of ways w)
      (λ k m. rw (e k m) (way_foot copper h k y inside (s.at k m) (t.at k m))) (costs-at ways w));
}

-- ---- from row to row

-- no row is passed, and nothing is known
pub worked_none : {copper : Mask} {w h : ℕ} {above below : List ℕ} {row : List ℤ} → ((x : ℕ) → x < w → get_or above x 0 ≡ 0)
    → ((x : ℕ) → x < w → get_or below x 0 ≡ 0) → Worked copper w h 0 above below row
worked_none a b = record {
  above_row = record { at = λ x l. rw (a x l) above-none };
  below_row = record { at = λ x l. rw (b x l) upcoming_none };
  last_row = λ y e. absurd (omega arith);
}

-- the same copper comes farther down
pub worked_below : {copper : Mask} {w h n y : ℕ} {above below : List ℕ} {row : List ℤ} → Worked copper w h n above below row → n ≤ y → Upcomings copper w h y below
worked_below s l = record { at = λ x m. upcoming_later (omega arith) (s.below_row.at x m) }

-- row y is worked out
pub worked_row : {copper : Mask} {w h y : ℕ} {above below : List ℕ} {row : List ℤ} → LastAboves copper w (y + 1) above → Upcomings copper w h y below
    → RowExact copper w h y row → Worked copper w h (y + 1) above below row
worked_row {y = y} a b r =
    let e : y + 1 - 1 ≡ y = omega arith in
    record { above_row = a; below_row = rw e b; last_row = λ z q. let f : y ≡ z = omega arith in rw (← f) r }
