-- The best site of a row, in which a column costs the square of its way, leads to the nearest copper pixel.
-- Assumes nothing.
use mathlib.Core.Path.{◌≡◌, refl, sym, ap, ◌∙◌}
use mathlib.Core.Logic.{◌⊎◌, inl, inr}
use mathlib.Core.Bool.{Bool, true, false, cond, true≢false}
use mathlib.Core.List.{List}
use Prim.Native.Nat.{ℕ, ◌*◌, ◌<◌, ◌≤◌}
use native.Mathlib.Decide.{dec_lt}
use native.Mathlib.Nat.{mul-le-mul}
use native.Mathlib.Omega.{arith}
use lib.IntN.{ℤ, pos, nat_abs, ◌-ℤ◌}
use lib.ListN.{get_or}
use borrow.Author.Tests.{ne_eqb}
use Rattle.raster.specs.Distance.{gap, apart, Copper}
use Rattle.raster.specs.DistanceLaws.{gap_below, square_le}
use Rattle.raster.specs.Limits.{max_side}
use Rattle.raster.specs.Pixels.{Mask}
use Rattle.raster.specs.Vector.{is_mark}
use Rattle.raster.specs.VectorLaws.{mark-abs, way-abs, way-ends}
use Rattle.envelope.specs.Best.{no_cost, no_site, price_of, price, Site, best_site}
use Rattle.envelope.specs.BestLaws.{Least, Found, best-found}
use Rattle.columns.proofs.Foot.{Foot, row, no_row}
use Rattle.exact.specs.Nearest.{Exact, to_nearest, bare_sheet}
use Rattle.exact.specs.Rows.{way_cost, across, site_way}

-- a way to a row of the sheet is as long as the rows lie apart, and is not the mark
way-cost : (y r h : ℕ) → h ≤ max_side → y < h → r < h → way_cost (pos r -ℤ pos y) ≡ gap y r * gap y r
way-cost y r h tall a b = go (is_mark (pos r -ℤ pos y)) refl
  where
    go : (t : Bool) → is_mark (pos r -ℤ pos y) ≡ t → cond t no_cost (nat_abs (pos r -ℤ pos y) * nat_abs (pos r -ℤ pos y)) ≡ gap y r * gap y r
    go true e = absurd (omega (arith, mark-abs (pos r -ℤ pos y) e, way-abs y r, gap_below y r h a b))
    go false e = rw (way-abs y r)

-- in one column the squared distance goes by the row
closer : (x y i a b : ℕ) → gap y a < gap y b → apart x y i a < apart x y i b
unfolding apart
closer x y i a b l = omega (arith, mul-le-mul l l)

as_close : (x y i a b : ℕ) → gap y a ≤ gap y b → apart x y i a ≤ apart x y i b
unfolding apart
as_close x y i a b l = omega (arith, square_le l)

module _ (copper : Mask) (w h : ℕ) (wide : w ≤ max_side) (tall : h ≤ max_side) (x y : ℕ) (inside : y < h) (v : ℕ → ℤ) (G : List ℕ)
    (feet : (k : ℕ) → k < w → Foot copper h k y (v k)) (costs : (k : ℕ) → k < w → get_or G k 0 ≡ way_cost (v k)) where
  -- a column whose way leads to row r is a site, with the price of the squared distance
  priced : (k r : ℕ) → r < h → get_or G k 0 ≡ way_cost (pos r -ℤ pos y) → Site G k × (price G x k ≡ apart x y k r)
  unfolding price_of apart
  priced k r on e =
      let c = e ∙ way-cost y r h tall inside on in
      let g = gap_below y r h inside on in
      let s : gap y r ≤ 2047 = omega arith in
      (omega (arith, c, mul-le-mul s s), rw c)

  -- a column with copper is a site, and its price is at most the squared distance of each of its copper pixels
  column : (i j : ℕ) → Copper copper w h i j → Site G i × (price G x i ≤ apart x y i j)
  column i j c = go (feet i c.across) (costs i c.across)
    where
      go : {u : ℤ} → Foot copper h i y u → get_or G i 0 ≡ way_cost u → Site G i × (price G x i ≤ apart x y i j)
      go (row r best) e = let p = priced i r best.on e in (p.0, omega (arith, p.1, as_close x y i r j (best.least j c.down c.is_copper)))
      go (no_row bare) e = absurd (true≢false (sym c.is_copper ∙ bare j c.down))

  nearest_site : {b : ℕ} {u : ℤ} → Least G w x b → Foot copper h b y u → get_or G b 0 ≡ way_cost u → Exact copper w h x y (pos b -ℤ pos x) u
  nearest_site l (no_row bare) e = absurd (omega (arith, e, l.site))
  nearest_site {b} l (row r best) e =
      to_nearest b r
      (record {
        on_copper = record { across = l.below; down = best.on; is_copper = best.is_copper };
        least = λ i j c. let k = column i j c in omega (arith, here, l.least i c.across k.0, k.1);
        first = λ i j c s. go i j c s (dec_lt b i) (dec_lt i b);
      })
      (record { column = way-ends x b; row = way-ends y r })
    where
      here : price G x b ≡ apart x y b r
      here = (priced b r best.on e).1

      go : (i j : ℕ) → Copper copper w h i j → apart x y i j ≡ apart x y b r → Dec (b < i) → Dec (i < b) → (b < i) ⊎ ((b ≡ i) × (r ≤ j))
      go i j c s (yes p) q = inl p
      go i j c s (no p) (yes q) = let k = column i j c in absurd (omega (arith, here, l.first i q k.0, k.1))
      go i j c s (no p) (no q) = let z : b ≡ i = omega arith in inr (z, upper z (dec_lt j r))
        where
          upper : b ≡ i → Dec (j < r) → r ≤ j
          upper z (yes t) = absurd (omega (arith, closer x y b r j (best.first j t (rw (← z) at c.is_copper)), ap (λ (n : ℕ). apart x y n j) z))
          upper z (no t) = omega arith

  -- the vector to the best site
  pub site_exact : Exact copper w h x y (across (best_site G w x) x) (site_way v (best_site G w x))
  site_exact = go (best-found G w x (omega arith))
    where
      go : {b : ℕ} → Found G w x b → Exact copper w h x y (across b x) (site_way v b)
      go (inl (e, none)) = rw e (bare_sheet (λ i j c. none i c.across (column i j c).0) refl)
      go {b} (inr l) = rw (ne_eqb b no_site (omega (arith, l.below))) (nearest_site l (feet b l.below) (costs b l.below))
