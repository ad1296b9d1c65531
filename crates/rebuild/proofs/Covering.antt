-- A row covers what its best sites hit: the cost of a site is 2^31 less its size, so that it covers a pixel exactly if the pixel's price stays below 2^31.
-- Assumes nothing.
use mathlib.Core.Path.{◌≡◌, refl, ◌∙◌}
use mathlib.Core.Logic.{⊎_elim}
use mathlib.Core.Bool.{Bool, true, false, not, cond, ◌&&◌, false≢true}
use mathlib.Core.List.{List}
use Prim.Native.Nat.{ℕ, ◌+◌, ◌-◌, ◌*◌, ◌<◌, ◌≤◌}
use native.Mathlib.Omega.{arith}
use lib.Dec.{eqb, ltb}
use lib.IntN.{ℤ}
use lib.ListN.{get_or}
use borrow.Author.Tests.{lt-ltb, ltb-true, ne_eqb, eq-eqb}
use Rattle.raster.specs.Distance.{gap, apart}
use Rattle.raster.specs.Loop.{any_below}
use Rattle.raster.specs.LoopLaws.{any_found, any-true}
use Rattle.raster.specs.Map.{size_at, unlabelled_at}
use Rattle.raster.specs.Pixels.{index}
use Rattle.raster.specs.Sheet.{copper_of}
use Rattle.raster.specs.Tests.{and_left, and_right, same}
use Rattle.envelope.specs.Best.{no_cost, no_site, price_of, price, Site, best_site}
use Rattle.envelope.specs.BestLaws.{Least, best-found}
use Rattle.rebuild.specs.Rebuild.{covers}
use Rattle.rebuild.specs.Passes.{pass_row, row_covers, Priced, hit_by}

-- ---- what a pixel costs

-- a marked, labelled pixel costs v, and a site is one
site_open : (a b : Bool) (v : ℕ) → cond a no_cost (cond b no_cost v) < no_cost → (not a && not b ≡ true) × (cond a no_cost (cond b no_cost v) ≡ v)
site_open true b v l = absurd (omega arith)
site_open false true v l = absurd (omega arith)
site_open false false v l = (refl, refl)

open_cost : (a b : Bool) (v : ℕ) → not a && not b ≡ true → cond a no_cost (cond b no_cost v) ≡ v
open_cost true b v e = absurd (false≢true e)
open_cost false true v e = absurd (false≢true e)
open_cost false false v e = refl

-- ---- a row and the pixels of another, z

module _ {m : List ℤ} {w : ℕ} {marks cost : List ℕ} (h y : ℕ) (p : Priced m marks (y * w) w cost) (x z : ℕ) where
  -- a pixel that covers is a site, and its price stays below 2^31
  from_cover : (i : ℕ) → i < w → covers m w h marks x z i y ≡ true → Site cost i × (gap z y * gap z y + price cost x i < 2147483648)
  unfolding copper_of apart price_of
  from_cover i l e =
      let q = index w i y in
      let a = eqb (get_or marks q 0) 0 in
      let b = unlabelled_at m q in
      let c = p.costs i l ∙ open_cost a b (2147483648 - size_at m q) (and_left (not a && not b) _ e) in
      let f = ltb-true (apart x z i y) (size_at m q) (and_right (not a && not b) _ e) in
      let s : Site cost i = omega arith in
      (s, omega (arith, p.sizes i l s))

  -- a site of the row whose price stays below 2^31 is a pixel that covers
  to_cover : (i : ℕ) → i < w → Site cost i → gap z y * gap z y + price cost x i < 2147483648 → covers m w h marks x z i y ≡ true
  unfolding copper_of apart price_of
  to_cover i l s f =
      let q = index w i y in
      let o = site_open (eqb (get_or marks q 0) 0) (unlabelled_at m q) (2147483648 - size_at m q) (rw (p.costs i l) at s) in
      let c = p.costs i l ∙ o.1 in
      rw o.0 (lt-ltb (apart x z i y) (size_at m q) (omega (arith, p.sizes i l s)))

  -- the best site of the row hits exactly if some pixel of it covers
  pub hit_line : (t k : ℕ) → w ≤ 2048 → k - t ≡ gap z y → hit_by cost t x (best_site cost w x) k ≡ row_covers m w h marks x z y
  unfolding row_covers
  hit_line t k few d = ⊎_elim none least (best-found cost w x (omega arith))
    where
      none : ((best_site cost w x ≡ no_site) × ((s : ℕ) → s < w → Site cost s → ⊥)) → hit_by cost t x (best_site cost w x) k ≡ any_below w (λ i. covers m w h marks x z i y)
      none n =
          rw (eq-eqb (best_site cost w x) no_site n.0)
          (same false (any_below w (λ i. covers m w h marks x z i y)) (λ e. absurd (false≢true e))
          (λ e. let f = any_found w _ e in absurd (n.1 f.witness f.below (from_cover f.witness f.below f.passes).0)))

      least : Least cost w x (best_site cost w x) → hit_by cost t x (best_site cost w x) k ≡ any_below w (λ i. covers m w h marks x z i y)
      least b =
          rw (ne_eqb (best_site cost w x) no_site (omega (arith, b.below)), d)
          (same (ltb (gap z y * gap z y + price cost x (best_site cost w x)) 2147483648) (any_below w (λ i. covers m w h marks x z i y))
          (λ e. any-true w _ (best_site cost w x) b.below (to_cover (best_site cost w x) b.below b.site (ltb-true _ _ e)))
          (λ e.
          let f = any_found w _ e in
          let g = from_cover f.witness f.below f.passes in
          lt-ltb (gap z y * gap z y + price cost x (best_site cost w x)) 2147483648 (omega (arith, g.1, b.least f.witness f.below g.0))))

-- two rows of a pass lie as far apart as their turns
pub turns_apart : (up : Bool) (h t k : ℕ) → t ≤ k → k < h → k - t ≡ gap (pass_row up h k) (pass_row up h t)
unfolding gap
turns_apart true h t k a b = omega arith
turns_apart false h t k a b = omega arith
