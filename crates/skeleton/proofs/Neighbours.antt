-- The neighbours of a pixel: the bands of its row and of those beside it tell whether one of them takes it off, and so whether it is kept.
-- Assumes nothing.
use mathlib.Core.Path.{◌≡◌, refl, sym, ap, ◌∙◌}
use mathlib.Core.Logic.{◌≢◌}
use mathlib.Core.Bool.{Bool, true, false, not, cond, ◌&&◌, ◌||◌, or-false}
use mathlib.Core.List.{List}
use Prim.Native.Nat.{ℕ, ◌+◌, ◌-◌, ◌<◌}
use native.Mathlib.Omega.{arith}
use lib.Dec.{eqb, leb}
use lib.IntN.{ℤ}
use borrow.Author.Tests.{ne_eqb, eqb-false}
use Rattle.raster.specs.Distance.{gap}
use Rattle.raster.specs.Loop.{any_below}
use Rattle.raster.specs.Map.{size_at, unlabelled_at}
use Rattle.raster.specs.Pixels.{index}
use Rattle.skeleton.specs.declared.Band.{Band}
use Rattle.skeleton.specs.Table.{g, least}
use Rattle.skeleton.specs.Skeleton.{takes, on_side, taken_by, removed, kept}
use Rattle.skeleton.specs.Bands.{counted, taken_at, on_sheet, BandOf, taken_in, kept_in}
use Rattle.skeleton.proofs.Bands.{from_zero}

-- three tests are `any_below` of three
any-three : (f : ℕ → Bool) {p q r : Bool} → p ≡ f 2 → q ≡ f 1 → r ≡ f 0 → p || (q || r) ≡ any_below 3 f
unfolding any_below
any-three f a b c = rw (a, b, c, or-false (f 0))

-- size 1 takes off what has size 0
g-one : (corner : Bool) → g corner 1 ≡ 0
unfolding g least gap
g-one true = refl
g-one false = refl

-- what a pixel of size n takes off, of those whose size s is not 0
counted-takes : (corner : Bool) (n s : ℕ) → s ≢ 0 → eqb (g corner (counted n)) s ≡ takes corner n s
counted-takes corner n s bare = go (leb 1 n && leb n 400)
  where
    go : (t : Bool) → eqb (g corner (cond t n 1)) s ≡ t && eqb (g corner n) s
    go true = refl
    go false = ne_eqb (g corner 1) s (λ q. bare (sym q ∙ g-one corner))

module _ (m : List ℤ) (w h x y : ℕ) where
  -- the pixel itself does not take itself off
  self : false ≡ taken_by m w h x y 1 1
  unfolding taken_by
  self = refl

  module _ (bare : size_at m (index w x y) ≢ 0) where
    -- any other neighbour takes it off exactly if its entry is the size
    taken_is : (a b i j : ℕ) → i ≡ x + a → j ≡ y + b → eqb a 1 && eqb b 1 ≡ false
        → eqb (on_sheet w h (taken_at (not (eqb a 1) && not (eqb b 1)) m) i j) (size_at m (index w x y)) ≡ taken_by m w h x y a b
    unfolding taken_by
    taken_is a b i j p q other = rw (p, q, other) (go (on_side w (x + a) && on_side h (y + b)))
      where
        corner : Bool
        corner = not (eqb a 1) && not (eqb b 1)

        n : ℕ
        n = size_at m (index w (x + a - 1) (y + b - 1))

        go : (t : Bool) → eqb (cond t (g corner (counted n)) 0) (size_at m (index w x y)) ≡ t && takes corner n (size_at m (index w x y))
        go true = counted-takes corner n (size_at m (index w x y)) bare
        go false = ne_eqb 0 (size_at m (index w x y)) (λ q. bare (sym q))

    module _ {above row below : Band} (l : x < w) (a : BandOf m w h y above) (r : BandOf m w h (y + 1) row) (b : BandOf m w h (y + 1 + 1) below) where
      removed_is : taken_in above row below x (size_at m (index w x y)) ≡ removed m w h x y
      unfolding removed
      removed_is =
          any-three (λ i. any_below 3 (λ j. taken_by m w h x y i j))
          (any-three (taken_by m w h x y 2)
          (same (from_zero b.corners (x + 2) (omega arith)) (taken_is 2 2 (x + 2) (y + 1 + 1) refl (omega arith) refl))
          (same (from_zero r.sides (x + 2) (omega arith)) (taken_is 2 1 (x + 2) (y + 1) refl refl refl))
          (same (from_zero a.corners (x + 2) (omega arith)) (taken_is 2 0 (x + 2) y refl (omega arith) refl)))
          (any-three (taken_by m w h x y 1)
          (same (from_zero b.sides (x + 1) (omega arith)) (taken_is 1 2 (x + 1) (y + 1 + 1) refl (omega arith) refl))
          self
          (same (from_zero a.sides (x + 1) (omega arith)) (taken_is 1 0 (x + 1) y refl (omega arith) refl)))
          (any-three (taken_by m w h x y 0)
          (same (from_zero b.corners x (omega arith)) (taken_is 0 2 x (y + 1 + 1) (omega arith) (omega arith) refl))
          (same (from_zero r.sides x (omega arith)) (taken_is 0 1 x (y + 1) (omega arith) refl refl))
          (same (from_zero a.corners x (omega arith)) (taken_is 0 0 x y (omega arith) (omega arith) refl)))
        where
          same : {u v : ℕ} {t : Bool} → u ≡ v → eqb v (size_at m (index w x y)) ≡ t → eqb u (size_at m (index w x y)) ≡ t
          same e f = ap (λ (v : ℕ). eqb v (size_at m (index w x y))) e ∙ f

  -- a pixel is kept as the bands say
  pub kept_is : {above row below : Band} → x < w → y < h → BandOf m w h y above → BandOf m w h (y + 1) row → BandOf m w h (y + 1 + 1) below
      → kept_in above row below x ≡ cond (kept m w h x y) 1 0
  kept_is {above} {row} {below} l k a r b = rw ((r.sizes y refl k).entry x l) (go (unlabelled_at m (index w x y)))
    where
      n : ℕ
      n = size_at m (index w x y)

      turned : (t : Bool) → ◌≡◌ {A = ℕ} (cond t 0 1) (cond (not t) 1 0)
      turned true = refl
      turned false = refl

      labelled : (t : Bool) → eqb n 0 ≡ t → ◌≡◌ {A = ℕ} (cond (t || taken_in above row below x n) 0 1) (cond (not t && not (removed m w h x y)) 1 0)
      labelled true e = refl
      labelled false e = rw (removed_is (eqb-false n 0 e) l a r b) (turned (removed m w h x y))

      go : (u : Bool)
          → ◌≡◌ {A = ℕ} (cond (eqb (cond u 0 n) 0 || taken_in above row below x (cond u 0 n)) 0 1)
          (cond ((not u && not (eqb n 0)) && not (removed m w h x y)) 1 0)
      go true = refl
      go false = labelled (eqb n 0) refl
