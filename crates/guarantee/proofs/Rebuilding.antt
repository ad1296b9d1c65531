-- What skeleton and rebuild guarantee on the exact map of a sheet with copper, of up to 2,048 × 2,048 pixels: document 01, "Skeleton", and demand 2.
--   The disk of every bare pixel lies in that of a kept one (`bare-held`). No disk holds copper (`disk_bare`). So the sheet rebuilt from the skeleton has 1
--   exactly at the bare pixels (`rebuilt-bare`), also where sizes pass 400.
-- Assumes nothing.
use mathlib.Core.Path.{◌≡◌, refl, sym, ap₂, ◌∙◌}
use mathlib.Core.Bool.{Bool, true, false, cond, ◌&&◌, true≢false}
use mathlib.Core.List.{List}
use Prim.Native.Nat.{ℕ, ◌<◌, ◌≤◌}
use native.Mathlib.Decide.{ℕ_discrete}
use native.Mathlib.Omega.{arith}
use lib.IntN.{ℤ}
use borrow.Author.Tests.{ltb-true, lt-ltb}
use Rattle.raster.specs.Distance.{apart, Copper}
use Rattle.raster.specs.DistanceLaws.{apart-self, apart-swap, apart-zero}
use Rattle.raster.specs.Limits.{max_side}
use Rattle.raster.specs.LoopLaws.{any_found, any-true}
use Rattle.raster.specs.Map.{size_at, unlabelled_at}
use Rattle.raster.specs.Pixels.{Mask, index, pixels}
use Rattle.raster.specs.PixelsLaws.{pixels-at, pixels_is, pixels-length}
use Rattle.raster.specs.Sheet.{copper_of}
use Rattle.raster.specs.Tests.{and_right}
use Rattle.raster.specs.VectorLaws.{ends-size}
use Rattle.exact.specs.Nearest.{exact_map}
use Rattle.exact.proofs.Theorems.{least, with_copper, ends-on-copper}
use Rattle.rebuild.specs.Rebuild.{covered, rebuilt}
use Rattle.skeleton.specs.Skeleton.{kept, skeleton_of}
use Rattle.skeleton.proofs.Theorems.{HeldBy, kept_disk}

module _ (copper : Mask) (w h : ℕ) (wide : w ≤ max_side) (tall : h ≤ max_side) where
  abbrev m : List ℤ
  m = exact_map copper w h

  -- no disk holds copper
  pub disk_bare : (i j x y : ℕ) → i < w → j < h → Copper copper w h x y → size_at m (index w i j) ≤ apart i j x y
  disk_bare i j x y a b c = least copper w h wide tall i j a b x y c

  module _ (ci cj : ℕ) (some-copper : Copper copper w h ci cj) where
    labelled : (x y : ℕ) → x < w → y < h → unlabelled_at m (index w x y) ≡ false
    labelled x y a b = with_copper copper w h wide tall x y a b ci cj some-copper

    -- a bare pixel has a size above 0
    bare-size : (x y : ℕ) → x < w → y < h → copper x y ≡ false → 0 < size_at m (index w x y)
    bare-size x y a b e =
        let t = ends-on-copper copper w h wide tall x y a b (labelled x y a b) in
        elim (ℕ_discrete (size_at m (index w x y)) 0) [
          | yes z ↦ let p = apart-zero x y t.column t.row (sym (ends-size t.ends) ∙ z) in
              absurd (true≢false (sym t.on_copper.is_copper ∙ sym (ap₂ copper p.0 p.1) ∙ e))
          | no n ↦ omega arith
        ]

    -- the disk of every bare pixel lies in that of a kept one
    pub bare-held : (x y : ℕ) → x < w → y < h → copper x y ≡ false → HeldBy m w h x y
    bare-held x y a b e = kept_disk m w h labelled x y a b (bare-size x y a b e)

    -- ---- the sheet rebuilt from the skeleton

    marked : (i j : ℕ) → i < w → j < h → kept m w h i j ≡ true → copper_of (skeleton_of m w h) w i j ≡ true
    unfolding copper_of skeleton_of
    marked i j a b e = rw (pixels-at {A = ℕ} w h (λ x y. cond (kept m w h x y) 1 0) i j 0 a b, e)

    bare-covered : (x y : ℕ) → x < w → y < h → copper x y ≡ false → covered m w h (skeleton_of m w h) x y ≡ true
    unfolding covered
    bare-covered x y a b e =
        let k = bare-held x y a b e in
        let here = k.disk x y (omega (arith, apart-self x y, bare-size x y a b e)) in
        any-true w _ k.column k.across
        (any-true h _ k.row k.down
        (simp (
          marked k.column k.row k.across k.down k.is_kept,
          labelled k.column k.row k.across k.down,
          lt-ltb (apart x y k.column k.row) (size_at m (index w k.column k.row)) (omega (arith, apart-swap x y k.column k.row)),
        )))

    covered-bare : (x y : ℕ) → x < w → y < h → covered m w h (skeleton_of m w h) x y ≡ true → copper x y ≡ true → ⊥
    unfolding covered
    covered-bare x y a b e c =
        let i = any_found w _ e in
        let j = any_found h _ i.passes in
        let l = ltb-true (apart x y i.witness j.witness) (size_at m (index w i.witness j.witness)) (and_right (copper_of (skeleton_of m w h) w i.witness j.witness && _) _ j.passes) in
        omega (arith, apart-swap x y i.witness j.witness, disk_bare i.witness j.witness x y i.below j.below (record { across = a; down = b; is_copper = c }))

    -- rebuilding gives exactly the bare pixels
    pub rebuilt-bare : rebuilt m w h (skeleton_of m w h) ≡ pixels w h (λ x y. cond (copper x y) 0 1)
    unfolding rebuilt
    rebuilt-bare = pixels_is w h _ _ 0 (pixels-length w h _) (λ x y a b. pixels-at w h _ x y 0 a b ∙ go x y a b (copper x y) refl (covered m w h (skeleton_of m w h) x y) refl)
      where
        go : (x y : ℕ) → x < w → y < h → (t : Bool) → copper x y ≡ t → (u : Bool) → covered m w h (skeleton_of m w h) x y ≡ u → ◌≡◌ {A = ℕ} (cond u 1 0) (cond t 0 1)
        go x y a b true e true q = absurd (covered-bare x y a b q e)
        go x y a b true e false q = refl
        go x y a b false e true q = refl
        go x y a b false e false q = absurd (true≢false (sym (bare-covered x y a b e) ∙ q))
