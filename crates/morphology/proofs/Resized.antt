-- The sheet written by the sizes of the exact map is the one expanded; by those of the map of the sheet turned round, the one shrunk.
-- Assumes nothing.
use mathlib.Core.Path.{◌≡◌, refl, sym, ap, ◌∙◌}
use mathlib.Core.Bool.{Bool, true, false, not, cond, ◌&&◌}
use mathlib.Core.List.{List}
use Prim.Native.Nat.{ℕ, ◌*◌, ◌<◌, ◌≤◌}
use native.Mathlib.Omega.{arith}
use lib.Dec.{eqb}
use lib.ListN.{length, get_or}
use Rattle.raster.specs.Distance.{Near, Copper}
use Rattle.raster.specs.DistanceLaws.{apart-self}
use Rattle.raster.specs.Limits.{max_side, max_q}
use Rattle.raster.specs.Pixels.{Mask, index}
use Rattle.raster.specs.PixelsLaws.{index-inside, tabulate-at, pixels-length, pixels-at, pixels_is}
use Rattle.raster.specs.Sheet.{copper_of}
use Rattle.raster.specs.Tests.{same}
use Rattle.exact.specs.Nearest.{exact_map}
use Rattle.morphology.specs.Resize.{near, bare_of, far_from_rim, stays, expanded, shrunk}
use Rattle.morphology.specs.Threshold.{turned, flipped, inner, thresholded, RootUpTo}
use Rattle.morphology.proofs.Near.{near-found, near-true, size-near}
use Rattle.morphology.proofs.Rim.{inner-true, inner_is}

-- ---- the sheet turned round

flipped-copper : (s : List ℕ) (w h x y : ℕ) → length s ≡ h * w → x < w → y < h → copper_of (flipped s) w x y ≡ bare_of (copper_of s w) x y
unfolding copper_of flipped
flipped-copper s w h x y whole a b = rw (tabulate-at (length s) (λ p. turned (get_or s p 0)) (index w x y) 0 (omega (arith, index-inside w x y a h b))) (go (eqb (get_or s (index w x y) 0) 0))
  where
    go : (t : Bool) → not (eqb (cond t 1 0) 0) ≡ not (not t)
    go true = refl
    go false = refl

-- masks that agree on the sheet have the same pixels near
pub near_same : (a b : Mask) (w h q x y : ℕ) → ((i j : ℕ) → i < w → j < h → a i j ≡ b i j) → near a w h q x y ≡ near b w h q x y
near_same a b w h q x y agree =
    same (near a w h q x y) (near b w h q x y)
    (λ e. near-true b w h q x y (moved a b agree (near-found a w h q x y e)))
    (λ e. near-true a w h q x y (moved b a (λ i j k l. sym (agree i j k l)) (near-found b w h q x y e)))
  where
    moved : (a b : Mask) → ((i j : ℕ) → i < w → j < h → a i j ≡ b i j) → Near a w h x y q → Near b w h x y q
    moved a b agree n =
        let c = n.copper in
        record { column = n.column; row = n.row; copper = record { across = c.across; down = c.down; is_copper = sym (agree n.column n.row c.across c.down) ∙ c.is_copper }; within = n.within }

-- copper is near itself, however small q
near-self : (copper : Mask) (w h q x y : ℕ) → Copper copper w h x y → near copper w h q x y ≡ true
near-self copper w h q x y c = near-true copper w h q x y (record { column = x; row = y; copper = c; within = omega (arith, apart-self x y) })

-- a bare pixel is near a bare one, so that no test of the copper is needed
stays_is : (copper : Mask) (w h q x y : ℕ) → x < w → y < h → stays copper w h q x y ≡ not (near (bare_of copper) w h q x y) && far_from_rim w h q x y
stays_is copper w h q x y across down = go (copper x y) refl
  where
    rest : Bool
    rest = not (near (bare_of copper) w h q x y) && far_from_rim w h q x y

    go : (t : Bool) → copper x y ≡ t → t && rest ≡ rest
    go true e = refl
    go false e = rw (near-self (bare_of copper) w h q x y (record { across = across; down = down; is_copper = rw e }))

-- ---- by the sizes

module _ (w h q : ℕ) (wide : w ≤ max_side) (tall : h ≤ max_side) (small : q ≤ max_q) where
  -- a sheet written by an exact map, pixel by pixel
  level-at : (copper : Mask) (v rim x y : ℕ) → x < w → y < h
      → get_or (thresholded (exact_map copper w h) w h q v rim) (index w x y) 0
      ≡ cond (inner rim h y && inner rim w x) (cond (near copper w h q x y) v (turned v)) v
  unfolding thresholded
  level-at copper v rim x y a b =
      pixels-at w h _ x y 0 a b
      ∙ ap (λ (t : Bool). cond (inner rim h y && inner rim w x) (cond t v (turned v)) v) (size-near copper w h q x y wide tall a b small)

  thresholded-length : (copper : Mask) (v rim : ℕ) → length (thresholded (exact_map copper w h) w h q v rim) ≡ h * w
  unfolding thresholded
  thresholded-length copper v rim = pixels-length w h _

  pub expands : (s : List ℕ) → thresholded (exact_map (copper_of s w) w h) w h q 1 0 ≡ expanded w h q s
  unfolding expanded
  expands s = pixels_is w h _ _ 0 (thresholded-length (copper_of s w) 1 0) (λ x y a b.
      level-at (copper_of s w) 1 0 x y a b
      ∙ rw (inner-true 0 h y (omega arith) (omega arith), inner-true 0 w x (omega arith) (omega arith)))

  pub shrinks : (s : List ℕ) {rim : ℕ} → length s ≡ h * w → RootUpTo w q rim
      → thresholded (exact_map (copper_of (flipped s) w) w h) w h q 0 rim ≡ shrunk w h q s
  unfolding shrunk
  shrinks s {rim} whole root = pixels_is w h _ _ 0 (thresholded-length (copper_of (flipped s) w) 0 rim) (λ x y a b.
      let bare = near_same (copper_of (flipped s) w) (bare_of (copper_of s w)) w h q x y (λ i j k l. flipped-copper s w h i j whole k l) in
      level-at (copper_of (flipped s) w) 0 rim x y a b
      ∙ rw (inner_is w h x y a b root, bare) (swap (near (bare_of (copper_of s w)) w h q x y) (far_from_rim w h q x y))
      ∙ ap (λ (t : Bool). cond {A = ℕ} t 1 0) (sym (stays_is (copper_of s w) w h q x y a b)))
    where
      swap : (n r : Bool) → ◌≡◌ {A = ℕ} (cond r (cond n 0 1) 0) (cond (not n && r) 1 0)
      swap true true = refl
      swap true false = refl
      swap false true = refl
      swap false false = refl
