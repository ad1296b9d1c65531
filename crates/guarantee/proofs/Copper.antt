-- The copper that calls leave: that of a cleared, filled, expanded or shrunk sheet, pixel by pixel.
-- Assumes nothing.
use mathlib.Core.Path.{◌≡◌, refl, ◌∙◌}
use mathlib.Core.Bool.{Bool, true, false, not, cond}
use mathlib.Core.List.{List}
use Prim.Native.Nat.{ℕ, ◌*◌, ◌<◌}
use native.Mathlib.Omega.{arith}
use lib.Dec.{eqb}
use lib.ListN.{length, get_or, get_or-replicate}
use Rattle.raster.specs.Pixels.{Mask, index}
use Rattle.raster.specs.PixelsLaws.{index-inside, pixels-at}
use Rattle.raster.specs.Sheet.{copper_of, bare, in_rectangle, filled}
use Rattle.morphology.specs.Resize.{near, bare_of, grows, stays, expanded, shrunk}
use Rattle.morphology.proofs.Resized.{near_same}

-- a byte written by a test is copper where the test holds
byte : (t : Bool) → not (eqb (cond t 1 0) 0) ≡ t
byte true = refl
byte false = refl

module _ (w h i j : ℕ) (across : i < w) (down : j < h) where
  pub bare-copper : (sheet : List ℕ) → length sheet ≡ h * w → copper_of (bare sheet) w i j ≡ false
  unfolding copper_of
  bare-copper sheet whole = rw (get_or-replicate {A = ℕ} (length sheet) (index w i j) 0 0 (omega (arith, whole, index-inside w i j across h down)))

  pub filled-copper : (x y cols rows v : ℕ) (sheet : List ℕ)
      → copper_of (filled w h x y cols rows v sheet) w i j ≡ cond (in_rectangle x y cols rows i j) (not (eqb v 0)) (copper_of sheet w i j)
  unfolding copper_of filled
  filled-copper x y cols rows v sheet = rw (pixels-at {A = ℕ} w h (λ a b. cond (in_rectangle x y cols rows a b) v (get_or sheet (index w a b) 0)) i j 0 across down) (go (in_rectangle x y cols rows i j))
    where
      go : (t : Bool) → not (eqb (cond t v (get_or sheet (index w i j) 0)) 0) ≡ cond t (not (eqb v 0)) (not (eqb (get_or sheet (index w i j) 0) 0))
      go true = refl
      go false = refl

  -- on masks that agree on the sheet
  module _ (q : ℕ) (sheet : List ℕ) (copper : Mask) (same : (a b : ℕ) → a < w → b < h → copper_of sheet w a b ≡ copper a b) where
    pub expanded-copper : copper_of (expanded w h q sheet) w i j ≡ grows copper w h q i j
    unfolding copper_of expanded
    expanded-copper =
        rw (pixels-at {A = ℕ} w h (λ a b. cond (grows (copper_of sheet w) w h q a b) 1 0) i j 0 across down)
        (byte (near (copper_of sheet w) w h q i j) ∙ near_same (copper_of sheet w) copper w h q i j same)

    pub shrunk-copper : copper_of (shrunk w h q sheet) w i j ≡ stays copper w h q i j
    unfolding copper_of shrunk
    shrunk-copper =
        rw (pixels-at {A = ℕ} w h (λ a b. cond (stays (copper_of sheet w) w h q a b) 1 0) i j 0 across down)
        (byte (stays (copper_of sheet w) w h q i j)
        ∙ rw (same i j across down, near_same (bare_of (copper_of sheet w)) (bare_of copper) w h q i j (λ a b k l. rw (same a b k l))))
