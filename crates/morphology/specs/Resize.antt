-- Expand and shrink by q: document 01, "Calls", and document 02, C-14. Both go by true squared distance, and write 0 and 1.
-- Assumes nothing.
use Rattle.std.specs.Prelude.{◌≡◌, true, false, not, cond, ◌&&◌, List, ℕ, ◌+◌, ◌-◌, ◌*◌, ◌<◌, min, leb, ltb, ℤ}
use Rattle.raster.specs.Distance.{apart, Clear}
use Rattle.raster.specs.Loop.{any_below}
use Rattle.raster.specs.Pixels.{Mask, pixels}
use Rattle.raster.specs.Place.{is_pixel, apart_from}
use Rattle.raster.specs.Sheet.{copper_of}

-- the true squared distance of (x, y) is at most q: some copper pixel is that near
unfoldable pub near : (copper : Mask) (w h q : ℕ) → Mask
near copper w h q x y = any_below w (λ i. any_below h (λ j. copper i j && leb (apart x y i j) q))

-- the pixels without copper
abbrev pub bare_of : Mask → Mask
bare_of copper x y = not (copper x y)

-- a pixel is copper afterwards if its true squared distance is at most q
abbrev pub grows : (copper : Mask) (w h q : ℕ) → Mask
grows = near

-- C-14: copper stays at (x, y) if no bare pixel of the sheet and none of all the places off the sheet is within squared distance q
pub record Stays (copper : Mask) (w h q x y : ℕ) : Type 0 where
  pub is_copper : copper x y ≡ true
  pub from_bare : Clear (bare_of copper) w h x y q
  pub from_rim : (p : ℤ × ℤ) → is_pixel w h p ≡ false → q < apart_from x y p

-- how many steps lead from (x, y) off the sheet, straight across the nearest of its four sides
unfoldable pub steps_off : (w h x y : ℕ) → ℕ
steps_off w h x y = min (min (x + 1) (w - x)) (min (y + 1) (h - y))

-- every place off the sheet is at squared distance above q: of them all, the one straight across the nearest side is the nearest
abbrev pub far_from_rim : (w h q : ℕ) → Mask
far_from_rim w h q x y = ltb q (steps_off w h x y * steps_off w h x y)

-- `Stays` as a test (`stays-says`, `stays-true` in proofs/Rim)
abbrev pub stays : (copper : Mask) (w h q : ℕ) → Mask
stays copper w h q x y = copper x y && (not (near (bare_of copper) w h q x y) && far_from_rim w h q x y)

-- the sheets that expand and shrink leave
unfoldable pub expanded : (w h q : ℕ) → List ℕ → List ℕ
expanded w h q s = pixels w h (λ x y. cond (grows (copper_of s w) w h q x y) 1 0)

unfoldable pub shrunk : (w h q : ℕ) → List ℕ → List ℕ
shrunk w h q s = pixels w h (λ x y. cond (stays (copper_of s w) w h q x y) 1 0)
