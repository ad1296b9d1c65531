-- How far the nearest copper of a pixel's column is: upwards, downwards, and the shorter of both.
-- Assumes nothing.
use Rattle.std.specs.Prelude.{◌≡◌, Bool, true, false, cond, List, ℕ, zero, suc, ◌+◌, ◌-◌, ◌*◌, ◌<◌, ◌≤◌, leb, eqb, ℤ, pos, negsuc, neg_ℤ, length, get_or}
use Rattle.raster.specs.Pixels.{Mask, index}
use Rattle.raster.specs.Vector.{mark}

-- how far copper is along a line of pixels, one step farther on than v; 0 on copper, −1 while there is none
abbrev pub farther : (copper : Bool) → ℤ → ℤ
farther true v = pos 0
farther false (pos n) = pos (n + 1)
farther false (negsuc n) = negsuc 0

-- how far it is back from the t-th pixel of the line
unfoldable pub far : (line : ℕ → Bool) (t : ℕ) → ℤ
far line zero = farther (line 0) (negsuc 0)
far line (suc t) = farther (line (suc t)) (far line t)

-- upwards and downwards in column x from row y
abbrev pub up : (copper : Mask) (x y : ℕ) → ℤ
up copper x y = far (copper x) y

abbrev pub down : (copper : Mask) (h x y : ℕ) → ℤ
down copper h x y = far (λ t. copper x (h - 1 - t)) (h - 1 - y)

-- the shorter of the two as a component of a vector, among equals upwards; the mark where there is neither
abbrev pub shorter : (u d : ℤ) → ℤ
shorter (pos u) (pos d) = cond (leb u d) (neg_ℤ (pos u)) (pos d)
shorter (pos u) (negsuc d) = neg_ℤ (pos u)
shorter (negsuc u) (pos d) = pos d
shorter (negsuc u) (negsuc d) = mark

-- the way of the pixel (x, y) to the nearest copper of its column
abbrev pub way_of : (copper : Mask) (h x y : ℕ) → ℤ
way_of copper h x y = shorter (up copper x y) (down copper h x y)

-- a way is 0 on copper alone
abbrev pub is_zero : ℤ → Bool
is_zero (pos n) = eqb n 0
is_zero (negsuc n) = false

-- every pixel has f, and what stands behind them is as it was
pub record EveryPixel (w h : ℕ) (f : (x y : ℕ) → ℤ) (before after : List ℤ) : Type 0 where
  pub long : length after ≡ length before
  pub at : (x y : ℕ) → x < w → y < h → get_or after (index w x y) (pos 0) ≡ f x y
  pub behind : (i : ℕ) → h * w ≤ i → get_or after i (pos 0) ≡ get_or before i (pos 0)
