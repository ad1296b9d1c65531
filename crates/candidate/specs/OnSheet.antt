-- Where the vectors of a map end: document 02, C-18. The scans start with vectors that end on copper, and no candidate takes one elsewhere. So each component
-- stays below the side of the sheet, and the code tests for no range.
-- Assumes nothing.
use Rattle.std.specs.Prelude.{◌≡◌, true, false, List, ℕ, ◌*◌, ◌≤◌, ◌<◌, ℤ, length}
use Rattle.raster.specs.Limits.{max_side}
use Rattle.raster.specs.Pixels.{Mask, index}
use Rattle.raster.specs.Vector.{Ends, Target}
use Rattle.raster.specs.Map.{dx_at, dy_at, unlabelled_at}
use Rattle.candidate.specs.Candidate.{relax}

-- m is a map of w × h pixels, and the vector of every labelled pixel ends on copper
pub record OnCopper (copper : Mask) (w h : ℕ) (m : List ℤ) : Type 0 where
  pub long : length m ≡ 2 * (h * w)
  pub target : (x y : ℕ) → x < w → y < h → unlabelled_at m (index w x y) ≡ false
      → Target copper w h x y (dx_at m (index w x y)) (dy_at m (index w x y))

-- what the code asks for: m is a map of width w and of some height, both within their limits, and labelled vectors end on the sheet, copper or not
pub record OnSheet (w : ℕ) (m : List ℤ) : Type 0 where
  pub height : ℕ
  pub wide : w ≤ max_side
  pub tall : height ≤ max_side
  pub ends : OnCopper (λ x y. true) w height m

-- ---- candidates in turn

-- (a, b) is a pixel of the sheet and stands at (ox, oy) from the pixel (x, y)
pub record Hop (w h x y a b : ℕ) (ox oy : ℤ) : Type 0 where
  pub across : x < w
  pub down : y < h
  pub across' : a < w
  pub down' : b < h
  pub step : Ends x y ox oy a b

-- a moment of a scan that started at m: the map after some candidates, one after the other
pub data Moment (w h : ℕ) (m : List ℤ) : List ℤ → Type 0 where
  start : Moment w h m m
  later : (n : List ℤ) (x y a b : ℕ) (ox oy : ℤ) → Moment w h m n → Hop w h x y a b ox oy → Moment w h m (relax (index w x y) (index w a b) ox oy n)
