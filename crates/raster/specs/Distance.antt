-- Squared distance, and what it means that copper is near or is not: document 01, "Sheet, map, session". The true squared distance e of a
-- pixel is the least squared distance to a copper pixel, and counts as above every number where there is no copper. So "e is at most q" is
-- `Near` and "e is above q" is `Clear`. Document 02's C-19 asks for e as a number (`true_distance`).
-- Assumes nothing.
use Rattle.std.specs.Prelude.{◌≡◌, true, cond, ℕ, ◌+◌, ◌*◌, ◌-◌, ◌<◌, ◌≤◌}
use Rattle.raster.specs.Loop.{least_below}
use Rattle.raster.specs.Pixels.{Mask}

-- how far two numbers lie apart
unfoldable pub gap : ℕ → ℕ → ℕ
gap a b = (a - b) + (b - a)

-- the squared distance of the pixels (x, y) and (i, j)
unfoldable pub apart : (x y i j : ℕ) → ℕ
apart x y i j = gap x i * gap x i + gap y j * gap y j

-- (x, y) is a copper pixel of the sheet of w × h pixels
pub record Copper (m : Mask) (w h x y : ℕ) : Type 0 where
  pub across : x < w
  pub down : y < h
  pub is_copper : m x y ≡ true

-- every copper pixel is at squared distance above q from (x, y)
abbrev pub Clear : (m : Mask) (w h x y q : ℕ) → Type 0
Clear m w h x y q = (i j : ℕ) → Copper m w h i j → q < apart x y i j

-- every copper pixel is at squared distance above q from each point that divides the way from (x, y) to (u, v) in a ratio m : n of whole numbers, not both 0:
-- document 02, C-20. The point is ((n x + m u) / (m + n), (n y + m v) / (m + n)). Here it and the copper pixel are multiplied by m + n, so that squared
-- distances are (m + n)² times as large.
abbrev pub ClearBetween : (copper : Mask) (w h x y u v q : ℕ) → Type 0
ClearBetween copper w h x y u v q = (m n : ℕ) → 1 ≤ m + n → (i j : ℕ) → Copper copper w h i j
    → (m + n) * (m + n) * q < apart (n * x + m * u) (n * y + m * v) ((m + n) * i) ((m + n) * j)

-- some copper pixel is at squared distance at most q from (x, y)
pub record Near (m : Mask) (w h x y q : ℕ) : Type 0 where
  pub column : ℕ
  pub row : ℕ
  pub copper : Copper m w h column row
  pub within : apart x y column row ≤ q

-- ---- the least over all copper

-- the least of what the copper pixels of the sheet give, d i j each, and `top` if none gives less
unfoldable pub least_to_copper : (top : ℕ) (m : Mask) (w h : ℕ) (d : (i j : ℕ) → ℕ) → ℕ
least_to_copper top m w h d = least_below top h (λ j. least_below top w (λ i. cond (m i j) (d i j) top))

-- the number that stands for the true squared distance where there is no copper
abbrev pub no_distance : ℕ
no_distance = 4294967295

-- the true squared distance of the pixel (x, y)
unfoldable pub true_distance : (m : Mask) (w h x y : ℕ) → ℕ
true_distance m w h x y = least_to_copper no_distance m w h (apart x y)
