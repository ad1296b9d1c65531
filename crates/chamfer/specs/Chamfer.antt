-- The map of chamfer distances: document 02, C-12. One number a pixel, a value: the least, over the copper pixels of the sheet, of what a way there costs by
-- side steps of weight a and corner steps of weight b.
-- Assumes nothing.
use Rattle.std.specs.Prelude.{List, ℕ, ◌+◌, ◌*◌, ◌-◌, ◌≤◌, max, min}
use Rattle.raster.specs.Distance.{gap, least_to_copper}
use Rattle.raster.specs.Pixels.{Mask, pixels}

-- the weights of a side step and of a corner step that document 02 allows
pub record Weights (a b : ℕ) : Type 0 where
  pub ordered : a ≤ b
  pub no_detour : b ≤ 2 * a
  pub small : b ≤ 32

-- between two pixels that lie u columns and v rows apart, M the larger and m the smaller of both: a × (M − m) + b × m
unfoldable pub chamfer_distance : (a b u v : ℕ) → ℕ
chamfer_distance a b u v = a * (max u v - min u v) + b * min u v

-- the value that says unlabelled: 65,535
abbrev pub no_value : ℕ
no_value = 65535

module _ (a b : ℕ) (copper : Mask) (w h : ℕ) where
  -- the value of the pixel (x, y): the least that a copper pixel gives it, unlabelled without copper
  unfoldable pub value : (x y : ℕ) → ℕ
  value x y = least_to_copper no_value copper w h (λ i j. chamfer_distance a b (gap x i) (gap y j))

  -- at every pixel
  unfoldable pub chamfer_map : List ℕ
  chamfer_map = pixels w h value
