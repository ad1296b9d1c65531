-- When the map of chamfer distances is written for any two weights: document 02, C-12.
-- Assumes nothing.
use Rattle.std.specs.Prelude.{Bool, ◌&&◌, List, ℕ, ◌*◌, eqb, leb, length}
use Rattle.raster.specs.Limits.{side}

-- the weights are allowed, the sides within their limits, and both slices have one entry a pixel
abbrev pub can_map : (sheet values : List ℕ) (w h a b : ℕ) → Bool
can_map sheet values w h a b =
    (leb a b && (leb b (2 * a) && leb b 32)) && ((side w && side h) && (eqb (length sheet) (h * w) && eqb (length values) (h * w)))
