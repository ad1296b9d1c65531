-- One candidate of a scan: document 01, "Engines", on a map with any contents.
-- Assumes nothing.
use Rattle.std.specs.Prelude.{ℕ, cond, List, ℤ, ◌+ℤ◌}
use Rattle.raster.specs.Vector.{replaces}
use Rattle.raster.specs.Map.{dx_at, dy_at, unlabelled_at, put}

-- the pixel `at` takes the vector (cx, cy) if that replaces the present one
unfoldable pub offer : (cx cy : ℤ) (at : ℕ) → List ℤ → List ℤ
offer cx cy at m = cond (replaces (dx_at m at) (dy_at m at) cx cy) (put at cx cy m) m

-- the pixel `at` is offered the candidate of its neighbour `from`, which stands at (ox, oy) from it: the neighbour's vector plus that way. An unlabelled
-- neighbour gives none.
abbrev pub relax : (at from : ℕ) (ox oy : ℤ) → List ℤ → List ℤ
relax at from ox oy m = cond (unlabelled_at m from) m (offer (dx_at m from +ℤ ox) (dy_at m from +ℤ oy) at m)
