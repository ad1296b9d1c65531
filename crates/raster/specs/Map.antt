-- A map: two signed numbers a pixel, dx then dy, in one list (document 01, "Sheet, map, session").
-- Assumes nothing.
use Rattle.std.specs.Prelude.{ℕ, ◌+◌, ◌*◌, ◌/◌, ◌%◌, ◌<◌, Bool, cond, List, eqb, ℤ, pos, length, get_or, set, replicate}
use Rattle.raster.specs.Loop.{any_below}
use Rattle.raster.specs.Pixels.{tabulate}
use Rattle.raster.specs.Vector.{mark, size, unlabelled}

-- pixel p lies in the map m
abbrev pub Inside : ℕ → List ℤ → Type 0
Inside p m = 2 * p + 1 < length m

-- the two components at pixel p
abbrev pub dx_at : List ℤ → ℕ → ℤ
dx_at m p = get_or m (2 * p) (pos 0)

abbrev pub dy_at : List ℤ → ℕ → ℤ
dy_at m p = get_or m (2 * p + 1) (pos 0)

-- the size at pixel p
abbrev pub size_at : List ℤ → ℕ → ℕ
size_at m p = size (dx_at m p) (dy_at m p)

-- pixel p has no vector
abbrev pub unlabelled_at : List ℤ → ℕ → Bool
unlabelled_at m p = unlabelled (dx_at m p) (dy_at m p)

-- m with the vector (dx, dy) at pixel p
unfoldable pub put : ℕ → ℤ → ℤ → List ℤ → List ℤ
put p dx dy m = set (set m (2 * p) dx) (2 * p + 1) dy

-- the map that has the vector (dx x y, dy x y) at pixel (x, y)
unfoldable pub vectors : (w h : ℕ) (dx dy : ℕ → ℕ → ℤ) → List ℤ
vectors w h dx dy = tabulate (2 * (h * w)) (λ i. cond (eqb (i % 2) 0) (dx (i / 2 % w) (i / 2 / w)) (dy (i / 2 % w) (i / 2 / w)))

-- every pixel unlabelled
abbrev pub unmapped : List ℤ → List ℤ
unmapped m = replicate (length m) mark

-- refusal 37 asks for it: some of the first n pixels has size 0
unfoldable pub has_copper : (n : ℕ) → List ℤ → Bool
has_copper n m = any_below n (λ p. eqb (size_at m p) 0)
