-- The sheet rebuilt from marks on a map: document 01, "Skeleton", on a map with any contents.
-- Assumes nothing.
use Rattle.std.specs.Prelude.{Bool, not, cond, ◌&&◌, List, ℕ, ltb, ℤ}
use Rattle.raster.specs.Distance.{apart}
use Rattle.raster.specs.Loop.{any_below}
use Rattle.raster.specs.Map.{size_at, unlabelled_at}
use Rattle.raster.specs.Pixels.{Mask, index, pixels}
use Rattle.raster.specs.Sheet.{copper_of}

module _ (m : List ℤ) (w h : ℕ) where
  -- the marked pixel (i, j) covers (x, y): their squared distance is below its size; an unlabelled one covers nothing
  abbrev pub covers : (marks : List ℕ) (x y i j : ℕ) → Bool
  covers marks x y i j =
      (copper_of marks w i j && not (unlabelled_at m (index w i j))) && ltb (apart x y i j) (size_at m (index w i j))

  -- some marked pixel covers (x, y)
  unfoldable pub covered : (marks : List ℕ) → Mask
  covered marks x y = any_below w (λ i. any_below h (λ j. covers marks x y i j))

  -- what rebuild writes
  unfoldable pub rebuilt : (marks : List ℕ) → List ℕ
  rebuilt marks = pixels w h (λ x y. cond (covered marks x y) 1 0)
