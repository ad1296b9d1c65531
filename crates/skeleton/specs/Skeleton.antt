-- The skeleton of a map: document 01, "Skeleton", on a map with any contents.
-- Assumes nothing.
use Rattle.std.specs.Prelude.{Bool, not, cond, ◌&&◌, List, ℕ, ◌+◌, ◌-◌, eqb, leb, ℤ}
use Rattle.raster.specs.Loop.{any_below}
use Rattle.raster.specs.Map.{size_at, unlabelled_at}
use Rattle.raster.specs.Pixels.{Mask, index, pixels}
use Rattle.skeleton.specs.Table.{g}

-- a neighbour of size n, from 1 to 400, takes off a pixel of size s that its table gives
abbrev pub takes : (corner : Bool) (n s : ℕ) → Bool
takes corner n s = (leb 1 n && leb n 400) && eqb (g corner n) s

-- the place t − 1 lies on a side of n pixels
abbrev pub on_side : (n t : ℕ) → Bool
on_side n t = leb 1 t && leb t n

module _ (m : List ℤ) (w h : ℕ) where
  -- the neighbour (x + a − 1, y + b − 1), for a, b from 0 to 2, is on the sheet and takes (x, y) off; one at a corner has a and b other than 1
  unfoldable pub taken_by : (x y a b : ℕ) → Bool
  taken_by x y a b =
      (not (eqb a 1 && eqb b 1) && (on_side w (x + a) && on_side h (y + b)))
      && takes (not (eqb a 1) && not (eqb b 1)) (size_at m (index w (x + a - 1) (y + b - 1))) (size_at m (index w x y))

  -- some neighbour takes it off
  unfoldable pub removed : Mask
  removed x y = any_below 3 (λ a. any_below 3 (λ b. taken_by x y a b))

  -- a bare pixel is kept unless some neighbour takes it off; an unlabelled one is not kept
  abbrev pub kept : Mask
  kept x y = (not (unlabelled_at m (index w x y)) && not (eqb (size_at m (index w x y)) 0)) && not (removed x y)

  -- what skeleton writes
  unfoldable pub skeleton_of : List ℕ
  skeleton_of = pixels w h (λ x y. cond (kept x y) 1 0)
