-- The exact map: document 01, "Engines". `Exact` says it in document 01's words, pixel by pixel; `exact_map` is the map itself, for which the copper pixels
-- are run through by column, then row, and the first of least squared distance is kept. It alone is exact at every pixel (`is_exact`, `only_exact` in
-- proofs/Theorems).
-- Assumes nothing.
use Rattle.std.specs.Prelude.{◌≡◌, ◌⊎◌, Bool, true, cond, ◌&&◌, List, ◌++◌, ℕ, ◌*◌, ◌<◌, ◌≤◌, ltb, ℤ, pos, ◌-ℤ◌, drop, replicate}
use Rattle.raster.specs.Distance.{apart, Copper, no_distance}
use Rattle.raster.specs.Gate.{Gate}
use Rattle.raster.specs.Loop.{ascend}
use Rattle.raster.specs.Map.{vectors}
use Rattle.raster.specs.Pixels.{Mask}
use Rattle.raster.specs.Vector.{size, mark, unlabelled, Ends}

-- (i, j) is the nearest copper pixel of (x, y), among equals that of the least column, then the least row
pub record Nearest (copper : Mask) (w h x y i j : ℕ) : Type 0 where
  pub on_copper : Copper copper w h i j
  pub least : (a b : ℕ) → Copper copper w h a b → apart x y i j ≤ apart x y a b
  pub first : (a b : ℕ) → Copper copper w h a b → apart x y a b ≡ apart x y i j → (i < a) ⊎ ((i ≡ a) × (j ≤ b))

-- the vector (dx, dy) of (x, y) goes there; without copper on the sheet the pixel is unlabelled
pub data Exact (copper : Mask) (w h x y : ℕ) (dx dy : ℤ) : Type 0 where
  to_nearest : (i j : ℕ) → Nearest copper w h x y i j → Ends x y dx dy i j → Exact copper w h x y dx dy
  bare_sheet : ((i j : ℕ) → Copper copper w h i j → ⊥) → unlabelled dx dy ≡ true → Exact copper w h x y dx dy

-- ---- the map

-- what was found so far: nothing, or the pixel (i, j)
pub data SearchState : Type 0 where
  unfound : SearchState
  found_at : (i j : ℕ) → SearchState

-- (i, j) is nearer to (x, y) than what was found so far
abbrev pub nearer : (x y i j : ℕ) → SearchState → Bool
nearer x y i j unfound = true
nearer x y i j (found_at a b) = ltb (apart x y i j) (apart x y a b)

module _ (copper : Mask) (x y : ℕ) where
  -- a copper pixel that is nearer takes the place of what was found
  abbrev pub visit : (i j : ℕ) → SearchState → SearchState
  visit i j f = cond (copper i j && nearer x y i j f) (found_at i j) f

  -- all pixels of the sheet, by column, then row
  unfoldable pub nearest : (w h : ℕ) → SearchState
  nearest w h = ascend (λ i. ascend (visit i) h) w unfound

-- the way from x to the column that was found, from y to the row; unlabelled where nothing was
abbrev pub to_column : (x : ℕ) → SearchState → ℤ
to_column x unfound = mark
to_column x (found_at i j) = pos i -ℤ pos x

abbrev pub to_row : (y : ℕ) → SearchState → ℤ
to_row y unfound = mark
to_row y (found_at i j) = pos j -ℤ pos y

-- the way there, at every pixel
unfoldable pub exact_map : (copper : Mask) (w h : ℕ) → List ℤ
exact_map copper w h = vectors w h (λ x y. to_column x (nearest copper x y w h)) (λ x y. to_row y (nearest copper x y w h))

-- what a vector that goes there says of the pixel's true squared distance: it is its size; unlabelled, there is no copper
abbrev pub distance_of : (dx dy : ℤ) → ℕ
distance_of dx dy = cond (unlabelled dx dy) no_distance (size dx dy)

-- ---- scratch: Calls, build; document 02, C-22

-- how many numbers it must have for a sheet of w columns, however many rows
abbrev pub scratch_need : (w : ℕ) → ℕ
scratch_need w = 4 * w

-- the first n numbers at 0, the rest untouched
abbrev pub cleared : (n : ℕ) → List ℤ → List ℤ
cleared n scratch = replicate n (pos 0) ++ drop n scratch

-- what is left in it
abbrev pub scratch_left : (w : ℕ) → List ℤ → List ℤ
scratch_left w scratch = cleared (scratch_need w) scratch

-- the gate at a pixel of size a: a > q
abbrev pub gate : Gate
gate = record { den = 1; num = 1 }
