-- What the code works out on the way to the skeleton: a band, which holds a row of the map in three parts.
-- Assumes nothing.
use Rattle.std.specs.Prelude.{◌≡◌, Bool, true, false, cond, ◌&&◌, ◌||◌, List, ℕ, ◌+◌, ◌-◌, ◌*◌, ◌<◌, eqb, leb, ℤ, length, get_or, replicate}
use Rattle.raster.specs.Map.{size_at, unlabelled_at}
use Rattle.raster.specs.Pixels.{index}
use Rattle.skeleton.specs.declared.Band.{Band}
use Rattle.skeleton.specs.Table.{g}
use Rattle.skeleton.specs.Skeleton.{on_side, kept}

-- a table of g8 (corner) or g4 by differences (document 02, C-13): the entry of n, at the place n − 1, and g of n make n
pub record Listed (corner : Bool) (s : List ℕ) : Type 0 where
  pub long : length s ≡ 400
  pub entry : (k : ℕ) → k < 400 → get_or s k 0 + g corner (k + 1) ≡ k + 1

-- the size under which a pixel of size n is looked up: its own from 1 to 400; any other takes off what 1 does, pixels of size 0, which are not kept anyway
abbrev pub counted : ℕ → ℕ
counted n = cond (leb 1 n && leb n 400) n 1

-- the size of pixel p, 0 if it is unlabelled; and the size that it takes off at its sides or corners
abbrev pub own_at : (m : List ℤ) (p : ℕ) → ℕ
own_at m p = cond (unlabelled_at m p) 0 (size_at m p)

abbrev pub taken_at : (corner : Bool) (m : List ℤ) (p : ℕ) → ℕ
taken_at corner m p = g corner (counted (size_at m p))

-- f of the pixel (i − 1, j − 1), 0 off the sheet
abbrev pub on_sheet : (w h : ℕ) (f : ℕ → ℕ) (i j : ℕ) → ℕ
on_sheet w h f i j = cond (on_side w i && on_side h j) (f (index w (i - 1) (j - 1))) 0

-- the n numbers from `start` on are f 0, f 1, ..
pub record Part (start n : ℕ) (f : ℕ → ℕ) (s : List ℕ) : Type 0 where
  pub entry : (i : ℕ) → i < n → get_or s (i + start) 0 ≡ f i

-- 0 stands at both ends of w numbers, in a part of 2,050
pub record Ended (w : ℕ) (s : List ℕ) : Type 0 where
  pub long : length s ≡ 2050
  pub left : get_or s 0 0 ≡ 0
  pub right : get_or s (w + 1) 0 ≡ 0

-- three parts of 2,050 numbers; 0 stands at both ends of those for sides and for corners
pub record Framed (w : ℕ) (b : Band) : Type 0 where
  pub long : length b.sizes ≡ 2050
  pub sides : Ended w b.sides
  pub corners : Ended w b.corners

-- every number is 0
pub record Blank (b : Band) : Type 0 where
  pub sides : b.sides ≡ replicate 2050 0
  pub corners : b.corners ≡ replicate 2050 0
  pub sizes : b.sizes ≡ replicate 2050 0

-- 0 at the ends, and the sizes of the first n columns of the row that starts at `base`
pub record Measured (m : List ℤ) (base w n : ℕ) (b : Band) : Type 0 where
  pub framed : Framed w b
  pub sizes : Part 1 n (λ x. own_at m (base + x)) b.sizes

-- b with what the first n columns take off, by their sizes
pub record LookedUp (w n : ℕ) (b c : Band) : Type 0 where
  pub framed : Framed w c
  pub sizes : c.sizes ≡ b.sizes
  pub sides : Part 1 n (λ x. g false (counted (get_or b.sizes (x + 1) 0))) c.sides
  pub corners : Part 1 n (λ x. g true (counted (get_or b.sizes (x + 1) 0))) c.corners

-- the band of row j − 1
pub record BandOf (m : List ℤ) (w h j : ℕ) (b : Band) : Type 0 where
  pub framed : Framed w b
  pub sizes : (y : ℕ) → j ≡ y + 1 → y < h → Part 1 w (λ x. own_at m (index w x y)) b.sizes
  pub sides : Part 0 (w + 2) (λ i. on_sheet w h (taken_at false m) i j) b.sides
  pub corners : Part 0 (w + 2) (λ i. on_sheet w h (taken_at true m) i j) b.corners

-- whether a neighbour takes off the pixel of column x and size s, by the bands of its row and of those beside it
abbrev pub taken_in : (above row below : Band) (x s : ℕ) → Bool
taken_in above row below x s =
    (eqb (get_or below.corners (x + 2) 0) s || (eqb (get_or row.sides (x + 2) 0) s || eqb (get_or above.corners (x + 2) 0) s))
    || ((eqb (get_or below.sides (x + 1) 0) s || eqb (get_or above.sides (x + 1) 0) s)
    || (eqb (get_or below.corners x 0) s || (eqb (get_or row.sides x 0) s || eqb (get_or above.corners x 0) s)))

-- 1 where that pixel is kept, 0 elsewhere
abbrev pub kept_in : (above row below : Band) (x : ℕ) → ℕ
kept_in above row below x = cond (eqb (get_or row.sizes (x + 1) 0) 0 || taken_in above row below x (get_or row.sizes (x + 1) 0)) 0 1

-- the y-th turn: the rows before row y are written, and if there is one, `above` is the band of the row before it and `row` its own
pub record Turning (m : List ℤ) (w h y : ℕ) (out : List ℕ) (above row below : Band) : Type 0 where
  pub long : length out ≡ h * w
  pub rows : (i j : ℕ) → i < w → j < h → j < y → get_or out (index w i j) 0 ≡ cond (kept m w h i j) 1 0
  pub bands : y < h → BandOf m w h y above × BandOf m w h (y + 1) row
  pub framed : Framed w above × (Framed w row × Framed w below)
