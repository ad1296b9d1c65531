-- What the functions say of one row. The row before it stands in a working row with a place more on either side: place 1 + x has the value of pixel x, and the
-- first place and the one after the last pixel are unlabelled.
-- Assumes nothing.
use Rattle.std.specs.Prelude.{◌≡◌, Bool, true, false, cond, List, ℕ, zero, suc, ◌+◌, ◌*◌, ◌-◌, ◌≤◌, ◌<◌, min, eqb, ltb, length, get_or}
use Rattle.raster.specs.Distance.{gap, Copper}
use Rattle.raster.specs.Loop.{any_below}
use Rattle.raster.specs.Pixels.{Mask, index}
use Rattle.raster.specs.Rows.{RowWritten}
use Rattle.chamfer.specs.Chamfer.{chamfer_distance, no_value, value}

-- the candidate of a neighbour of value v by a step of weight s: unlabelled stays so
abbrev pub candidate : (v s : ℕ) → ℕ
candidate v s = min (v + s) no_value

-- the least candidate of the three pixels beside pixel x in the row before
abbrev pub from_three : (a b : ℕ) → List ℕ → (x : ℕ) → ℕ
from_three a b row x = min (candidate (get_or row (1 + x) 0) a) (candidate (min (get_or row x 0) (get_or row (2 + x) 0)) b)

-- copper has 0
abbrev pub or_copper : (byte v : ℕ) → ℕ
or_copper byte v = cond (eqb byte 0) v 0

-- what a sweep along the values f 0, f 1, .. hands on to the t-th pixel, each from the one before; nothing to the first
unfoldable pub carried : (a : ℕ) → (ℕ → ℕ) → (t : ℕ) → ℕ
carried a f zero = no_value
carried a f (suc t) = min (f t) (carried a f t + a)

-- the place of the t-th pixel of a sweep over a row of w
abbrev pub turn : (right : Bool) → (w t : ℕ) → ℕ
turn true w t = t
turn false w t = w - 1 - t

-- what the sweep leaves at pixel x of the row of a map that starts at base
abbrev pub swept : (right : Bool) → (a base w : ℕ) → List ℕ → (x : ℕ) → ℕ
swept true a base w m x = carried a (λ t. get_or m (base + t) 0) (x + 1)
swept false a base w m x = carried a (λ t. get_or m (base + (w - 1 - t)) 0) (w - x)

-- of w pixels some is above the candidate of its neighbour: g x above that of f x
unfoldable pub steep : (a : ℕ) (f g : ℕ → ℕ) (w : ℕ) → Bool
steep a f g w = any_below (w - 1) (λ x. ltb (candidate (f x) a) (g x))

-- a sweep wrote the row that starts at base: pixel x has f x, in the map and in the working row
pub record Swept (base w : ℕ) (f : ℕ → ℕ) (values row values' row' : List ℕ) : Type 0 where
  pub written : RowWritten base w f values values'
  pub kept : RowWritten 1 w f row row'

-- ---- what the scans promise each other

module _ (a b : ℕ) (copper : Mask) (w h : ℕ) where
  -- v is not below the value of (x, y), and not above what the copper gives it that scan one has brought there: that of its own row to the left, and of the
  -- rows above up to its diagonal to the right
  pub record Half (x y v : ℕ) : Type 0 where
    pub over : value a b copper w h x y ≤ v
    pub under : (i j : ℕ) → Copper copper w h i j → j ≤ y → i + j ≤ x + y → v ≤ chamfer_distance a b (gap x i) (gap y j)

  -- every pixel of a map
  pub record Halfway (m : List ℕ) : Type 0 where
    pub long : length m ≡ h * w
    pub at : (x y : ℕ) → x < w → y < h → Half x y (get_or m (index w x y) 0)

-- a working row on which no row stands
pub record Blank (w : ℕ) (row : List ℕ) : Type 0 where
  pub room : w + 2 ≤ length row
  pub blank : (p : ℕ) → p < w + 2 → get_or row p 0 ≡ no_value
