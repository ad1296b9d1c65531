-- What the functions say of the row that is worked out. Rows are asked for from the top. For each column two numbers are kept: that of the last copper at or
-- above the row, and that of the first copper at or below it. The number of a row is one more than its place, so that 0 says that there is none above, and h + 1
-- that there is none below.
-- Assumes nothing.
use Rattle.std.specs.Prelude.{◌≡◌, Bool, true, false, not, cond, ◌&&◌, List, ℕ, ◌+◌, ◌-◌, ◌<◌, ◌≤◌, eqb, leb, ℤ, pos, negsuc, get_or}
use Rattle.raster.specs.Map.{dx_at, dy_at}
use Rattle.raster.specs.Pixels.{Mask}
use Rattle.columns.specs.Column.{shorter}
use Rattle.exact.specs.Nearest.{Exact}

-- ---- copper above: of column x, a is the number of the last copper in the first n rows, or 0
pub record LastAbove (copper : Mask) (x n a : ℕ) : Type 0 where
  pub on : a ≤ n
  pub is_copper : 0 < a → copper x (a - 1) ≡ true
  pub bare : (j : ℕ) → a ≤ j → j < n → copper x j ≡ false

pub record LastAboves (copper : Mask) (w n : ℕ) (above : List ℕ) : Type 0 where
  pub at : (x : ℕ) → x < w → LastAbove copper x n (get_or above x 0)

-- with the row numbered n, that is the last if it is copper
abbrev pub last_with : (byte n a : ℕ) → ℕ
last_with byte n a = cond (eqb byte 0) a n

-- ---- copper below: b is the number of a copper row of column x, or 0, or h + 1, and from row y to that one there is no other
pub record Upcoming (copper : Mask) (h x y b : ℕ) : Type 0 where
  pub on : b ≤ h + 1
  pub is_copper : 0 < b → b ≤ h → copper x (b - 1) ≡ true
  pub bare : (j : ℕ) → y ≤ j → j + 1 < b → copper x j ≡ false

pub record Upcomings (copper : Mask) (w h y : ℕ) (below : List ℕ) : Type 0 where
  pub at : (x : ℕ) → x < w → Upcoming copper h x y (get_or below x 0)

-- row y is past it, so that another is to be looked for
abbrev pub outdated : (y b : ℕ) → Bool
outdated y b = leb b y

-- with the row numbered n, that is the one if it is copper and another is looked for
abbrev pub next_with : (y byte n b : ℕ) → ℕ
next_with y byte n b = cond (outdated y b && not (eqb byte 0)) n b

-- of a column that looks for another there is none from row y to row r − 1
pub record LookedTo (copper : Mask) (h x y r b : ℕ) : Type 0 where
  pub upcoming : Upcoming copper h x y b
  pub none_yet : b ≤ y → (j : ℕ) → y ≤ j → j < r → copper x j ≡ false

pub record LookedTos (copper : Mask) (w h y r : ℕ) (below : List ℕ) : Type 0 where
  pub at : (x : ℕ) → x < w → LookedTo copper h x y r (get_or below x 0)

-- b is the number of the first copper at or below row y, or h + 1
pub record FirstBelow (copper : Mask) (h x y b : ℕ) : Type 0 where
  pub upcoming : Upcoming copper h x y b
  pub ahead : y < b

pub record FirstBelows (copper : Mask) (w h y : ℕ) (below : List ℕ) : Type 0 where
  pub at : (x : ℕ) → x < w → FirstBelow copper h x y (get_or below x 0)

-- ---- the ways of row y: upwards, downwards, −1 where there is none, and the shorter
abbrev pub way_up : (y a : ℕ) → ℤ
way_up y a = cond (eqb a 0) (negsuc 0) (pos (y + 1 - a))

abbrev pub way_down : (h y b : ℕ) → ℤ
way_down h y b = cond (leb b h) (pos (b - 1 - y)) (negsuc 0)

abbrev pub way_between : (h y a b : ℕ) → ℤ
way_between h y a b = shorter (way_up y a) (way_down h y b)

-- ---- the row is worked out

-- the first w pixels of a map have the exact vectors of row y
pub record RowExact (copper : Mask) (w h y : ℕ) (row : List ℤ) : Type 0 where
  pub at : (x : ℕ) → x < w → Exact copper w h x y (dx_at row x) (dy_at row x)

-- the first n rows are passed, and the last of them is worked out
pub record Worked (copper : Mask) (w h n : ℕ) (above below : List ℕ) (row : List ℤ) : Type 0 where
  pub above_row : LastAboves copper w n above
  pub below_row : Upcomings copper w h (n - 1) below
  pub last_row : (y : ℕ) → n ≡ y + 1 → RowExact copper w h y row
