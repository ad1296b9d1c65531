-- What the code asks of the row that it works on and of the row before, and what it keeps of the row at hand.
-- Assumes nothing.
use Rattle.std.specs.Prelude.{◌≡◌, ◌≢◌, Bool, false, List, ℕ, ◌+◌, ◌*◌, ◌≤◌, ◌<◌, ℤ, pos, ◌+ℤ◌, Option, None, Some, get_or, length}
use Rattle.raster.specs.Pixels.{index}
use Rattle.raster.specs.Vector.{UnitStep}
use Rattle.raster.specs.Map.{dx_at, dy_at, unlabelled_at}
use Rattle.candidate.specs.Key.{key}
use Rattle.candidate.specs.OnSheet.{OnSheet}
use Rattle.scan.specs.Scan.{from_row}

-- row y lies in a map of width w whose labelled vectors end on the sheet
pub record RowOf (w y : ℕ) (m : List ℤ) : Type 0 where
  pub some : 0 < w
  pub inside : 2 * (y * w + w) ≤ length m
  pub sheet : OnSheet w m

-- the first h rows do
pub record RowsOf (w h : ℕ) (m : List ℤ) : Type 0 where
  pub some : 0 < w
  pub inside : 2 * (h * w) ≤ length m
  pub sheet : OnSheet w m

-- row b lies in it too, and is another row, one step o from row y
pub record Beside (w y b : ℕ) (o : ℤ) (m : List ℤ) : Type 0 where
  pub other : y ≢ b
  pub inside : 2 * (b * w + w) ≤ length m
  pub unit : UnitStep o
  pub step : pos y +ℤ o ≡ pos b

-- every pixel of row y is labelled
abbrev pub Labelled : (w y : ℕ) → List ℤ → Type 0
Labelled w y m = (x : ℕ) → x < w → unlabelled_at m (index w x y) ≡ false

-- row y is labelled throughout or not at all: each pixel is as the first
abbrev pub Level : (w y : ℕ) → List ℤ → Type 0
Level w y m = (x : ℕ) → x < w → unlabelled_at m (index w x y) ≡ unlabelled_at m (index w 0 y)

-- `keys` has the keys of the first n pixels of row y
abbrev pub Keys : (w y n : ℕ) → List ℕ → List ℤ → Type 0
Keys w y n keys m = (x : ℕ) → x < n → get_or keys x 0 ≡ key (dx_at m (index w x y)) (dy_at m (index w x y))

-- the map after row y has taken what the row before gives, if there is one
abbrev pub entered : (w : ℕ) (corners : Bool) (y : ℕ) → Option ℕ → (o : ℤ) → List ℤ → List ℤ
entered w corners y None o m = m
entered w corners y (Some b) o m = from_row w corners y b o m
