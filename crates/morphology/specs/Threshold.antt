-- What the code does to a sheet: it is turned round, and written anew by the sizes of a map, but for a rim. The root of q says how wide that is.
-- Assumes nothing.
use Rattle.std.specs.Prelude.{Bool, cond, ◌&&◌, List, ℕ, ◌+◌, ◌*◌, ◌≤◌, ◌<◌, eqb, leb, ltb, ℤ, length, get_or}
use Rattle.raster.specs.Map.{size_at}
use Rattle.raster.specs.Pixels.{index, tabulate, pixels}

-- bare becomes copper, copper bare
abbrev pub turned : ℕ → ℕ
turned byte = cond (eqb byte 0) 1 0

unfoldable pub flipped : List ℕ → List ℕ
flipped s = tabulate (length s) (λ p. turned (get_or s p 0))

-- what pixel p becomes by its size: `v` where that is at most q, and elsewhere `v` turned
abbrev pub level_at : List ℤ → (q v p : ℕ) → ℕ
level_at m q v p = cond (leb (size_at m p) q) v (turned v)

-- place t of a line of n places is an inner one: `rim` places or more lie on either side of it
abbrev pub inner : (rim n t : ℕ) → Bool
inner rim n t = leb rim t && ltb (t + rim) n

-- what pixel (x, y) becomes: `v` in the first and last `rim` rows and columns of the sheet, by its size elsewhere
abbrev pub thresholded_at : List ℤ → (w h q v rim : ℕ) → ℕ → ℕ → ℕ
thresholded_at m w h q v rim x y = cond (inner rim h y && inner rim w x) (level_at m q v (index w x y)) v

-- the sheet of these
unfoldable pub thresholded : List ℤ → (w h q v rim : ℕ) → List ℕ
thresholded m w h q v rim = pixels w h (thresholded_at m w h q v rim)

-- r is the integer square root of q, or n where that is less
pub record RootUpTo (n q r : ℕ) : Type 0 where
  pub on : r ≤ n
  pub square : r * r ≤ q
  pub last : r < n → q < (r + 1) * (r + 1)
