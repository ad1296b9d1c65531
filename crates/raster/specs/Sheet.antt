-- A sheet: document 01's word for the W × H pixels of a board, a byte a pixel.
-- Assumes nothing.
use Rattle.std.specs.Prelude.{ℕ, ◌+◌, not, cond, ◌&&◌, List, ◌++◌, eqb, leb, ltb, length, get_or, take, drop, replicate}
use Rattle.raster.specs.Pixels.{Mask, index, pixels}

-- byte 0 is bare, any other is copper
unfoldable pub copper_of : List ℕ → (w : ℕ) → Mask
copper_of s w x y = not (eqb (get_or s (index w x y) 0) 0)

-- Calls, open: the sheet cleared
abbrev pub bare : List ℕ → List ℕ
bare s = replicate (length s) 0

-- the value v at n places from p on
unfoldable pub spanned : (p n v : ℕ) → List ℕ → List ℕ
spanned p n v s = take p s ++ (replicate n v ++ drop (p + n) s)

-- (a, b) lies in the rectangle of cols × rows pixels whose upper left one is (x, y)
unfoldable pub in_rectangle : (x y cols rows : ℕ) → Mask
in_rectangle x y cols rows a b = (leb x a && ltb a (x + cols)) && (leb y b && ltb b (y + rows))

-- Calls, paint and erase: the value v in that rectangle, and every other pixel as it was
unfoldable pub filled : (w h x y cols rows v : ℕ) → List ℕ → List ℕ
filled w h x y cols rows v s = pixels w h (λ a b. cond (in_rectangle x y cols rows a b) v (get_or s (index w a b) 0))
