-- Places: document 02's word for any pair of whole numbers, on the sheet or off it.
-- Assumes nothing.
use Rattle.std.specs.Prelude.{Bool, false, ◌&&◌, ℕ, ltb, ℤ, pos, negsuc, ◌-ℤ◌}
use Rattle.raster.specs.Vector.{size}

-- a place of a line of `side` places
abbrev pub in_line : (side : ℕ) → ℤ → Bool
in_line side (pos t) = ltb t side
in_line side (negsuc t) = false

-- a pixel of a sheet of w × h
abbrev pub is_pixel : (w h : ℕ) → ℤ × ℤ → Bool
is_pixel w h p = in_line w p.0 && in_line h p.1

-- the squared distance of the pixel (x, y) and a place: the size of the way from one to the other
abbrev pub apart_from : (x y : ℕ) → ℤ × ℤ → ℕ
apart_from x y p = size (p.0 -ℤ pos x) (p.1 -ℤ pos y)
