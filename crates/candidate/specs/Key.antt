-- The number by which the code compares two vectors: the size, and after it dy². Of two vectors of one size the one with the smaller dy² has the larger
-- dx in magnitude, so that the smaller key is the one that document 02's C-16 prefers.
-- Assumes nothing.
use Rattle.std.specs.Prelude.{ℕ, ◌+◌, ◌*◌, ℤ, nat_abs}
use Rattle.raster.specs.Vector.{size}

abbrev pub square : ℤ → ℕ
square z = nat_abs z * nat_abs z

-- 2³² × size + dy²
unfoldable pub key : ℤ → ℤ → ℕ
key dx dy = 4294967296 * size dx dy + square dy

-- the key of an unlabelled pixel's numbers, 2⁶³ + 2³⁰
abbrev pub no_key : ℕ
no_key = 9223372037928517632

-- 2⁶³: every vector that ends on a sheet has a smaller key
abbrev pub key_limit : ℕ
key_limit = 9223372036854775808
