-- g4 and g8: document 01, "Skeleton". A place at squared distance n or more from a pixel is outside its disk of size n; g(n) is the least squared distance
-- of such a place from the pixel's side (corner) neighbour. `g` looks among the places up to 20 steps off; `Rule` says it of all whole h, k. `g_rule`
-- (proofs/Outside) says that g keeps it, and `table_rule` (proofs/Tables) that n less its entry does, in either table of differences.
-- Assumes nothing.
use Rattle.std.specs.Prelude.{◌≡◌, Bool, cond, ℕ, zero, suc, ◌+◌, ◌*◌, ◌≤◌, min, leb, ℤ, pos, ◌-ℤ◌}
use Rattle.raster.specs.Distance.{gap}
use Rattle.raster.specs.Vector.{size}

-- the least of f 0, .., f n
unfoldable pub least : (n : ℕ) → (ℕ → ℕ) → ℕ
least zero f = f 0
least (suc n) f = min (f (suc n)) (least n f)

-- the squared distance of the place (h, k) from the neighbour at (1, 0), or at (1, 1)
abbrev pub beside : (corner : Bool) (h k : ℕ) → ℕ
beside corner h k = gap h 1 * gap h 1 + cond corner (gap k 1 * gap k 1) (k * k)

-- g8 (corner) and g4; a place inside the disk does not count
unfoldable pub g : (corner : Bool) (n : ℕ) → ℕ
g corner n = least 20 (λ h. least 20 (λ k. cond (leb n (h * h + k * k)) (beside corner h k) 1000))

-- v is the least (h − 1)² + k², or (h − 1)² + (k − 1)², over whole h, k with h² + k² at least n
pub record Rule (corner : Bool) (n v : ℕ) : Type 0 where
  pub h : ℤ
  pub k : ℤ
  pub outside : n ≤ size h k
  pub attained : size (h -ℤ pos 1) (k -ℤ pos (cond corner 1 0)) ≡ v
  pub lower : (h k : ℤ) → n ≤ size h k → v ≤ size (h -ℤ pos 1) (k -ℤ pos (cond corner 1 0))
