-- The loop that writes the joined map pixel by pixel: what stands at each number, and one pixel more.
-- Assumes nothing.
use mathlib.Core.Path.{◌≡◌, refl}
use mathlib.Core.List.{List}
use Prim.Native.Nat.{ℕ, ◌+◌, ◌*◌, ◌/◌, ◌<◌}
use native.Mathlib.Omega.{arith}
use lib.IntN.{ℤ, pos}
use lib.ListN.{length, get_or}
use Rattle.raster.specs.Map.{dx_at, dy_at, put}
use Rattle.raster.proofs.Writing.{Writing, write_more}
use Rattle.join.specs.Joined.{taken_from}

-- number i of the joined map
abbrev pub number : (first second : List ℤ) (i : ℕ) → ℤ
number first second i = get_or (taken_from first second (i / 2)) i (pos 0)

-- one pixel more
pub put_more : (first second before after : List ℤ) (p : ℕ) → Writing (number first second) before (2 * p) after → 2 * p + 1 < length before
    → Writing (number first second) before (2 * (p + 1)) (put p (dx_at (taken_from first second p) p) (dy_at (taken_from first second p) p) after)
unfolding put
put_more first second before after p w l =
    let e : 2 * p / 2 ≡ p = omega arith in
    let f : (2 * p + 1) / 2 ≡ p = omega arith in
    let dx : dx_at (taken_from first second p) p ≡ number first second (2 * p) = rw e refl in
    let dy : dy_at (taken_from first second p) p ≡ number first second (2 * p + 1) = rw f refl in
    let g : 2 * p + 1 + 1 ≡ 2 * (p + 1) = omega arith in
    rw g at (write_more _ _ (write_more _ _ w (omega arith) dx) l dy)
