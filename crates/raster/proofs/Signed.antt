-- All facts about signed numbers that the proofs need. What the machine reads back from the bits of a number that fits is the number (`to_z-of_z`). So an answer
-- says `simp (to_z-of_z, facts that each number fits) t`, and t speaks of plain numbers of ℤ, by the lemmas below.
-- Assumes nothing.
use mathlib.Core.Path.{◌≡◌, refl}
use mathlib.Core.Bool.{true}
use Prim.Native.Nat.{ℕ, zero, suc, ◌+◌, ◌-◌, ◌*◌, ◌≤◌}
use native.Mathlib.Decide.{dec_le}
use native.Mathlib.Nat.{mul-le-mul}
use native.Mathlib.Omega.{arith}
use lib.Dec.{eqb}
use lib.IntN.{ℤ, pos, negsuc, nat_abs, neg_ℤ}
use lib.Signed.{mag}
use mir.Syntax.{w16, w32}
use mir.Val.{SFits, of_z}
use borrow.Author.Tests.{eq-eqb, ne_eqb, eqb-true}
use Rattle.raster.specs.Tests.{same}
use Rattle.raster.specs.Vector.{Short, Wide, size, is_mark, unlabelled}
use Rattle.raster.specs.VectorLaws.{unlabelled-size}

-- what 16 bits hold, 32 bits hold
pub widen : {z : ℤ} → SFits w16 z → SFits w32 z
widen f = omega arith

-- −z is as far from 0 as z
pub minus_abs : (z : ℤ) → nat_abs (neg_ℤ z) ≡ nat_abs z
minus_abs (pos zero) = refl
minus_abs (pos (suc n)) = refl
minus_abs (negsuc n) = refl

-- the mark, by its bits
pub mark-bits : (z : ℤ) → SFits w32 z → eqb (of_z w32 z) 4294934528 ≡ is_mark z
mark-bits (pos n) f = ne_eqb n 4294934528 (omega arith)
mark-bits (negsuc n) f = same _ _ (λ e. eq-eqb n 32767 (omega (arith, eqb-true (4294967296 - suc n) 4294934528 e))) (λ e. eq-eqb (4294967296 - suc n) 4294934528 (omega (arith, eqb-true n 32767 e)))

mag_le : (z : ℤ) → mag z ≤ nat_abs z
mag_le (pos n) = omega arith
mag_le (negsuc n) = omega arith

pub short_wide : (z : ℤ) → Short z → nat_abs z ≤ 32768
short_wide (pos n) s = omega arith
short_wide (negsuc n) s = omega arith

-- the size is at most 2³¹, and that is the size of two marks alone
pub size_most : (dx dy : ℤ) → Short dx → Short dy → size dx dy ≤ 2147483648
unfolding size
size_most dx dy a b = let f = short_wide dx a in let g = short_wide dy b in omega (arith, mul-le-mul f f, mul-le-mul g g)

widest : (x y : ℕ) → y ≤ 32768 → x * x + y * y ≡ 2147483648 → 32768 ≤ x
widest x y b e = elim (dec_le 32768 x) [
  | yes l ↦ l
  | no l ↦ let k : x ≤ 32767 = omega arith in absurd (omega (arith, mul-le-mul k k, mul-le-mul b b))
]

widest-mark : (z : ℤ) → Short z → 32768 ≤ nat_abs z → is_mark z ≡ true
widest-mark (pos n) s l = absurd (omega arith)
widest-mark (negsuc n) s l = eq-eqb n 32767 (omega arith)

widest_marks : (dx dy : ℤ) → Short dx → Short dy → size dx dy ≡ 2147483648 → unlabelled dx dy ≡ true
unfolding size
widest_marks dx dy a b e =
    let f = widest-mark dx a (widest (nat_abs dx) (nat_abs dy) (short_wide dy b) e) in
    let g = widest-mark dy b (widest (nat_abs dy) (nat_abs dx) (short_wide dx a) (omega arith)) in
    rw (f, g)

pub unlabelled-by_size : (dx dy : ℤ) → Short dx → Short dy → unlabelled dx dy ≡ eqb (size dx dy) 2147483648
unlabelled-by_size dx dy a b =
    same _ _ (λ u. eq-eqb (size dx dy) 2147483648 (unlabelled-size dx dy u)) (λ e. widest_marks dx dy a b (eqb-true (size dx dy) 2147483648 e))

-- a component after a step fits 32 bits
pub wide_fits : (z : ℤ) → Wide z → SFits w32 z
wide_fits z f = omega (arith, mag_le z)
