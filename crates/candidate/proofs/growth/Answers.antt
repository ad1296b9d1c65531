-- `candidate::growth` meets its contract. A step is −1, 0 or 1, and what is cast is 4,097 + 2v, 4,096 or 4,097 − 2v, which is not negative.
use mathlib.Core.Path.{◌≡◌, refl, sym, ap, ◌∙◌}
use Prim.Native.Nat.{zero, suc, ◌+◌, ◌-◌, ◌*◌, ◌≤◌}
use native.Mathlib.Nat.{mul-le-mul}
use native.Mathlib.Omega.{arith}
use lib.Dec.{T}
use lib.IntN.{ℤ, pos, negsuc, nat_abs, neg_ℤ, sub_ℕ, ◌+ℤ◌, ◌*ℤ◌, neg_ℤ-+ℤ, +ℤ_idr, *ℤ-zero}
use lib.Signed.{non_neg}
use mir.Syntax.{w32, w64}
use mir.Val.{SFits}
use mir.ValLaws.{to_z-of_z}
use borrow.Author.Tests.{le-ltb, lt-ltb}
use Rattle.std.proofs.lemmas.Int.{ints, unsigned_abs-mul}
use Rattle.raster.proofs.Signed.{minus_abs, wide_fits}
use Rattle.raster.specs.Vector.{UnitStep}
use Rattle.raster.specs.VectorLaws.{add_abs}
use Rattle.candidate.specs.Key.{square}
use Rattle.candidate.proofs.growth.Goals as goal

abbrev change : ℤ → ℤ → ℤ
change v o = (pos 2 *ℤ v +ℤ o) *ℤ o

abbrev grown : ℤ → ℤ → ℤ
grown v o = pos 4096 +ℤ change v o

-- what 32 bits hold, 64 bits hold
longer : {z : ℤ} → SFits w32 z → SFits w64 z
longer f = omega arith

-- what the code computes on the way fits
module _ (v o : ℤ) (near : nat_abs v ≤ 2048) (step : UnitStep o) where
  twice_far : nat_abs (pos 2 *ℤ v) ≤ 4096
  twice_far = omega (arith, unsigned_abs-mul (pos 2) v)

  sum_far : nat_abs (pos 2 *ℤ v +ℤ o) ≤ 4097
  sum_far = omega (arith, twice_far, add_abs (pos 2 *ℤ v) o)

  change_far : nat_abs (change v o) ≤ 4097
  change_far = omega (arith, unsigned_abs-mul (pos 2 *ℤ v +ℤ o) o, mul-le-mul sum_far step)

  grown_far : nat_abs (grown v o) ≤ 8193
  grown_far = omega (arith, change_far, add_abs (pos 4096) (change v o))

  twice_fits : SFits w64 (pos 2 *ℤ v)
  twice_fits = longer (wide_fits _ (omega (arith, twice_far)))

  sum_fits : SFits w64 (pos 2 *ℤ v +ℤ o)
  sum_fits = longer (wide_fits _ (omega (arith, sum_far)))

  change_fits : SFits w64 (change v o)
  change_fits = longer (wide_fits _ (omega (arith, change_far)))

  grown_fits : SFits w64 (grown v o)
  grown_fits = longer (wide_fits _ (omega (arith, grown_far)))

-- ---- what it is

twice_is : (v : ℤ) → pos 2 *ℤ v ≡ v +ℤ v
twice_is (pos n) = ap pos (omega arith)
twice_is (negsuc n) = let e : 2 * suc n ≡ suc (suc (n + n)) = omega arith in rw e refl

times_one : (z : ℤ) → z *ℤ pos 1 ≡ z
times_one (pos n) = ap pos (omega arith)
times_one (negsuc n) = let e : suc n * 1 ≡ suc n = omega arith in rw e refl

times_minus : (z : ℤ) → z *ℤ negsuc 0 ≡ neg_ℤ z
times_minus (pos n) = let e : n * 1 ≡ n = omega arith in rw e refl
times_minus (negsuc n) = ap pos (omega arith)

abbrev Grows : ℤ → ℤ → ℤ → Type 0
Grows v o z = T (non_neg z) × (nat_abs z + square v ≡ 4096 + square (v +ℤ o))

more_is : (v : ℤ) → nat_abs v ≤ 2048 → Grows v (pos 1) (pos 4097 +ℤ (v +ℤ v))
more_is (pos n) near = (tt, omega arith)
more_is (negsuc zero) near = (tt, refl)
more_is (negsuc (suc n)) near =
    let z : sub_ℕ 4097 (suc (suc (suc n + suc n))) ≡ pos (4093 - (n + n)) = simp (le-ltb 4097 (suc (suc (suc n + suc n))) (omega arith)) (ap pos (omega arith)) in
    let u : sub_ℕ 1 (suc (suc n)) ≡ negsuc n = simp (lt-ltb 1 (suc (suc n)) (omega arith)) (ap negsuc (omega arith)) in
    rw (z, u) (tt, omega arith)

grown_is : (v o : ℤ) → nat_abs v ≤ 2048 → UnitStep o → Grows v o (grown v o)
grown_is v (pos zero) near step = rw (*ℤ-zero (pos 2 *ℤ v +ℤ pos 0), +ℤ_idr v) (tt, refl)
grown_is v (pos (suc zero)) near step =
    let e : grown v (pos 1) ≡ pos 4097 +ℤ (v +ℤ v) = rw (times_one, twice_is v) (omega (arith, ints)) in rw e (more_is v near)
grown_is v (negsuc zero) near step =
    let e : grown v (negsuc 0) ≡ pos 4097 +ℤ (neg_ℤ v +ℤ neg_ℤ v) = rw (times_minus, twice_is v) (omega (arith, ints)) in
    let m : nat_abs (v +ℤ negsuc 0) ≡ nat_abs (neg_ℤ v +ℤ pos 1) = sym (minus_abs (v +ℤ negsuc 0)) ∙ ap nat_abs (neg_ℤ-+ℤ v (negsuc 0)) in
    rw (e, m, ← minus_abs v) (more_is (neg_ℤ v) (rw (minus_abs v) near))
grown_is v (pos (suc (suc n))) near step = absurd (omega arith)
grown_is v (negsuc (suc n)) near step = absurd (omega arith)

pub overflow_add-result-2 : goal.overflow_add-result-2
overflow_add-result-2 c =
    let v = c.args.v in
    let o = c.args.o in
    let n = c.requires.0 in
    let u = c.requires.1 in
    let a = simp (to_z-of_z, c.ranges.v) at c.from-v.ensures in
    let b = simp (to_z-of_z, c.ranges.o) at c.from-o.ensures in
    rw (a, b)
    (simp (to_z-of_z, longer c.ranges.v, longer c.ranges.o, twice_fits v o n u, sum_fits v o n u, change_fits v o n u)
    (grown_fits v o n u))

pub overflow_cast-result : goal.overflow_cast-result
overflow_cast-result c =
    let v = c.args.v in
    let o = c.args.o in
    let n = c.requires.0 in
    let u = c.requires.1 in
    let a = simp (to_z-of_z, c.ranges.v) at c.from-v.ensures in
    let b = simp (to_z-of_z, c.ranges.o) at c.from-o.ensures in
    rw (a, b)
    (simp (to_z-of_z, longer c.ranges.v, longer c.ranges.o, twice_fits v o n u, sum_fits v o n u, change_fits v o n u, grown_fits v o n u)
    ((grown_is v o n u).0, omega (arith, grown_far v o n u)))

pub returns : goal.returns
returns c =
    let v = c.args.v in
    let o = c.args.o in
    let n = c.requires.0 in
    let u = c.requires.1 in
    let a = simp (to_z-of_z, c.ranges.v) at c.from-v.ensures in
    let b = simp (to_z-of_z, c.ranges.o) at c.from-o.ensures in
    rw (a, b)
    (simp (to_z-of_z, longer c.ranges.v, longer c.ranges.o, twice_fits v o n u, sum_fits v o n u, change_fits v o n u, grown_fits v o n u)
    ((grown_is v o n u).1, grown_far v o n u))
