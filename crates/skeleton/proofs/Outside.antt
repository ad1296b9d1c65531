-- The rule of g4 and g8. Places more than 20 steps off are no nearer to the neighbour than those at 20 steps, which are outside every disk of size up to
-- 400; so the least over all whole h, k is the least among the places that `g` looks at.
-- Assumes nothing.
use mathlib.Core.Path.{◌≡◌, refl, sym, ap, ap₂, ◌∙◌}
use mathlib.Core.Bool.{Bool, true, false, cond}
use Prim.Native.Nat.{ℕ, zero, suc, ◌+◌, ◌*◌, ◌<◌, ◌≤◌, min}
use native.Mathlib.Decide.{dec_le}
use native.Mathlib.Omega.{arith}
use lib.Dec.{leb}
use lib.IntN.{ℤ, pos, negsuc, nat_abs, ◌-ℤ◌, +ℤ_idr}
use borrow.Author.Tests.{leb-true, le-leb}
use Rattle.raster.specs.Distance.{gap}
use Rattle.raster.specs.DistanceLaws.{square_le, gap-swap}
use Rattle.raster.specs.Vector.{size}
use Rattle.raster.specs.VectorLaws.{way-abs}
use Rattle.skeleton.specs.Table.{least, beside, g, Rule}

-- ---- the least of a row of numbers

least_le : (n : ℕ) (f : ℕ → ℕ) (i : ℕ) → i ≤ n → least n f ≤ f i
unfolding least
least_le zero f i l = let e : i ≡ 0 = omega arith in rw e (omega arith)
least_le (suc n) f i l = elim (dec_le i n) [
  | yes q ↦ omega (arith, least_le n f i q)
  | no q ↦ let e : i ≡ suc n = omega arith in rw e (omega arith)
]

record Place (n : ℕ) (f : ℕ → ℕ) : Type 0 where
  at : ℕ
  on : at ≤ n
  is : least n f ≡ f at

least_at : (n : ℕ) (f : ℕ → ℕ) → Place n f
unfolding least
least_at zero f = record { at = 0; on = omega arith; is = refl }
least_at (suc n) f = go (least_at n f) (dec_le (f (suc n)) (least n f))
  where
    go : Place n f → Dec (f (suc n) ≤ least n f) → Place (suc n) f
    go p (yes q) = record { at = suc n; on = omega arith; is = omega arith }
    go p (no q) = record { at = p.at; on = omega (arith, p.on); is = omega (arith, p.is) }

module _ (corner : Bool) (n : ℕ) (small : n ≤ 400) where
  -- what `g` takes the least of
  abbrev entry : ℕ → ℕ → ℕ
  entry h k = cond (leb n (h * h + k * k)) (beside corner h k) 1000

  -- ---- no place outside is nearer

  near_place : (h k : ℕ) → h ≤ 20 → k ≤ 20 → n ≤ h * h + k * k → g corner n ≤ beside corner h k
  unfolding g
  near_place h k a b out =
      let p = least_le 20 (λ i. least 20 (entry i)) h a in
      let q = least_le 20 (entry h) k b in
      let e : entry h k ≡ beside corner h k = rw (le-leb n (h * h + k * k) out) in
      omega arith

  -- a component cut off at 20 is as far from 1, or nearer
  cut_gap : (h : ℕ) → gap (min h 20) 1 ≤ gap h 1
  unfolding gap
  cut_gap h = omega arith

  cut_beside : (h k : ℕ) → beside corner (min h 20) (min k 20) ≤ beside corner h k
  cut_beside h k = go corner
    where
      go : (c : Bool) → beside c (min h 20) (min k 20) ≤ beside c h k
      go true = omega (arith, square_le (cut_gap h), square_le (cut_gap k))
      go false = let l : min k 20 ≤ k = omega arith in omega (arith, square_le (cut_gap h), square_le l)

  cut_outside : (h k : ℕ) → n ≤ h * h + k * k → n ≤ min h 20 * min h 20 + min k 20 * min k 20
  cut_outside h k out = elim (dec_le h 20) [
    | yes a ↦ elim (dec_le k 20) [
      | yes b ↦ let e : min h 20 ≡ h = omega arith in let f : min k 20 ≡ k = omega arith in rw (e, f) out
      | no b ↦ let f : min k 20 ≡ 20 = omega arith in rw f (omega arith)
    ]
    | no a ↦ let e : min h 20 ≡ 20 = omega arith in rw e (omega arith)
  ]

  pub g-least : (h k : ℕ) → n ≤ h * h + k * k → g corner n ≤ beside corner h k
  g-least h k out = omega (arith, near_place (min h 20) (min k 20) (omega arith) (omega arith) (cut_outside h k out), cut_beside h k)

  -- ---- one is as near

  record Outer : Type 0 where
    h : ℕ
    k : ℕ
    outside : n ≤ h * h + k * k
    is : g corner n ≡ beside corner h k

  outer : Outer
  unfolding g gap
  outer = go (leb n (i * i + j * j)) refl
    where
      i : ℕ
      i = (least_at 20 (λ h. least 20 (entry h))).at

      j : ℕ
      j = (least_at 20 (entry i)).at

      e : g corner n ≡ entry i j
      e = (least_at 20 (λ h. least 20 (entry h))).is ∙ (least_at 20 (entry i)).is

      far : (c : Bool) → beside c 20 0 ≤ 362
      far true = omega arith
      far false = omega arith

      go : (t : Bool) → leb n (i * i + j * j) ≡ t → Outer
      go true p = record { h = i; k = j; outside = leb-true n (i * i + j * j) p; is = e ∙ rw p }
      go false p = absurd (omega (arith, far corner, g-least 20 0 (omega arith), e ∙ ap (λ (t : Bool). cond t (beside corner i j) 1000) p))

-- ---- over all whole numbers

-- a whole number is at least as far from 1 as its magnitude is, and from 0 as far
from_one : (z : ℤ) → gap (nat_abs z) 1 ≤ nat_abs (z -ℤ pos 1)
unfolding gap
from_one (pos n) = omega (arith, way-abs 1 n)
from_one (negsuc n) = omega arith

beside_le : (corner : Bool) (h k : ℤ) → beside corner (nat_abs h) (nat_abs k) ≤ size (h -ℤ pos 1) (k -ℤ pos (cond corner 1 0))
unfolding size
beside_le true h k = omega (arith, square_le (from_one h), square_le (from_one k))
beside_le false h k = rw (+ℤ_idr k) (omega (arith, square_le (from_one h)))

one-abs : (h : ℕ) → nat_abs (pos h -ℤ pos 1) ≡ gap h 1
one-abs h = way-abs 1 h ∙ gap-swap 1 h

beside_is : (corner : Bool) (h k : ℕ) → size (pos h -ℤ pos 1) (pos k -ℤ pos (cond corner 1 0)) ≡ beside corner h k
unfolding size
beside_is true h k = ap₂ (λ (a b : ℕ). a * a + b * b) (one-abs h) (one-abs k)
beside_is false h k = ap₂ (λ (a b : ℕ). a * a + b * b) (one-abs h) (ap nat_abs (+ℤ_idr (pos k)))

pub g_rule : (corner : Bool) (n : ℕ) → n ≤ 400 → Rule corner n (g corner n)
unfolding size
g_rule corner n small =
    let o = outer corner n small in record {
      h = pos o.h;
      k = pos o.k;
      outside = o.outside;
      attained = beside_is corner o.h o.k ∙ sym o.is;
      lower = λ h k out. omega (arith, g-least corner n small (nat_abs h) (nat_abs k) out, beside_le corner h k);
    }

-- ---- g(n) is below n

-- the root of n, rounded up, less 1
record Root (n : ℕ) : Type 0 where
  r : ℕ
  above : r * r < n
  enough : n ≤ (r + 1) * (r + 1)

root : (n : ℕ) → Root (suc n)
root zero = record { r = 0; above = omega arith; enough = omega arith }
root (suc n) = go (root n)
  where
    go : Root (suc n) → Root (suc (suc n))
    go p = elim (dec_le (suc (suc n)) ((p.r + 1) * (p.r + 1))) [
      | yes q ↦ record { r = p.r; above = omega (arith, p.above); enough = q }
      | no q ↦ record { r = p.r + 1; above = omega arith; enough = omega (arith, p.enough) }
    ]

-- the place (r + 1, 0), or (r + 1, 1), is outside, and r steps from the neighbour
pub g-below : (corner : Bool) (n : ℕ) → 1 ≤ n → n ≤ 400 → g corner n < n
unfolding gap
g-below corner zero one small = absurd (omega arith)
g-below corner (suc n) one small =
    let p = root n in omega (arith, p.above, g-least corner (suc n) small (p.r + 1) (cond corner 1 0) (omega (arith, p.enough)), steps corner p.r (omega arith))
  where
    steps : (c : Bool) (r : ℕ) → gap (r + 1) 1 ≤ r → beside c (r + 1) (cond c 1 0) ≤ r * r
    steps true r l = omega (arith, square_le l)
    steps false r l = omega (arith, square_le l)
