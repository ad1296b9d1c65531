-- How good a pixel's vector is. A pixel is within K if it is labelled and 12 × its distance is at most K. One candidate never loses that; a side
-- step adds 12 to K, a corner step 17, since 17² ≥ 2 × 12².
-- Assumes nothing.
use mathlib.Core.Path.{◌≡◌, refl, ap, subst}
use mathlib.Core.Logic.{◌≢◌}
use mathlib.Core.Bool.{Bool, true, false, ◌&&◌, ◌||◌}
use mathlib.Core.List.{List}
use Prim.Native.Nat.{ℕ, ◌+◌, ◌*◌, ◌-◌, ◌≤◌}
use native.Mathlib.Decide.{ℕ_discrete, dec_le}
use native.Mathlib.Omega.{arith}
use lib.Dec.{eqb, ltb}
use lib.IntN.{ℤ, nat_abs, ◌+ℤ◌}
use borrow.Author.Tests.{ltb-true, ltb-false, eqb-true}
use Rattle.raster.specs.DistanceLaws.{square_le, root_le}
use Rattle.raster.specs.Vector.{UnitStep, size, unlabelled, replaces}
use Rattle.raster.specs.VectorLaws.{add_abs}
use Rattle.raster.specs.Map.{Inside, dx_at, dy_at, put}
use Rattle.raster.specs.MapLaws.{put-dx, put-dy, put-dx-other, put-dy-other}
use Rattle.raster.specs.Tests.{and_left, or_left, or_right, cond_ind}
use Rattle.candidate.specs.Candidate.{offer}
use Rattle.candidate.proofs.Neighbours.{offer_ind}

-- the vector (dx, dy) is labelled, and its size is at most (K / 12)²
pub record Good (dx dy : ℤ) (K : ℕ) : Type 0 where
  pub labelled : unlabelled dx dy ≡ false
  pub near : 144 * size dx dy ≤ K * K

-- the vector at pixel p is within K
abbrev pub Within : (m : List ℤ) (p K : ℕ) → Type 0
Within m p K = Good (dx_at m p) (dy_at m p) K

pub relaxed : {dx dy : ℤ} {K L : ℕ} → K ≤ L → Good dx dy K → Good dx dy L
relaxed l g = record { labelled = g.labelled; near = omega (arith, square_le l, g.near) }

-- ---- the size after a step

-- 2xy ≤ x² + y²
pub twice : (x y : ℕ) → 2 * (x * y) ≤ x * x + y * y
twice x y = elim (dec_le x y) [ yes h ↦ up x y h | no n ↦ omega (arith, up y x (omega arith)) ]
  where
    up : (x y : ℕ) → x ≤ y → 2 * (x * y) ≤ x * x + y * y
    up x y h =
        let e : x + (y - x) ≡ y = omega arith in
        omega (arith, ap (λ (t : ℕ). t * t) e, ap (λ (t : ℕ). x * t) e)

side : (x y K : ℕ) → 144 * (x * x + y * y) ≤ K * K → 144 * ((x + 1) * (x + 1) + y * y) ≤ (K + 12) * (K + 12)
side x y K h = let b = root_le (12 * x) K (omega arith) in omega arith

corner : (x y K : ℕ) → 144 * (x * x + y * y) ≤ K * K → 144 * ((x + 1) * (x + 1) + (y + 1) * (y + 1)) ≤ (K + 17) * (K + 17)
corner x y K h = let b = root_le (288 * (x + y)) (34 * K) (omega (arith, twice x y)) in omega arith

module _ (x y ox oy : ℤ) where
  -- the size after a step of at most a and b
  step-size : (a b : ℕ) → nat_abs ox ≤ a → nat_abs oy ≤ b
      → size (x +ℤ ox) (y +ℤ oy) ≤ (nat_abs x + a) * (nat_abs x + a) + (nat_abs y + b) * (nat_abs y + b)
  unfolding size
  step-size a b h k =
      let hx : nat_abs (x +ℤ ox) ≤ nat_abs x + a = omega (arith, add_abs x ox) in
      let hy : nat_abs (y +ℤ oy) ≤ nat_abs y + b = omega (arith, add_abs y oy) in
      omega (arith, square_le hx, square_le hy)

  pub side-size : (K : ℕ) → nat_abs ox + nat_abs oy ≤ 1 → 144 * size x y ≤ K * K → 144 * size (x +ℤ ox) (y +ℤ oy) ≤ (K + 12) * (K + 12)
  unfolding size
  side-size K h n = elim (dec_le (nat_abs oy) 0) [
    | yes z ↦ omega (arith, step-size 1 0 (omega arith) z, side (nat_abs x) (nat_abs y) K n)
    | no o ↦ omega (arith, step-size 0 1 (omega arith) (omega arith), side (nat_abs y) (nat_abs x) K (omega arith))
  ]

  pub corner-size : (K : ℕ) → UnitStep ox → UnitStep oy → 144 * size x y ≤ K * K → 144 * size (x +ℤ ox) (y +ℤ oy) ≤ (K + 17) * (K + 17)
  unfolding size
  corner-size K h k n = omega (arith, step-size 1 1 h k, corner (nat_abs x) (nat_abs y) K n)

-- ---- one candidate

-- what replaces a labelled vector is no larger; what does not replace one leaves a labelled one that is no larger
no_larger : (x y a b : ℤ) → unlabelled x y ≡ false → replaces x y a b ≡ true → size a b ≤ size x y
unfolding replaces
no_larger x y a b l r = go (ltb (size a b) (size x y)) refl (rw l at r)
  where
    go : (t : Bool) → ltb (size a b) (size x y) ≡ t → t || (eqb (size a b) (size x y) && ltb (nat_abs x) (nat_abs a)) ≡ true → size a b ≤ size x y
    go true e r = omega (arith, ltb-true (size a b) (size x y) e)
    go false e r = omega (arith, eqb-true (size a b) (size x y) (and_left _ _ r))

refused : (x y a b : ℤ) → replaces x y a b ≡ false → (unlabelled x y ≡ false) × (size x y ≤ size a b)
unfolding replaces
refused x y a b r = (or_left _ _ r, ltb-false (size a b) (size x y) (or_left _ _ (or_right (unlabelled x y) _ r)))

-- a pixel after a write, there and elsewhere
here : (at : ℕ) (x y : ℤ) (m : List ℤ) (K : ℕ) → Inside at m → Good x y K → Within (put at x y m) at K
here at x y m K i g = rw (put-dx at x y m i, put-dy at x y m i) g

elsewhere : (at : ℕ) (x y : ℤ) (m : List ℤ) (p K : ℕ) → p ≢ at → Within m p K → Within (put at x y m) p K
elsewhere at x y m p K n g = rw (put-dx-other at x y m p n, put-dy-other at x y m p n) g

-- a pixel is offered a vector that labels it
module _ (at : ℕ) (cx cy : ℤ) (m : List ℤ) (inside : Inside at m) (labels : unlabelled cx cy ≡ false) where
  -- what is within K stays so
  pub kept : (p K : ℕ) → Within m p K → Within (offer cx cy at m) p K
  kept p K g = offer_ind cx cy at m (λ n. Within n p K) g (λ r. written r (ℕ_discrete p at))
    where
      written : replaces (dx_at m at) (dy_at m at) cx cy ≡ true → Dec (p ≡ at) → Within (put at cx cy m) p K
      written r (yes e) =
          let g' = subst (λ (q : ℕ). Within m q K) e g in
          rw e (here at cx cy m K inside (record { labelled = labels; near = omega (arith, no_larger _ _ _ _ g'.labelled r, g'.near) }))
      written r (no n) = elsewhere at cx cy m p K n g

  -- the pixel has that vector, or one no larger
  pub reached : (L : ℕ) → 144 * size cx cy ≤ L * L → Within (offer cx cy at m) at L
  unfolding offer
  reached L n =
      cond_ind (λ t. Within t at L) (replaces (dx_at m at) (dy_at m at) cx cy)
      (λ r. here at cx cy m L inside (record { labelled = labels; near = n }))
      (λ r. let g = refused _ _ _ _ r in record { labelled = g.0; near = omega arith })
