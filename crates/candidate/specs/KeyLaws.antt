-- The laws of keys. For a vector that ends on a sheet keys alone say whether it replaces another.
-- Assumes nothing.
use Rattle.std.specs.Prelude.{◌≡◌, Bool, ◌||◌, ◌≤◌, ◌<◌, ltb, ℤ, nat_abs}
use Rattle.std.proofs.Math.Path.{refl}
use Rattle.std.proofs.Common.{sym}
use Rattle.std.proofs.Math.Bool.{true, false}
use Rattle.std.proofs.Math.Nat.{mul-le-mul}
use Rattle.std.proofs.Math.Decide.{dec_le}
use native.Mathlib.Omega.{arith}
use borrow.Author.Tests.{lt-ltb, le-ltb, ltb-true, eq-eqb, ne_eqb}
use Rattle.raster.specs.Limits.{max_side}
use Rattle.raster.specs.DistanceLaws.{square_le}
use Rattle.raster.specs.Tests.{and_right, same}
use Rattle.raster.specs.Vector.{size, is_mark, unlabelled, replaces}
use Rattle.raster.specs.VectorLaws.{mark-abs, unlabelled-size}
use Rattle.candidate.specs.Key.{key, no_key, key_limit}

pub unlabelled-key : (dx dy : ℤ) → unlabelled dx dy ≡ true → key dx dy ≡ no_key
unfolding key
unlabelled-key dx dy u = rw (unlabelled-size dx dy u, mark-abs dy (and_right (is_mark dx) _ u))

-- components up to 2,048 keep the key below the limit
pub near-key : (x y : ℤ) → nat_abs x ≤ max_side → nat_abs y ≤ max_side → key x y < key_limit
unfolding key size
near-key x y a b = omega (arith, mul-le-mul a a, mul-le-mul b b)

-- ---- (cx, cy) ends on a sheet, (dx, dy) is anything

module _ (dx dy cx cy : ℤ) (near-x : nat_abs cx ≤ max_side) (near-y : nat_abs cy ≤ max_side) where
  -- the smaller size has the smaller key
  less : size cx cy < size dx dy → key cx cy < key dx dy
  unfolding key
  less l = omega (arith, mul-le-mul near-y near-y)

  more : size dx dy < size cx cy → key dx dy < key cx cy
  unfolding key size
  more l = omega (arith, mul-le-mul near-x near-x, mul-le-mul near-y near-y)

  -- of equal sizes the larger dx has it
  equal : size cx cy ≡ size dx dy → ltb (key cx cy) (key dx dy) ≡ ltb (nat_abs dx) (nat_abs cx)
  unfolding key size
  equal e = same (ltb (key cx cy) (key dx dy)) _
      (λ l. lt-ltb (nat_abs dx) (nat_abs cx) (elim (dec_le (nat_abs cx) (nat_abs dx)) [
        | yes h ↦ absurd (omega (arith, ltb-true (key cx cy) (key dx dy) l, square_le h))
        | no n ↦ omega arith
      ]))
      (λ l. lt-ltb (key cx cy) (key dx dy) (omega (arith, square_le (ltb-true (nat_abs dx) (nat_abs cx) l))))

  -- an unlabelled pixel's numbers have a larger size
  labelled : size dx dy ≤ size cx cy → unlabelled dx dy ≡ false
  unfolding size
  labelled h = go (unlabelled dx dy) refl
    where
      go : (u : Bool) → unlabelled dx dy ≡ u → unlabelled dx dy ≡ false
      go true u = absurd (omega (arith, unlabelled-size dx dy u, mul-le-mul near-x near-x, mul-le-mul near-y near-y))
      go false u = u

  pub key-replaces : ltb (key cx cy) (key dx dy) ≡ replaces dx dy cx cy
  unfolding replaces
  key-replaces = elim (dec_le (size dx dy) (size cx cy)) [
    | no n ↦ rw (lt-ltb _ _ (less (omega arith)), lt-ltb (size cx cy) (size dx dy) (omega arith)) (sym (any (unlabelled dx dy)))
    | yes h ↦ rw (labelled h, le-ltb (size cx cy) (size dx dy) h) (elim (dec_le (size cx cy) (size dx dy)) [
      | yes k ↦ rw (eq-eqb (size cx cy) (size dx dy) (omega arith)) (equal (omega arith))
      | no n ↦ rw (ne_eqb (size cx cy) (size dx dy) (omega arith)) (le-ltb (key cx cy) (key dx dy) (omega (arith, more (omega arith))))
    ])
  ]
    where
      any : (u : Bool) → u || true ≡ true
      any true = refl
      any false = refl
