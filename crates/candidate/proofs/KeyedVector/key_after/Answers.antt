-- `candidate::KeyedVector::key_after` meets its contract: what the step adds to the square of a component is added to the size, and dy² stays. Where there is no vector,
-- nothing is taken away, and the key stays too large.
use mathlib.Core.Path.{◌≡◌, refl, ap}
use mathlib.Core.Bool.{Bool, true, false}
use Prim.Native.Nat.{◌*◌, ◌≤◌}
use native.Mathlib.Nat.{mul-le-mul}
use native.Mathlib.Omega.{arith}
use lib.IntN.{nat_abs}
use mir.ValLaws.{to_z-of_z}
use borrow.Author.Tests.{ltb-true}
use Rattle.raster.specs.Limits.{max_side}
use Rattle.raster.specs.Vector.{size}
use Rattle.candidate.specs.declared.KeyedVector.{KeyedVector}
use Rattle.candidate.specs.Key.{square, key, no_key, key_limit}
use Rattle.candidate.specs.Holding.{is_given, Given}
use Rattle.candidate.proofs.Carried.{given-dx}
use Rattle.candidate.proofs.KeyedVector.key_after.Goals as goal

-- the square of dx is part of the key, which is not above that of no vector
parts : {c : KeyedVector} → Given c → (4294967296 * square c.dx ≤ c.key) × (c.key ≤ no_key)
unfolding key size
parts {c} g = go (is_given c) refl
  where
    near : nat_abs c.dx ≤ max_side
    near = omega (arith, g.near_dx)

    go : (t : Bool) → is_given c ≡ t → (4294967296 * square c.dx ≤ c.key) × (c.key ≤ no_key)
    go true e = (omega (arith, g.own e), omega (arith, ltb-true c.key key_limit e))
    go false e = let n = g.absent e in (omega (arith, n.1, mul-le-mul near near), omega (arith, n.1))

pub returns : goal.returns
unfolding key size
returns c =
    let g = c.requires.0 in
    let added = simp (to_z-of_z, given-dx g, c.ranges.o) at c.growth.ensures.0 in
    record {
      candidate = λ e. omega (arith, g.own e, added);
      none = λ e. let n = g.absent e in omega (arith, n.1, ap (λ z. square z) n.0, added);
    }

pub overflow_sub-result : goal.overflow_sub-result
overflow_sub-result c =
    let g = c.requires.0 in
    let added = simp (to_z-of_z, given-dx g, c.ranges.o) at c.growth.ensures.0 in
    omega (arith, (parts g).0, added)
