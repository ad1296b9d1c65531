-- What the way to a copper pixel costs that is u columns and v rows off, where a side step costs 12 and a corner step 17: how the last step of
-- such a way goes, and the fraction of the true distance that its cost comes to.
-- Assumes nothing.
use mathlib.Core.Path.{◌≡◌, refl}
use mathlib.Core.Bool.{Bool, true, false}
use Prim.Native.Nat.{ℕ, zero, suc, ◌+◌, ◌*◌, ◌-◌, ◌≤◌, max, min}
use native.Mathlib.Decide.{dec_le}
use native.Mathlib.Omega.{arith}
use Rattle.scan.specs.Scan.{gate}
use Rattle.scan.proofs.Within.{twice}

-- the last step of a way of cost K: none, from the row before, from its corner (8SED alone), or along the row
pub data Way (corners : Bool) (K : ℕ → ℕ → ℕ) (u v : ℕ) : Type 0 where
  here : u ≡ 0 → v ≡ 0 → Way corners K u v
  straight : (v' : ℕ) → v ≡ v' + 1 → K u v' + 12 ≤ K u v → Way corners K u v
  corner : (u' v' : ℕ) → corners ≡ true → u ≡ u' + 1 → v ≡ v' + 1 → K u' v' + 17 ≤ K u v → Way corners K u v
  side : (u' : ℕ) → u ≡ u' + 1 → K u' v + 12 ≤ K u v → Way corners K u v

-- 8SED goes by corners as far as it can, 4SED never does
unfoldable pub cost : (corners : Bool) → ℕ → ℕ → ℕ
cost true u v = 12 * max u v + 5 * min u v
cost false u v = 12 * (u + v)

pub way : (corners : Bool) (u v : ℕ) → Way corners (cost corners) u v
unfolding cost
way false zero zero = here refl refl
way false u (suc v) = straight v (omega arith) (omega arith)
way false (suc u) zero = side u (omega arith) (omega arith)
way true zero zero = here refl refl
way true zero (suc v) = straight v (omega arith) (omega arith)
way true (suc u) v = elim (dec_le (suc u) v) [
  | yes l ↦ corner u (v - 1) refl (omega arith) (omega arith) (omega arith)
  | no n ↦ side u (omega arith) (omega arith)
]

-- (12M + 5m)² ≤ 169(M² + m²), since what is missing is (5M − 12m)²
eight : (M m a : ℕ) → 144 * a ≤ (12 * M + 5 * m) * (12 * M + 5 * m) → 144 * a ≤ 169 * (M * M + m * m)
eight M m a h = omega (arith, twice (5 * M) (12 * m))

-- a size that the cost bounds is at most that fraction of the true squared distance
pub fraction : (corners : Bool) (u v a : ℕ) → 144 * a ≤ cost corners u v * cost corners u v → (gate corners).den * a ≤ (gate corners).num * (u * u + v * v)
unfolding cost
fraction true u v a h = elim (dec_le u v) [
  | yes l ↦ let e : 12 * max u v + 5 * min u v ≡ 12 * v + 5 * u = omega arith in omega (arith, eight v u a (rw e at h))
  | no n ↦ let e : 12 * max u v + 5 * min u v ≡ 12 * u + 5 * v = omega arith in eight u v a (rw e at h)
]
fraction false u v a h = omega (arith, twice u v)
