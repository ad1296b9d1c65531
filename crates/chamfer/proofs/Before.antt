-- What a pixel takes from the row before: not less than its value, and not more than what copper gives that the row before has, if that row is nearer to it.
-- Assumes nothing.
use mathlib.Core.Path.{◌≡◌, sym, subst}
use mathlib.Core.List.{List}
use Prim.Native.Nat.{ℕ, ◌+◌, ◌-◌, ◌≤◌, ◌<◌}
use native.Mathlib.Decide.{dec_lt}
use native.Mathlib.Omega.{arith}
use lib.ListN.{get_or}
use Rattle.raster.specs.Distance.{gap}
use Rattle.raster.specs.DistanceLaws.{gap-self, gap-left, gap-right}
use Rattle.chamfer.specs.Chamfer.{chamfer_distance, no_value}
use Rattle.chamfer.specs.ChamferLaws.{corner-more, straight_more}
use Rattle.chamfer.specs.Rows.{from_three}

-- the working row, with P z v at pixel z of value v
pub record Padded (w : ℕ) (P : (z v : ℕ) → Type 0) (row : List ℕ) : Type 0 where
  pub first : get_or row 0 0 ≡ no_value
  pub last : get_or row (1 + w) 0 ≡ no_value
  pub inner : (z : ℕ) → z < w → P z (get_or row (1 + z) 0)

module _ (a b w : ℕ) {P : (z v : ℕ) → Type 0} {row : List ℕ} (pad : Padded w P row) (x : ℕ) (on : x < w) where
  -- a number that no candidate is below
  pub three_over : (k : ℕ) → k ≤ no_value → k ≤ get_or row (1 + x) 0 + a → ((z : ℕ) → z < w → gap x z ≤ 1 → k ≤ get_or row (1 + z) 0 + b) → k ≤ from_three a b row x
  unfolding gap
  three_over k top middle corner = omega (arith, left (dec_lt 0 x), right (dec_lt (x + 1) w))
    where
      left : Dec (0 < x) → k ≤ get_or row x 0 + b
      left (yes l) =
          let e : 1 + (x - 1) ≡ x = omega arith in
          subst (λ (p : ℕ). k ≤ get_or row p 0 + b) e (corner (x - 1) (omega arith) (omega arith))
      left (no l) = let e : 0 ≡ x = omega arith in subst (λ (p : ℕ). k ≤ get_or row p 0 + b) e (omega (arith, pad.first))

      right : Dec (x + 1 < w) → k ≤ get_or row (2 + x) 0 + b
      right (yes l) =
          let e : 1 + (x + 1) ≡ 2 + x = omega arith in
          subst (λ (p : ℕ). k ≤ get_or row p 0 + b) e (corner (x + 1) l (omega arith))
      right (no l) = let e : 1 + w ≡ 2 + x = omega arith in subst (λ (p : ℕ). k ≤ get_or row p 0 + b) e (omega (arith, pad.last))

  -- copper in column i, v rows from the row before: the step towards it brings what it gives
  pub three-under : (i v : ℕ) → i < w → ((z : ℕ) → z < w → (z < i → z ≡ x + 1) → get_or row (1 + z) 0 ≤ chamfer_distance a b (gap z i) v)
      → from_three a b row x ≤ chamfer_distance a b (gap x i) (v + 1)
  three-under i v there near = go (dec_lt i x) (dec_lt x i)
    where
      go : Dec (i < x) → Dec (x < i) → from_three a b row x ≤ chamfer_distance a b (gap x i) (v + 1)
      go (yes l) m =
          let e : 1 + (x - 1) ≡ x = omega arith in
          let f : x - 1 + 1 ≡ x = omega arith in
          let g = subst (λ (t : ℕ). gap t i ≡ gap (x - 1) i + 1) f (gap-right (x - 1) i (omega arith)) in
          let n = near (x - 1) (omega arith) (λ k. absurd (omega arith)) in
          rw g (omega (arith, subst (λ (p : ℕ). get_or row p 0 ≤ chamfer_distance a b (gap (x - 1) i) v) e n, corner-more a b (gap (x - 1) i) v))
      go (no l) (yes m) =
          let e : 1 + (x + 1) ≡ 2 + x = omega arith in
          let n = near (x + 1) (omega arith) (λ k. omega arith) in
          rw (gap-left x i m) (omega (arith, subst (λ (p : ℕ). get_or row p 0 ≤ chamfer_distance a b (gap (x + 1) i) v) e n, corner-more a b (gap (x + 1) i) v))
      go (no l) (no m) =
          let e : i ≡ x = omega arith in
          let n = near x on (λ k. absurd (omega arith)) in
          let g = subst (λ (t : ℕ). gap x t ≡ 0) (sym e) (gap-self x) in
          rw g (omega (arith, rw g at n, straight_more a b v))
