-- The laws of chamfer distances and of values. With these weights the distance is a norm: one step changes it by at most its weight. A value is the greatest
-- number that is not above what any copper pixel gives.
-- Assumes nothing.
use Rattle.std.specs.Prelude.{◌≡◌}
use Rattle.std.proofs.Common.{ap, ◌∙◌}
use Prim.Native.Nat.{ℕ, zero, suc, ◌+◌, ◌*◌, ◌-◌, ◌≤◌, max, min}
use Rattle.std.proofs.Math.Decide.{dec_le}
use native.Mathlib.Omega.{arith}
use Rattle.raster.specs.Distance.{gap, Copper}
use Rattle.raster.specs.DistanceLaws.{gap_by_way, to_copper_top, to_copper_under, to_copper_over}
use Rattle.raster.specs.Pixels.{Mask}
use Rattle.chamfer.specs.Chamfer.{Weights, chamfer_distance, no_value, value}

-- ---- the distance

module _ (a b : ℕ) where
  -- with the larger offset named
  pub wide : (u v : ℕ) → v ≤ u → chamfer_distance a b u v ≡ a * (u - v) + b * v
  unfolding chamfer_distance
  wide u v h = let e : max u v - min u v ≡ u - v = omega arith in let f : min u v ≡ v = omega arith in rw (e, f)

  pub turned : (u v : ℕ) → chamfer_distance a b u v ≡ chamfer_distance a b v u
  unfolding chamfer_distance
  turned u v = let e : max u v - min u v ≡ max v u - min v u = omega arith in let f : min u v ≡ min v u = omega arith in rw (e, f)

  -- a corner step more in both, and a side step more in the larger
  pub corner-more : (u v : ℕ) → chamfer_distance a b (u + 1) (v + 1) ≡ chamfer_distance a b u v + b
  unfolding chamfer_distance
  corner-more u v =
      let e : max (u + 1) (v + 1) - min (u + 1) (v + 1) ≡ max u v - min u v = omega arith in
      let f : min (u + 1) (v + 1) ≡ min u v + 1 = omega arith in
      rw (e, f) (omega arith)

  pub side-more : (u v : ℕ) → v ≤ u → chamfer_distance a b (u + 1) v ≡ chamfer_distance a b u v + a
  side-more u v h =
      let e : u + 1 - v ≡ u - v + 1 = omega arith in
      rw (wide u v h, wide (u + 1) v (omega arith), e) (omega arith)

  pub straight_more : (v : ℕ) → chamfer_distance a b 0 (v + 1) ≡ chamfer_distance a b 0 v + a
  straight_more v = rw (turned 0 (v + 1), turned 0 v) (side-more v 0 (omega arith))

  pub distance_none : chamfer_distance a b 0 0 ≡ 0
  distance_none = wide 0 0 (omega arith) ∙ omega arith

  module _ (ok : Weights a b) where
    -- a column more costs at most a side step, and nothing less
    next-column : (u v : ℕ) → (chamfer_distance a b u v ≤ chamfer_distance a b (u + 1) v) × (chamfer_distance a b (u + 1) v ≤ chamfer_distance a b u v + a)
    next-column u v = elim (dec_le v u) [
      | yes h ↦ (omega (arith, side-more u v h), omega (arith, side-more u v h))
      | no n ↦
          let e : v - u ≡ v - (u + 1) + 1 = omega arith in
          rw (turned u v, turned (u + 1) v, wide v u (omega arith), wide v (u + 1) (omega arith), e) (omega (arith, ok.ordered), omega (arith, ok.no_detour))
    ]

    -- more columns and more rows cost no less
    columns-more : (u v k : ℕ) → chamfer_distance a b u v ≤ chamfer_distance a b (k + u) v
    columns-more u v zero = let e : 0 + u ≡ u = omega arith in rw e (omega arith)
    columns-more u v (suc k) = let e : suc k + u ≡ k + u + 1 = omega arith in rw e (omega (arith, columns-more u v k, (next-column (k + u) v).0))

    pub no_less : (u v u' v' : ℕ) → u ≤ u' → v ≤ v' → chamfer_distance a b u v ≤ chamfer_distance a b u' v'
    no_less u v u' v' l m =
        let e : u' - u + u ≡ u' = omega arith in
        let f : v' - v + v ≡ v' = omega arith in
        omega (arith, columns-more u v (u' - u), columns-more v u' (v' - v), turned u' v, turned u' v', ap (λ (t : ℕ). chamfer_distance a b t v) e, ap (λ (t : ℕ). chamfer_distance a b t u') f)

    -- one step to the side, one step to a corner
    pub side-step : (u v u' v' : ℕ) → u ≤ u' + 1 → v ≤ v' → chamfer_distance a b u v ≤ chamfer_distance a b u' v' + a
    side-step u v u' v' l m = omega (arith, no_less u v (u' + 1) v' l m, (next-column u' v').1)

    pub corner-step : (u v u' v' : ℕ) → u ≤ u' + 1 → v ≤ v' + 1 → chamfer_distance a b u v ≤ chamfer_distance a b u' v' + b
    corner-step u v u' v' l m = omega (arith, no_less u v (u' + 1) (v' + 1) l m, corner-more u' v')

    -- on a sheet no distance comes up to unlabelled: 32 × 2,047 = 65,504
    pub distance_small : (u v : ℕ) → u ≤ 2047 → v ≤ 2047 → chamfer_distance a b u v ≤ 65504
    distance_small u v l m = omega (arith, no_less u v 2047 2047 l m, wide 2047 2047 (omega arith), ok.small)

-- ---- values

module _ (a b : ℕ) (copper : Mask) (w h : ℕ) where
  pub value-top : (x y : ℕ) → value a b copper w h x y ≤ no_value
  unfolding value
  value-top x y = to_copper_top no_value copper w h _

  -- no copper pixel gives less, and any number that none of them is below is not above the value
  pub value-under : (x y i j : ℕ) → Copper copper w h i j → value a b copper w h x y ≤ chamfer_distance a b (gap x i) (gap y j)
  unfolding value
  value-under x y = to_copper_under no_value copper w h (λ i j. chamfer_distance a b (gap x i) (gap y j))

  pub value_over : (x y k : ℕ) → k ≤ no_value → ((i j : ℕ) → Copper copper w h i j → k ≤ chamfer_distance a b (gap x i) (gap y j)) → k ≤ value a b copper w h x y
  unfolding value
  value_over x y = to_copper_over no_value copper w h (λ i j. chamfer_distance a b (gap x i) (gap y j))

  -- one step changes a value by at most its weight
  module _ (ok : Weights a b) (x y x' y' : ℕ) (column : gap x x' ≤ 1) (row : gap y y' ≤ 1) where
    value-step : (s : ℕ) → ((i j : ℕ) → chamfer_distance a b (gap x i) (gap y j) ≤ chamfer_distance a b (gap x' i) (gap y' j) + s)
        → value a b copper w h x y ≤ value a b copper w h x' y' + s
    value-step s near =
        omega (arith, value_over x' y' (value a b copper w h x y - s) (omega (arith, value-top x y)) (λ i j c. omega (arith, value-under x y i j c, near i j)))

    pub value-corner : value a b copper w h x y ≤ value a b copper w h x' y' + b
    value-corner = value-step b (λ i j. corner-step a b ok _ _ _ _ (omega (arith, gap_by_way x x' i)) (omega (arith, gap_by_way y y' j)))

    pub value-side : gap x x' + gap y y' ≤ 1 → value a b copper w h x y ≤ value a b copper w h x' y' + a
    value-side one = value-step a (λ i j. go i j (dec_le (gap x x') 0))
      where
        go : (i j : ℕ) → Dec (gap x x' ≤ 0) → chamfer_distance a b (gap x i) (gap y j) ≤ chamfer_distance a b (gap x' i) (gap y' j) + a
        go i j (yes z) =
            rw (turned a b (gap x i) (gap y j), turned a b (gap x' i) (gap y' j))
            (side-step a b ok _ _ _ _ (omega (arith, gap_by_way y y' j)) (omega (arith, gap_by_way x x' i)))
        go i j (no z) = side-step a b ok _ _ _ _ (omega (arith, gap_by_way x x' i)) (omega (arith, gap_by_way y y' j))
