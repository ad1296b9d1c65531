-- What the chamfer maps guarantee, on every sheet of up to 2,048 × 2,048 pixels, whatever its bytes: document 02, C-12. c is the value at a pixel.
--   for any two weights that are allowed: without copper every pixel is unlabelled; with copper every one is labelled, c is at most 65,504, it is what some
--   copper pixel gives, and no copper pixel gives less;
--   for the engines 4 to 6: the gate passes c² only where all copper is above q, and fails only where some is within the engine's fraction of q.
-- Assumes nothing.
use mathlib.Core.Path.{◌≡◌, sym, subst, ◌∙◌}
use mathlib.Core.Bool.{true, false}
use mathlib.Core.List.{List}
use Prim.Native.Nat.{ℕ, ◌+◌, ◌*◌, ◌-◌, ◌≤◌, ◌<◌}
use native.Mathlib.Decide.{dec_le, ℕ_discrete}
use native.Mathlib.Nat.{le_trans, mul-le-mul_left}
use native.Mathlib.Omega.{arith}
use lib.ListN.{get_or}
use borrow.Author.Tests.{ne_eqb, eqb-false}
use Rattle.raster.specs.Limits.{max_side}
use Rattle.raster.specs.Pixels.{Mask, index}
use Rattle.raster.specs.PixelsLaws.{pixels-at}
use Rattle.raster.specs.Distance.{gap, apart, Copper, Clear}
use Rattle.raster.specs.DistanceLaws.{gap-square, gap_below, square_le, Giver, to_copper_giver}
use Rattle.raster.specs.Gate.{passes, NearBy}
use Rattle.raster.specs.GateLaws.{passed-above, failed_within}
use Rattle.chamfer.specs.Chamfer.{Weights, chamfer_distance, no_value, value, chamfer_map}
use Rattle.chamfer.specs.ChamferLaws.{wide, turned, distance_small, value-top, value-under, value_over}
use Rattle.chamfer.specs.Engines.{weights, side_weight, corner_weight, no_value_at, square_at, gate, fair_fraction}
use Rattle.chamfer.proofs.Weights.{allowed}

-- ---- any two weights

module _ (a b : ℕ) (copper : Mask) (w h x y : ℕ) where
  -- some copper pixel gives the value
  pub labelled_giver : value a b copper w h x y < no_value → Giver no_value copper w h (λ i j. chamfer_distance a b (gap x i) (gap y j))
  unfolding value
  labelled_giver l = to_copper_giver no_value copper w h (λ i j. chamfer_distance a b (gap x i) (gap y j)) l

  -- without copper the pixel is unlabelled
  pub value_none : ((i j : ℕ) → Copper copper w h i j → ⊥) → value a b copper w h x y ≡ no_value
  value_none none = omega (arith, value-top a b copper w h x y, value_over a b copper w h x y no_value (omega arith) (λ i j c. absurd (none i j c)))

  -- with copper it is labelled
  pub value-some : Weights a b → x < w → y < h → w ≤ max_side → h ≤ max_side → (i j : ℕ) → Copper copper w h i j → value a b copper w h x y ≤ 65504
  value-some ok across down wide tall i j c =
      omega (
        arith,
        value-under a b copper w h x y i j c,
        distance_small a b ok (gap x i) (gap y j) (omega (arith, gap_below x i w across c.across)) (omega (arith, gap_below y j h down c.down)),
      )

-- ---- the engines

three_engines : (P : ℕ → Type 0) (e : ℕ) → 4 ≤ e → e ≤ 6 → P 4 → P 5 → P 6 → P e
three_engines P e l m four five six = elim (ℕ_discrete e 4) [
  | yes q ↦ subst P (sym q) four
  | no q ↦ elim (ℕ_discrete e 5) [
    | yes r ↦ subst P (sym r) five
    | no r ↦ let s : e ≡ 6 = omega arith in subst P (sym s) six
  ]
]

abbrev dist : (engine u v : ℕ) → ℕ
dist e u v = chamfer_distance (side_weight e) (corner_weight e) u v

-- what holds of the sum of squares and the distance of the offsets m + k and m holds of any two
by_offsets : (P : (square d : ℕ) → Type 0) (a b u v : ℕ) → ((m k : ℕ) → P ((m + k) * (m + k) + m * m) (a * k + b * m)) → P (u * u + v * v) (chamfer_distance a b u v)
by_offsets P a b u v holds = elim (dec_le v u) [
  | yes l ↦
      let e : v + (u - v) ≡ u = omega arith in
      rw (wide a b u v l) (subst (λ (t : ℕ). P (t * t + v * v) (a * (u - v) + b * v)) e (holds v (u - v)))
  | no l ↦
      let e : u + (v - u) ≡ v = omega arith in
      let f : v * v + u * u ≡ u * u + v * v = omega arith in
      rw (turned a b u v, wide a b v u (omega arith), ← f) (subst (λ (t : ℕ). P (t * t + u * u) (a * (v - u) + b * u)) e (holds u (v - u)))
]

-- with M the larger and m the smaller offset: (M + m)² ≤ 2(M² + m²), M² ≤ M² + m², (3M + m)² ≤ 10(M² + m²), since what is missing in the last is (M − 3m)²
distance_safe : (e : ℕ) → 4 ≤ e → e ≤ 6 → (u v : ℕ) → (gate e).den * (dist e u v * dist e u v) ≤ (gate e).num * (u * u + v * v)
unfolding weights
distance_safe e l m u v =
    three_engines (λ k. (gate k).den * (dist k u v * dist k u v) ≤ (gate k).num * (u * u + v * v)) e l m
    (by_offsets (λ s d. 1 * (d * d) ≤ 2 * s) 1 2 u v (λ m k. omega arith))
    (by_offsets (λ s d. 1 * (d * d) ≤ 1 * s) 1 1 u v (λ m k. omega arith))
    (by_offsets (λ s d. 1 * (d * d) ≤ 10 * s) 3 4 u v (λ m k. omega (arith, gap-square (2 * m) k)))

-- M² + m² ≤ (M + m)², M² + m² ≤ 2M², 8(M² + m²) ≤ (3M + m)²
distance_fair : (e : ℕ) → 4 ≤ e → e ≤ 6 → (u v q : ℕ) → (gate e).den * (dist e u v * dist e u v) ≤ (gate e).num * q → (fair_fraction e).den * (u * u + v * v) ≤ (fair_fraction e).num * q
unfolding weights
distance_fair e l m u v q =
    three_engines (λ k. (gate k).den * (dist k u v * dist k u v) ≤ (gate k).num * q → (fair_fraction k).den * (u * u + v * v) ≤ (fair_fraction k).num * q) e l m
    (by_offsets (λ s d. 1 * (d * d) ≤ 2 * q → 1 * s ≤ 2 * q) 1 2 u v (λ m k h. omega arith))
    (by_offsets (λ s d. 1 * (d * d) ≤ 1 * q → 1 * s ≤ 2 * q) 1 1 u v (λ m k h. omega arith))
    (by_offsets (λ s d. 1 * (d * d) ≤ 10 * q → 4 * s ≤ 5 * q) 3 4 u v (λ m k h. omega arith))

module _ (copper : Mask) (w h e : ℕ) (first : 4 ≤ e) (last : e ≤ 6) where
  -- the engine's map
  abbrev pub map : List ℕ
  map = chamfer_map (side_weight e) (corner_weight e) copper w h

  module _ (x y : ℕ) (across : x < w) (down : y < h) where
    -- the value at the pixel
    abbrev pub c : ℕ
    c = get_or map (index w x y) 0

    is_value : c ≡ value (side_weight e) (corner_weight e) copper w h x y
    unfolding chamfer_map
    is_value = pixels-at w h _ x y 0 across down

    pub without-copper : ((i j : ℕ) → Copper copper w h i j → ⊥) → c ≡ no_value
    without-copper none = is_value ∙ value_none _ _ copper w h x y none

    pub with_copper : w ≤ max_side → h ≤ max_side → (i j : ℕ) → Copper copper w h i j → no_value_at map (index w x y) ≡ false
    with_copper wide tall i j k =
        let b = value-some (side_weight e) (corner_weight e) copper w h x y (allowed e last) across down wide tall i j k in
        ne_eqb c no_value (λ z. omega (arith, is_value))

    pub gate_safe : (q : ℕ) → passes (gate e) (square_at map (index w x y)) q ≡ true → Clear copper w h x y q
    unfolding apart
    gate_safe q p i j k =
        let under : c ≤ dist e (gap x i) (gap y j) = rw is_value (value-under (side_weight e) (corner_weight e) copper w h x y i j k) in
        let bound = le_trans (mul-le-mul_left (gate e).den (square_le under)) (distance_safe e first last (gap x i) (gap y j)) in
        passed-above (gate e) (c * c) q (apart x y i j) bound p

    pub gate_fair : (q : ℕ) → no_value_at map (index w x y) ≡ false → passes (gate e) (square_at map (index w x y)) q ≡ false → NearBy (fair_fraction e) copper w h x y q
    unfolding apart value
    gate_fair q labelled p =
        let l : c < no_value = omega (arith, eqb-false c no_value labelled, is_value, value-top (side_weight e) (corner_weight e) copper w h x y) in
        let g = labelled_giver _ _ copper w h x y (rw is_value at l) in
        record { column = g.column; row = g.row; copper = g.on_copper; within = distance_fair e first last (gap x g.column) (gap y g.row) q (rw (← g.is, ← is_value) (failed_within (gate e) (c * c) q p)) }
