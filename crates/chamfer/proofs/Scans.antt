-- One row of each scan, from the row before to the end of its sweep. A value is never too small, since one step changes it by at most its weight. It is not
-- too large for copper either: scan one brings what copper gives that lies in the rows above up to the diagonal, or in the row to the left; scan two brings
-- the rest.
-- Assumes nothing.
use mathlib.Core.Path.{◌≡◌, refl, sym, subst, ◌∙◌}
use mathlib.Core.Bool.{Bool, true, false, not, cond, false≢true}
use mathlib.Core.List.{List}
use Prim.Native.Nat.{ℕ, zero, suc, ◌+◌, ◌-◌, ◌≤◌, ◌<◌, min}
use native.Mathlib.Decide.{dec_le, dec_lt}
use native.Mathlib.Numerals.{add-one}
use native.Mathlib.Omega.{arith}
use lib.Dec.{eqb}
use lib.ListN.{get_or}
use Rattle.raster.specs.Distance.{gap, Copper}
use Rattle.raster.specs.DistanceLaws.{gap_up, gap-swap, gap-self, gap-left, gap-right}
use Rattle.raster.specs.Pixels.{Mask}
use Rattle.chamfer.specs.Chamfer.{Weights, chamfer_distance, no_value, value}
use Rattle.chamfer.specs.ChamferLaws.{side-more, distance_none, value-top, value-under, value_over, value-side, value-corner}
use Rattle.chamfer.specs.Rows.{from_three, or_copper, carried, Half}
use Rattle.chamfer.proofs.Before.{Padded, three_over, three-under}

-- ---- a sweep

module _ (a : ℕ) (c : ℕ → ℕ) where
  pub carried-own : (t : ℕ) → carried a c (t + 1) ≤ c t
  unfolding carried
  carried-own t = rw add-one (omega arith)

  pub carried_on : (t : ℕ) → carried a c (t + 1) ≤ carried a c t + a
  unfolding carried
  carried_on t = rw add-one (omega arith)

  -- numbers that change by at most a from place to place, and that none of c is below
  pub carried_over : (n : ℕ) (d : ℕ → ℕ) → ((t : ℕ) → d t ≤ no_value) → ((t : ℕ) → t < n → d t ≤ c t) → ((t : ℕ) → t + 1 < n → d (t + 1) ≤ d t + a)
      → (t : ℕ) → t < n → d t ≤ carried a c (t + 1)
  unfolding carried
  carried_over n d top own near zero l = omega (arith, top 0, own 0 l)
  carried_over n d top own near (suc t) l =
      let e : suc t + 1 ≡ suc (t + 1) = omega arith in
      let f : suc t ≡ t + 1 = omega arith in
      rw (e, f) (omega (arith, own (t + 1) (omega arith), near t (omega arith), carried_over n d top own near t (omega arith)))

-- ---- one row

-- above the first row is nothing, above row y the one that scan one made before it
abbrev pub Above : (a b : ℕ) (copper : Mask) (w h y : ℕ) → (z v : ℕ) → Type 0
Above a b copper w h y z v = (y ≡ 0 → v ≡ no_value) × (0 < y → Half a b copper w h z (y - 1) v)

-- below the last row is nothing, and any other row y has its values
abbrev pub Below : (a b : ℕ) (copper : Mask) (w h y : ℕ) → (z v : ℕ) → Type 0
Below a b copper w h y z v = (y ≡ h → v ≡ no_value) × (y < h → v ≡ value a b copper w h z y)

module _ (a b : ℕ) (ok : Weights a b) (copper : Mask) (w h y : ℕ) where
  abbrev val : (x y : ℕ) → ℕ
  val = value a b copper w h

  abbrev dist : (x y i j : ℕ) → ℕ
  dist x y i j = chamfer_distance a b (gap x i) (gap y j)

  -- ---- scan one

  module _ {row : List ℕ} (pad : Padded w (Above a b copper w h y) row) (down : y < h) where
    module _ (x : ℕ) (on : x < w) where
      above_over : val x y ≤ from_three a b row x
      unfolding gap
      above_over =
          three_over a b w pad x on (val x y) (value-top a b copper w h x y)
          (go a x on (λ f. value-side a b copper w h ok x y x (y - 1) (omega arith) (omega arith) (omega arith)))
          (λ z l n. go b z l (λ f. value-corner a b copper w h ok x y z (y - 1) n (omega arith)))
        where
          go : (s z : ℕ) → z < w → (0 < y → val x y ≤ val z (y - 1) + s) → val x y ≤ get_or row (1 + z) 0 + s
          go s z l step = elim (dec_lt 0 y) [
            | yes f ↦ omega (arith, ((pad.inner z l).1 f).over, step f)
            | no f ↦ omega (arith, (pad.inner z l).0 (omega arith), value-top a b copper w h x y)
          ]

      above-under : (i j : ℕ) → Copper copper w h i j → j < y → i + j ≤ x + y → from_three a b row x ≤ dist x y i j
      above-under i j k l cone =
          let e : y - 1 + 1 ≡ y = omega arith in
          let g = subst (λ (t : ℕ). gap t j ≡ gap (y - 1) j + 1) e (gap-right (y - 1) j (omega arith)) in
          rw g (three-under a b w pad x on i (gap (y - 1) j) k.across
          (λ z m far. ((pad.inner z m).1 (omega arith)).under i j k (omega arith) (elim (dec_lt z i) [ yes q ↦ omega (arith, far q) | no q ↦ omega arith ])))

    module _ (byte c : ℕ → ℕ) (seen : (x : ℕ) → x < w → copper x y ≡ not (eqb (byte x) 0)) (made : (x : ℕ) → x < w → c x ≡ or_copper (byte x) (from_three a b row x)) where
      own_over : (x : ℕ) → x < w → val x y ≤ c x
      own_over x on = rw (made x on) (go (eqb (byte x) 0) (seen x on))
        where
          go : (t : Bool) → copper x y ≡ not t → val x y ≤ cond t (from_three a b row x) 0
          go true e = above_over x on
          go false e =
              let u = value-under a b copper w h x y x y (record { across = on; down = down; is_copper = e }) in
              omega (arith, rw (gap-self x, gap-self y, distance_none a b) at u)

      own-under : (x i j : ℕ) → x < w → Copper copper w h i j → j < y → i + j ≤ x + y → c x ≤ dist x y i j
      own-under x i j on k l cone = rw (made x on) (go (eqb (byte x) 0))
        where
          go : (t : Bool) → cond t (from_three a b row x) 0 ≤ dist x y i j
          go true = above-under x on i j k l cone
          go false = omega arith

      own-copper : (x : ℕ) → x < w → copper x y ≡ true → c x ≡ 0
      own-copper x on e = rw (made x on) (go (eqb (byte x) 0) (sym (seen x on) ∙ e))
        where
          go : (t : Bool) → not t ≡ true → cond t (from_three a b row x) 0 ≡ 0
          go true f = absurd (false≢true f)
          go false f = refl

      -- copper of the row, to the left or here
      row_under : (x i : ℕ) → x < w → i ≤ x → Copper copper w h i y → carried a c (x + 1) ≤ dist x y i y
      row_under zero i on l k =
          let e : i ≡ 0 = omega arith in
          omega (arith, carried-own a c 0, own-copper 0 on (subst (λ (t : ℕ). copper t y ≡ true) e k.is_copper))
      row_under (suc t) i on l k = elim (dec_le i t) [
        | yes q ↦
            let e : suc t ≡ t + 1 = omega arith in
            rw (e, gap-right t i q) (omega (arith, carried_on a c (t + 1), row_under t i (omega arith) q k, side-more a b (gap t i) (gap y y) (omega (arith, gap-self y))))
        | no q ↦
            let e : i ≡ suc t = omega arith in
            omega (arith, carried-own a c (suc t), own-copper (suc t) on (subst (λ (z : ℕ). copper z y ≡ true) e k.is_copper))
      ]

      pub down_row_lem : (x : ℕ) → x < w → Half a b copper w h x y (carried a c (x + 1))
      unfolding gap
      down_row_lem x on = record {
        over = carried_over a c w (λ t. val t y) (λ t. value-top a b copper w h t y) own_over
            (λ t l. value-side a b copper w h ok (t + 1) y t y (omega arith) (omega arith) (omega arith)) x on;
        under = λ i j k l cone. elim (dec_lt j y) [
          | yes q ↦ omega (arith, carried-own a c x, own-under x i j on k q cone)
          | no q ↦ let e : j ≡ y = omega arith in rw e (row_under x i on (omega arith) (subst (λ (t : ℕ). Copper copper w h i t) e k))
        ];
      }

  -- ---- scan two

  module _ {row : List ℕ} (pad : Padded w (Below a b copper w h (y + 1)) row) (down : y < h) where
    module _ (x : ℕ) (on : x < w) where
      below_over : val x y ≤ from_three a b row x
      unfolding gap
      below_over =
          three_over a b w pad x on (val x y) (value-top a b copper w h x y)
          (go a x on (value-side a b copper w h ok x y x (y + 1) (omega arith) (omega arith) (omega arith)))
          (λ z l n. go b z l (value-corner a b copper w h ok x y z (y + 1) n (omega arith)))
        where
          go : (s z : ℕ) → z < w → val x y ≤ val z (y + 1) + s → val x y ≤ get_or row (1 + z) 0 + s
          go s z l step = elim (dec_lt (y + 1) h) [
            | yes f ↦ omega (arith, (pad.inner z l).1 f)
            | no f ↦ omega (arith, (pad.inner z l).0 (omega arith), value-top a b copper w h x y)
          ]

      below-under : (i j : ℕ) → Copper copper w h i j → y < j → from_three a b row x ≤ dist x y i j
      below-under i j k l =
          rw (gap-left y j l) (three-under a b w pad x on i (gap (y + 1) j) k.across
          (λ z m far. omega (arith, (pad.inner z m).1 (omega (arith, k.down)), value-under a b copper w h z (y + 1) i j k)))

    module _ (own c : ℕ → ℕ) (half : (x : ℕ) → x < w → Half a b copper w h x y (own x)) (made : (x : ℕ) → x < w → c x ≡ min (own x) (from_three a b row x)) where
      taken_over : (x : ℕ) → x < w → val x y ≤ c x
      taken_over x on = rw (made x on) (omega (arith, (half x on).over, below_over x on))

      taken_under : (x i j : ℕ) → x < w → Copper copper w h i j → (j ≤ y → i + j ≤ x + y) → c x ≤ dist x y i j
      taken_under x i j on k near = rw (made x on) (elim (dec_le j y) [
        | yes q ↦ omega (arith, (half x on).under i j k q (near q))
        | no q ↦ omega (arith, below-under x on i j k (omega arith))
      ])

      -- the sweep comes to pixel x = w − 1 − t as the t-th
      abbrev turn : ℕ → ℕ
      turn t = w - 1 - t

      abbrev back : ℕ → ℕ
      back = carried a (λ t. c (turn t))

      back-own : (t i j : ℕ) → t < w → Copper copper w h i j → (j ≤ y → i + j ≤ turn t + y) → back (t + 1) ≤ dist (turn t) y i j
      back-own t i j l k near = omega (arith, carried-own a (λ s. c (turn s)) t, taken_under (turn t) i j (omega arith) k near)

      -- copper to the right, beyond the diagonal: from the right neighbour
      back_on : (t i j : ℕ) → t + 1 < w → j ≤ y → turn (t + 1) + y < i + j → back (t + 1) ≤ dist (turn t) y i j → back (t + 1 + 1) ≤ dist (turn (t + 1)) y i j
      back_on t i j l m q before =
          let e : turn (t + 1) + 1 ≡ turn t = omega arith in
          let g = subst (λ (z : ℕ). gap (turn (t + 1)) i ≡ gap z i + 1) e (gap-left (turn (t + 1)) i (omega arith)) in
          let steep : gap y j ≤ gap (turn t) i = omega (arith, gap_up (turn t) i (omega arith), gap_up j y m, gap-swap y j) in
          rw g (omega (arith, carried_on a (λ s. c (turn s)) (t + 1), side-more a b (gap (turn t) i) (gap y j) steep))

      back-under : (t i j : ℕ) → t < w → Copper copper w h i j → back (t + 1) ≤ dist (turn t) y i j
      back-under zero i j l k = back-own 0 i j l k (λ m. omega (arith, k.across))
      back-under (suc t) i j l k = let e : suc t ≡ t + 1 = omega arith in rw e (elim (dec_le (i + j) (turn (t + 1) + y)) [
        | yes q ↦ back-own (t + 1) i j (omega arith) k (λ m. q)
        | no q ↦ elim (dec_le j y) [
          | yes m ↦ back_on t i j (omega arith) m (omega arith) (back-under t i j (omega arith) k)
          | no m ↦ back-own (t + 1) i j (omega arith) k (λ n. absurd (m n))
        ]
      ])

      back_over : (t : ℕ) → t < w → val (turn t) y ≤ back (t + 1)
      unfolding gap
      back_over =
          carried_over a (λ t. c (turn t)) w (λ t. val (turn t) y) (λ t. value-top a b copper w h (turn t) y) (λ t l. taken_over (turn t) (omega arith))
          (λ t l. value-side a b copper w h ok (turn (t + 1)) y (turn t) y (omega arith) (omega arith) (omega arith))

      pub up_row_lem : (x : ℕ) → x < w → back (w - x) ≡ val x y
      up_row_lem x on =
          let e : turn (turn x) ≡ x = omega arith in
          let f : turn x + 1 ≡ w - x = omega arith in
          let over = subst (λ (z : ℕ). val z y ≤ back (turn x + 1)) e (back_over (turn x) (omega arith)) in
          let top : back (turn x + 1) ≤ no_value = omega (arith, carried-own a (λ t. c (turn t)) (turn x), made (turn (turn x)) (omega arith)) in
          let under = value_over a b copper w h x y (back (turn x + 1)) top (λ i j k. subst (λ (z : ℕ). back (turn x + 1) ≤ dist z y i j) e (back-under (turn x) i j (omega arith) k)) in
          rw (← f) (omega arith)
