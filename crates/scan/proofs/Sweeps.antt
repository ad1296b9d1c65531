-- What the two sweeps of a row do. Each pixel of the row is within its cost already, or the pixel beside it towards column i is and the side step is
-- paid for; then after both sweeps each is: to the right of i by the sweep to the right, to its left by the other. Both go along a path of columns.
-- Assumes nothing.
use mathlib.Core.Path.{◌≡◌, refl, sym, ap, subst, ◌∙◌}
use mathlib.Core.Logic.{◌⊎◌, inl, inr, ⊎_elim}
use mathlib.Core.Bool.{true}
use mathlib.Core.List.{List}
use Prim.Native.Nat.{ℕ, zero, suc, ◌+◌, ◌-◌, ◌≤◌, ◌<◌}
use native.Mathlib.Decide.{dec_le}
use native.Mathlib.Omega.{arith}
use lib.IntN.{ℤ, pos, negsuc, nat_abs}
use Rattle.raster.specs.Limits.{max_side}
use Rattle.raster.specs.Loop.{ascend}
use Rattle.raster.specs.LoopLaws.{reversed}
use Rattle.raster.specs.Pixels.{Mask, index}
use Rattle.raster.specs.Distance.{gap}
use Rattle.raster.specs.DistanceLaws.{gap-self, gap-left, gap-right}
use Rattle.raster.specs.VectorLaws.{step_back, step-none}
use Rattle.raster.specs.Map.{unlabelled_at}
use Rattle.candidate.specs.Candidate.{relax}
use Rattle.candidate.specs.OnSheet.{OnCopper, Hop, Moment}
use Rattle.scan.specs.Scan.{rightward, leftward}
use Rattle.scan.proofs.Within.{Within, relaxed}
use Rattle.scan.proofs.Progress.{next, loop_moment, Grows, grows, relax_side}

-- on the way from the right to the left, past column i, the gap grows
mirrored : (w k i : ℕ) → w - 1 - i ≤ k → k < w - 1 → i < w → gap (w - 1 - (k + 1)) i ≡ gap (w - 1 - k) i + 1
mirrored w k i past on_row on =
    let e : w - 1 - (k + 1) + 1 ≡ w - 1 - k = omega arith in
    gap-left (w - 1 - (k + 1)) i (omega arith) ∙ ap (λ (z : ℕ). gap z i + 1) e

-- where a pixel that is u columns from column i may cost K u, the side step towards that column is paid for
pub record Paid (i : ℕ) (K : ℕ → ℕ) (x : ℕ) : Type 0 where
  pub nearer : ℕ
  pub one : gap x i ≡ nearer + 1
  pub pays : K nearer + 12 ≤ K (gap x i)

-- the pixel (x, y) is within its cost, or the side step is paid for
abbrev pub Settled : (w y i : ℕ) (K : ℕ → ℕ) → List ℤ → (x : ℕ) → Type 0
Settled w y i K m x = Within m (index w x y) (K (gap x i)) ⊎ Paid i K x

module _ (w y : ℕ) where
  -- a pixel from its left neighbour, and one from its right neighbour
  abbrev pub right_step : ℕ → List ℤ → List ℤ
  right_step x = relax (index w (x + 1) y) (index w x y) (negsuc 0) (pos 0)

  abbrev pub left_step : ℕ → List ℤ → List ℤ
  left_step x = relax (index w x y) (index w (x + 1) y) (pos 1) (pos 0)

module _ (w h y : ℕ) where
  -- ---- along a path of columns c 0, c 1, .., each from the one before

  module _ (c : ℕ → ℕ) (o : ℤ) (unit : nat_abs o ≤ 1) where
    abbrev step : ℕ → List ℤ → List ℤ
    step k = relax (index w (c (k + 1)) y) (index w (c k) y) o (pos 0)

    -- its first n steps lie on the sheet
    abbrev Path : ℕ → Type 0
    Path n = (k : ℕ) → k < n → Hop w h (c (k + 1)) y (c k) y o (pos 0)

    path_moment : (n : ℕ) (m : List ℤ) → Path n → Moment w h m (ascend step n m)
    path_moment n m path = loop_moment step n m (λ k l t. next (path k l))

    -- pixels without a label give nothing
    path_nothing : (n : ℕ) (m : List ℤ) → ((k : ℕ) → k < n → unlabelled_at m (index w (c k) y) ≡ true) → ascend step n m ≡ m
    unfolding ascend
    path_nothing zero m bare = refl
    path_nothing (suc n) m bare = ap (step n) (path_nothing n m (λ k l. bare k (omega arith))) ∙ rw (bare n (omega arith))

    module _ (copper : Mask) (wide : w ≤ max_side) (L : ℕ → ℕ) (m : List ℤ) (sound : OnCopper copper w h m) (a : ℕ) (begin : Within m (index w (c a) y) (L a)) where
      -- each later position is within L already, or one more side step is paid for
      abbrev Ready : ℕ → Type 0
      Ready n = (k : ℕ) → a ≤ k → k < n → Within m (index w (c (k + 1)) y) (L (k + 1)) ⊎ (L k + 12 ≤ L (k + 1))

      -- after n steps each position from a up to n is within L
      abbrev Done : ℕ → Type 0
      Done n = (k : ℕ) → a ≤ k → k ≤ n → Within (ascend step n m) (index w (c k) y) (L k)

      one_more : (n : ℕ) → Path (suc n) → Ready (suc n) → Done n → Done (suc n)
      unfolding ascend
      one_more n path ready done k l q =
          elim (dec_le k n) [
            | yes p ↦ grown.keeps _ _ (done k l p)
            | no p ↦ let e : n + 1 ≡ k = omega arith in subst (λ (j : ℕ). Within (step n (ascend step n m)) (index w (c j) y) (L j)) e (last (dec_le a n))
          ]
        where
          hop : Hop w h (c (n + 1)) y (c n) y o (pos 0)
          hop = path n (omega arith)

          so_far : Grows copper w h wide m (ascend step n m)
          so_far = grows copper w h wide sound (path_moment n m (λ i j. path i (omega arith)))

          grown : Grows copper w h wide (ascend step n m) (step n (ascend step n m))
          grown = grows copper w h wide so_far.sound (next hop)

          last : Dec (a ≤ n) → Within (step n (ascend step n m)) (index w (c (n + 1)) y) (L (n + 1))
          last (yes p) =
              ⊎_elim
              (λ r. grown.keeps _ _ (so_far.keeps _ _ r))
              (λ r. relaxed r (relax_side copper w h wide so_far.sound (c (n + 1)) y (c n) y o (pos 0) hop (L n) (omega arith) (done n p (omega arith))))
              (ready n p (omega arith))
          last (no p) =
              let e : a ≡ n + 1 = omega arith in
              grown.keeps _ _ (so_far.keeps _ _ (subst (λ (j : ℕ). Within m (index w (c j) y) (L j)) e begin))

      path_within : (n : ℕ) → Path n → Ready n → Done n
      unfolding ascend
      path_within zero path ready = λ k l q. let e : a ≡ k = omega arith in subst (λ (j : ℕ). Within m (index w (c j) y) (L j)) e begin
      path_within (suc n) path ready = one_more n path ready (path_within n (λ k l. path k (omega arith)) (λ k l q. ready k l (omega arith)))

  -- ---- the two sweeps

  leftward_path : (m : List ℤ) → leftward w y m ≡ ascend (step (λ k. w - 1 - k) (pos 1) (omega arith)) (w - 1) m
  unfolding leftward
  leftward_path m =
      reversed (w - 1) _ (step (λ k. w - 1 - k) (pos 1) (omega arith)) m
      (λ k l t. let e : w - 1 - (k + 1) ≡ w - 1 - 1 - k = omega arith in let f : w - 1 - k ≡ w - 1 - 1 - k + 1 = omega arith in rw (e, f))

  -- a row without a label gives nothing
  pub sweeps_nothing : (m : List ℤ) → ((x : ℕ) → x < w → unlabelled_at m (index w x y) ≡ true) → leftward w y (rightward w y m) ≡ m
  unfolding rightward
  sweeps_nothing m bare =
      ap (leftward w y) (path_nothing (λ k. k) (negsuc 0) (omega arith) (w - 1) m (λ k l. bare k (omega arith)))
      ∙ leftward_path m ∙ path_nothing (λ k. w - 1 - k) (pos 1) (omega arith) (w - 1) m (λ k l. bare (w - 1 - k) (omega arith))

  module _ (down : y < h) where
    pub to_right : (k : ℕ) → k < w - 1 → Hop w h (k + 1) y k y (negsuc 0) (pos 0)
    to_right k l = record { across = omega arith; down = down; across' = omega arith; down' = down; step = record { column = step_back k; row = step-none y } }

    pub to_left : (k : ℕ) → k + 1 < w → Hop w h k y (k + 1) y (pos 1) (pos 0)
    to_left k l = record { across = omega arith; down = down; across' = l; down' = down; step = record { column = refl; row = step-none y } }

    leftwards : Path (λ k. w - 1 - k) (pos 1) (omega arith) (w - 1)
    leftwards k l =
        let e : w - 1 - (k + 1) + 1 ≡ w - 1 - k = omega arith in
        subst (λ (z : ℕ). Hop w h (w - 1 - (k + 1)) y z y (pos 1) (pos 0)) e (to_left (w - 1 - (k + 1)) (omega arith))

    pub rightward_moment : (m : List ℤ) → Moment w h m (rightward w y m)
    unfolding rightward
    rightward_moment m = path_moment (λ k. k) (negsuc 0) (omega arith) (w - 1) m to_right

    pub leftward_moment : (m : List ℤ) → Moment w h m (leftward w y m)
    leftward_moment m = rw (leftward_path m) (path_moment (λ k. w - 1 - k) (pos 1) (omega arith) (w - 1) m leftwards)

    -- ---- a whole row, with the cost K u of a pixel that is u columns from column i

    module _ (copper : Mask) (wide : w ≤ max_side) (i : ℕ) (on : i < w) (K : ℕ → ℕ) where
      abbrev RowSettled : List ℤ → Type 0
      RowSettled m = (x : ℕ) → x < w → Settled w y i K m x

      -- a step that is paid for may be from column z
      towards : (x z : ℕ) → gap x i ≡ gap z i + 1 → Paid i K x → K (gap z i) + 12 ≤ K (gap x i)
      towards x z e p = let n : p.nearer ≡ gap z i = omega (arith, p.one) in omega (arith, p.pays, ap K n)

      first : (m : List ℤ) → RowSettled m → Within m (index w i y) (K (gap i i))
      first m settled = ⊎_elim (λ g. g) (λ p. absurd (omega (arith, p.one, gap-self i))) (settled i on)

      right-within : (m : List ℤ) → OnCopper copper w h m → RowSettled m → (x : ℕ) → i ≤ x → x < w → Within (rightward w y m) (index w x y) (K (gap x i))
      unfolding rightward
      right-within m sound settled x l a =
          path_within (λ k. k) (negsuc 0) (omega arith) copper wide (λ k. K (gap k i)) m sound i (first m settled) (w - 1) to_right
          (λ k p n. ⊎_elim inl (λ q. inr (towards (k + 1) k (gap-right k i p) q)) (settled (k + 1) (omega arith)))
          x l (omega arith)

      left-within : (m : List ℤ) → OnCopper copper w h m → RowSettled m → (x : ℕ) → x ≤ i → x < w → Within (leftward w y m) (index w x y) (K (gap x i))
      left-within m sound settled x l a =
          let e : w - 1 - (w - 1 - i) ≡ i = omega arith in
          let f : w - 1 - (w - 1 - x) ≡ x = omega arith in
          rw (leftward_path m)
          (subst (λ (z : ℕ). Within (ascend (step (λ k. w - 1 - k) (pos 1) (omega arith)) (w - 1) m) (index w z y) (K (gap z i))) f
          (path_within (λ k. w - 1 - k) (pos 1) (omega arith) copper wide (λ k. K (gap (w - 1 - k) i)) m sound (w - 1 - i)
          (subst (λ (z : ℕ). Within m (index w z y) (K (gap z i))) (sym e) (first m settled))
          (w - 1) leftwards
          (λ k p n. ⊎_elim inl (λ q. inr (towards (w - 1 - (k + 1)) (w - 1 - k) (mirrored w k i p n on) q)) (settled (w - 1 - (k + 1)) (omega arith)))
          (w - 1 - x) (omega arith) (omega arith)))

      pub row_within : (m : List ℤ) → OnCopper copper w h m → RowSettled m → (x : ℕ) → x < w → Within (leftward w y (rightward w y m)) (index w x y) (K (gap x i))
      row_within m sound settled x a =
          let r = grows copper w h wide sound (rightward_moment m) in
          elim (dec_le i x) [
            | yes l ↦ (grows copper w h wide r.sound (leftward_moment (rightward w y m))).keeps _ _ (right-within m sound settled x l a)
            | no n ↦ left-within (rightward w y m) r.sound (λ z b. ⊎_elim (λ g. inl (r.keeps _ _ g)) inr (settled z b)) x (omega arith) a
          ]
