-- What the step from row to row does: if the row before is within its costs, then each pixel of the row whose way ends by a step from there is within
-- its own, and for any other the side step towards column i is paid for.
-- Assumes nothing.
use mathlib.Core.Path.{◌≡◌, refl, ap, subst}
use mathlib.Core.Logic.{inl, inr, ⊎_elim}
use Rattle.std.specs.Prelude.{Option, None, Some, IfSome}
use mathlib.Core.Bool.{Bool, true, false, cond, ◌&&◌}
use mathlib.Core.List.{List}
use Prim.Native.Nat.{ℕ, zero, suc, ◌+◌, ◌-◌, ◌≤◌, ◌<◌}
use native.Mathlib.Decide.{dec_lt}
use native.Mathlib.Omega.{arith}
use lib.Dec.{ltb}
use lib.IntN.{ℤ, pos, negsuc, ◌+ℤ◌}
use borrow.Author.Tests.{ltb-true, lt-ltb}
use Rattle.raster.specs.Limits.{max_side}
use Rattle.raster.specs.Loop.{ascend}
use Rattle.raster.specs.Pixels.{Mask, index}
use Rattle.raster.specs.Distance.{gap}
use Rattle.raster.specs.DistanceLaws.{gap-self, gap-left, gap-right}
use Rattle.raster.specs.Vector.{UnitStep}
use Rattle.raster.specs.VectorLaws.{step_back, step-none}
use Rattle.raster.specs.Map.{unlabelled_at}
use Rattle.raster.specs.Tests.{and_right}
use Rattle.candidate.specs.Candidate.{relax}
use Rattle.candidate.specs.OnSheet.{OnCopper, Hop, Moment, start}
use Rattle.scan.specs.Scan.{rightward, leftward, from_left, from_right, from_three, from_row}
use Rattle.scan.specs.Rows.{RowOf, Beside, Level, entered}
use Rattle.scan.proofs.Within.{Within, relaxed}
use Rattle.scan.proofs.Cost.{Way, here, straight, corner, side}
use Rattle.scan.proofs.Progress.{onward, next, either, loop_moment, Grows, grows, relax_side, relax_corner}
use Rattle.scan.proofs.Sweeps.{Settled}
use Rattle.scan.proofs.OnRow.{on_y, on_b}

-- one place back
pub one-back : (k : ℕ) → 0 < k → pos k +ℤ negsuc 0 ≡ pos (k - 1)
one-back k some = let e : k - 1 + 1 ≡ k = omega arith in subst (λ (z : ℕ). pos z +ℤ negsuc 0 ≡ pos (k - 1)) e (step_back (k - 1))

-- a row without a label gives nothing
module _ (w : ℕ) (corners : Bool) (y b : ℕ) (o : ℤ) (m : List ℤ) (bare : (x : ℕ) → x < w → unlabelled_at m (index w x b) ≡ true) where
  passed_over : (t : Bool) (at z : ℕ) (ox : ℤ) → (t ≡ true → z < w) → cond t (relax at (index w z b) ox o m) m ≡ m
  passed_over true at z ox l = rw (bare z (l refl))
  passed_over false at z ox l = refl

  some-nothing : (n : ℕ) → n ≤ w → ascend (from_three w corners y b o) n m ≡ m
  unfolding ascend from_three
  some-nothing zero l = refl
  some-nothing (suc n) l =
      rw (some-nothing n (omega arith), passed_over (corners && ltb 0 n) (index w n y) (n - 1) (negsuc 0) (λ e. omega arith), bare n l)
      (passed_over (corners && ltb (n + 1) w) (index w n y) (n + 1) (pos 1) (λ e. ltb-true (n + 1) w (and_right corners _ e)))

  pub from_row-nothing : from_row w corners y b o m ≡ m
  unfolding from_row
  from_row-nothing = some-nothing w (omega arith)

module _ (w h : ℕ) (corners : Bool) (y b : ℕ) (down : y < h) (down' : b < h) (o : ℤ) (unit : UnitStep o) (beside : pos y +ℤ o ≡ pos b) where
  -- ---- the three neighbours

  at_left : (x : ℕ) → 0 < x → x < w → Hop w h x y (x - 1) b (negsuc 0) o
  at_left x some on = record { across = on; down = down; across' = omega arith; down' = down'; step = record { column = one-back x some; row = beside } }

  at-middle : (x : ℕ) → x < w → Hop w h x y x b (pos 0) o
  at-middle x on = record { across = on; down = down; across' = on; down' = down'; step = record { column = step-none x; row = beside } }

  at_right : (x : ℕ) → x + 1 < w → Hop w h x y (x + 1) b (pos 1) o
  at_right x on = record { across = omega arith; down = down; across' = on; down' = down'; step = record { column = refl; row = beside } }

  module _ (x : ℕ) (on : x < w) (m : List ℤ) where
    left_moment : Moment w h m (from_left w corners y b o x m)
    left_moment = either (corners && ltb 0 x) _ (λ e. next (at_left x (ltb-true 0 x (and_right corners _ e)) on))

    middle_moment : Moment w h m (relax (index w x y) (index w x b) (pos 0) o m)
    middle_moment = next (at-middle x on)

    right_moment : Moment w h m (from_right w corners y b o x m)
    right_moment = either (corners && ltb (x + 1) w) _ (λ e. next (at_right x (ltb-true (x + 1) w (and_right corners _ e))))

  pub three_moment : (x : ℕ) → x < w → (m : List ℤ) → Moment w h m (from_three w corners y b o x m)
  unfolding from_three
  three_moment x on m = onward (left_moment x on m) (onward (middle_moment x on _) (right_moment x on _))

  pub from_row_moment : (m : List ℤ) → Moment w h m (from_row w corners y b o m)
  unfolding from_row
  from_row_moment m = loop_moment (from_three w corners y b o) w m three_moment

  -- ---- what a pixel has from the row before

  module _ (copper : Mask) (wide : w ≤ max_side) where
    module _ (x : ℕ) (on : x < w) (m : List ℤ) (sound : OnCopper copper w h m) where
      first : Grows copper w h wide m (from_left w corners y b o x m)
      first = grows copper w h wide sound (left_moment x on m)

      second : Grows copper w h wide (from_left w corners y b o x m) (relax (index w x y) (index w x b) (pos 0) o (from_left w corners y b o x m))
      second = grows copper w h wide first.sound (middle_moment x on _)

      third : Grows copper w h wide (relax (index w x y) (index w x b) (pos 0) o (from_left w corners y b o x m)) (from_three w corners y b o x m)
      unfolding from_three
      third = grows copper w h wide second.sound (right_moment x on _)

      -- from the pixel beside it
      pub by_middle : (L : ℕ) → Within m (index w x b) L → Within (from_three w corners y b o x m) (index w x y) (L + 12)
      by_middle L g =
          third.keeps _ _ (relax_side copper w h wide first.sound x y x b (pos 0) o (at-middle x on) L (omega arith) (first.keeps _ _ g))

      -- from the corners
      by_left : corners ≡ true → 0 < x → (L : ℕ) → Within m (index w (x - 1) b) L → Within (from_three w corners y b o x m) (index w x y) (L + 17)
      by_left c some L g =
          third.keeps _ _ (second.keeps _ _
          (simp (c, lt-ltb 0 x some) (relax_corner copper w h wide sound x y (x - 1) b (negsuc 0) o (at_left x some on) L (omega arith) unit g)))

      by_right : corners ≡ true → x + 1 < w → (L : ℕ) → Within m (index w (x + 1) b) L → Within (from_three w corners y b o x m) (index w x y) (L + 17)
      unfolding from_three
      by_right c some L g = last _ second.sound (second.keeps _ _ (first.keeps _ _ g))
        where
          last : (n : List ℤ) → OnCopper copper w h n → Within n (index w (x + 1) b) L → Within (from_right w corners y b o x n) (index w x y) (L + 17)
          last n fine i = simp (c, lt-ltb (x + 1) w some) (relax_corner copper w h wide fine x y (x + 1) b (pos 1) o (at_right x some) L (omega arith) unit i)

    -- ---- the row before is within K u v

    module _ (i : ℕ) (mid : i < w) (K : ℕ → ℕ → ℕ) (v : ℕ) (ways : (u : ℕ) → Way corners K u (v + 1)) where
      abbrev Before : List ℤ → Type 0
      Before m = (z : ℕ) → z < w → Within m (index w z b) (K (gap z i) v)

      abbrev Settles : List ℤ → ℕ → Type 0
      Settles = Settled w y i (λ u. K u (v + 1))

      module _ (x : ℕ) (on : x < w) (m : List ℤ) (sound : OnCopper copper w h m) (before : Before m) where
        -- from the corner towards column i
        by_corner : (u : ℕ) → corners ≡ true → gap x i ≡ u + 1 → K u v + 17 ≤ K (gap x i) (v + 1) → Dec (i < x) → Dec (x < i)
            → Within (from_three w corners y b o x m) (index w x y) (K (gap x i) (v + 1))
        by_corner u c e p (yes l) d =
            let z : x - 1 + 1 ≡ x = omega arith in
            let n : u ≡ gap (x - 1) i = omega (arith, ap (λ (t : ℕ). gap t i) z, gap-right (x - 1) i (omega arith)) in
            relaxed (rw n at p) (by_left x on m sound c (omega arith) (K (gap (x - 1) i) v) (before (x - 1) (omega arith)))
        by_corner u c e p (no q) (yes l) =
            let n : u ≡ gap (x + 1) i = omega (arith, gap-left x i l) in
            relaxed (rw n at p) (by_right x on m sound c (omega arith) (K (gap (x + 1) i) v) (before (x + 1) (omega arith)))
        by_corner u c e p (no q) (no l) = let z : x ≡ i = omega arith in absurd (omega (arith, e, gap-self i, ap (λ (t : ℕ). gap t i) z))

        three_settles : Way corners K (gap x i) (v + 1) → Settles (from_three w corners y b o x m) x
        three_settles (here e f) = absurd (omega arith)
        three_settles (straight v' e p) = let f : v' ≡ v = omega arith in inl (relaxed (rw f at p) (by_middle x on m sound (K (gap x i) v) (before x on)))
        three_settles (corner u v' c e f p) = let g : v' ≡ v = omega arith in inl (by_corner u c e (rw g at p) (dec_lt i x) (dec_lt x i))
        three_settles (side u e p) = inr (record { nearer = u; one = e; pays = p })

      some_settle : (n : ℕ) → n ≤ w → (m : List ℤ) → OnCopper copper w h m → Before m → (x : ℕ) → x < n → Settles (ascend (from_three w corners y b o) n m) x
      unfolding ascend
      some_settle zero l m sound before x q = absurd (omega arith)
      some_settle (suc n) l m sound before x q =
          let g = grows copper w h wide sound (loop_moment (from_three w corners y b o) n m (λ k j. three_moment k (omega arith))) in
          elim (dec_lt x n) [
            | yes p ↦ ⊎_elim (λ r. inl ((grows copper w h wide g.sound (three_moment n (omega arith) _)).keeps _ _ r)) inr (some_settle n (omega arith) m sound before x p)
            | no p ↦ let e : n ≡ x = omega arith in
                subst (Settles (from_three w corners y b o n (ascend (from_three w corners y b o) n m))) e
                (three_settles n (omega arith) _ g.sound (λ z a. g.keeps _ _ (before z a)) (ways (gap n i)))
          ]

      pub from_row_settles : (m : List ℤ) → OnCopper copper w h m → Before m → (x : ℕ) → x < w → Settles (from_row w corners y b o m) x
      unfolding from_row
      from_row_settles m sound before = some_settle w (omega arith) m sound before

-- ---- from the row before, if there is one

module _ (w : ℕ) (corners : Bool) (y : ℕ) (o : ℤ) (m : List ℤ) where
  pub entered_moment : (row : RowOf w y m) (before : Option ℕ) → IfSome before (λ b. Beside w y b o m × Level w b m) → Moment w row.sheet.height m (entered w corners y before o m)
  entered_moment row None r = start
  entered_moment row (Some b) r = from_row_moment w row.sheet.height corners y b (on_y row) (on_b row r.0) o r.0.unit r.0.step m

  -- the row before is b if a test holds
  pub swept_if : (t : Bool) (b : ℕ) {before : Option ℕ} {n : List ℤ} → before ≡ cond t (Some b) None → n ≡ leftward w y (rightward w y (entered w corners y before o m))
      → n ≡ leftward w y (rightward w y (cond t (from_row w corners y b o m) m))
  swept_if true b e written = rw e at written
  swept_if false b e written = rw e at written
