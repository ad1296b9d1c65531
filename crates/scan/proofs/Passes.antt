-- What a scan does for a copper pixel (i, r a): when it has taken the rows r 0, r 1, .., every pixel of row r k, for k from a on, is within the cost of
-- its way to that pixel. Scan one has r k = k, scan two r k = h − 1 − k.
-- Assumes nothing.
use mathlib.Core.Path.{◌≡◌, ap, subst}
use mathlib.Core.Logic.{inl, inr}
use mathlib.Core.Bool.{Bool, cond}
use mathlib.Core.List.{List}
use Prim.Native.Nat.{ℕ, zero, suc, ◌+◌, ◌-◌, ◌≤◌, ◌<◌}
use native.Mathlib.Decide.{dec_lt}
use native.Mathlib.Omega.{arith}
use lib.Dec.{ltb}
use lib.IntN.{ℤ, pos, negsuc, ◌+ℤ◌}
use borrow.Author.Tests.{ltb-true, lt-ltb, le-ltb}
use Rattle.raster.specs.Limits.{max_side}
use Rattle.raster.specs.Loop.{ascend, descend}
use Rattle.raster.specs.LoopLaws.{reversed}
use Rattle.raster.specs.Pixels.{Mask, index}
use Rattle.raster.specs.Distance.{gap}
use Rattle.raster.specs.DistanceLaws.{gap-zero}
use Rattle.raster.specs.Vector.{UnitStep}
use Rattle.raster.specs.VectorLaws.{step_back}
use Rattle.candidate.specs.OnSheet.{OnCopper, Moment}
use Rattle.scan.specs.Scan.{rightward, leftward, from_row, up_row}
use Rattle.scan.proofs.Within.{Within, relaxed}
use Rattle.scan.proofs.Cost.{Way, here, straight, corner, side}
use Rattle.scan.proofs.Progress.{onward, either, loop_moment, grows}
use Rattle.scan.proofs.Sweeps.{Settled, rightward_moment, leftward_moment, row_within}
use Rattle.scan.proofs.Rows.{from_row_moment, from_row_settles}

-- an order of the rows, each at o from the next
pub record RowOrder (h : ℕ) (r : ℕ → ℕ) (o : ℤ) : Type 0 where
  pub on : (k : ℕ) → k < h → r k < h
  pub next : (k : ℕ) → k + 1 < h → pos (r (k + 1)) +ℤ o ≡ pos (r k)
  pub unit : UnitStep o

pub downwards : (h : ℕ) → RowOrder h (λ k. k) (negsuc 0)
downwards h = record { on = λ k l. l; next = λ k l. step_back k; unit = omega arith }

pub upwards : (h : ℕ) → RowOrder h (λ k. h - 1 - k) (pos 1)
upwards h = record { on = λ k l. omega arith; next = λ k l. ap pos (omega arith); unit = omega arith }

module _ (w h : ℕ) (corners : Bool) where
  module _ (r : ℕ → ℕ) (o : ℤ) (order : RowOrder h r o) where
    -- row r k from the row before it, if there is one; then both sweeps
    abbrev entered : ℕ → List ℤ → List ℤ
    entered k m = cond (ltb 0 k) (from_row w corners (r k) (r (k - 1)) o m) m

    abbrev pub row_at : ℕ → List ℤ → List ℤ
    row_at k m = leftward w (r k) (rightward w (r k) (entered k m))

    before : (k : ℕ) → 0 < k → k < h → pos (r k) +ℤ o ≡ pos (r (k - 1))
    before k some on = let e : k - 1 + 1 ≡ k = omega arith in subst (λ (t : ℕ). pos (r t) +ℤ o ≡ pos (r (k - 1))) e (order.next (k - 1) (omega arith))

    module _ (k : ℕ) (on : k < h) (m : List ℤ) where
      entered_moment : Moment w h m (entered k m)
      entered_moment =
          either (ltb 0 k) _
          (λ e. from_row_moment w h corners (r k) (r (k - 1)) (order.on k on) (order.on (k - 1) (omega arith)) o order.unit (before k (ltb-true 0 k e) on) m)

      row_moment : Moment w h m (row_at k m)
      row_moment =
          onward entered_moment (onward (rightward_moment w h (r k) (order.on k on) _) (leftward_moment w h (r k) (order.on k on) _))

    pub pass_moment : (n : ℕ) → n ≤ h → (m : List ℤ) → Moment w h m (ascend row_at n m)
    pass_moment n l m = loop_moment row_at n m (λ k q. row_moment k (omega arith))

    module _ (copper : Mask) (wide : w ≤ max_side) (i : ℕ) (mid : i < w) (a : ℕ) (K : ℕ → ℕ → ℕ) (ways : (u v : ℕ) → Way corners K u v) where
      -- every pixel of the rows from a up to n is within its cost
      abbrev Reached : ℕ → List ℤ → Type 0
      Reached n m = (k : ℕ) → a ≤ k → k < n → (x : ℕ) → x < w → Within m (index w x (r k)) (K (gap x i) (k - a))

      module _ (n : ℕ) (on : n < h) (m : List ℤ) (sound : OnCopper copper w h m) where
        abbrev Ready : Type 0
        Ready = (x : ℕ) → x < w → Settled w (r n) i (λ u. K u (n - a)) (entered n m) x

        -- the copper pixel's own row
        first : n ≡ a → Within m (index w i (r a)) 0 → Ready
        first e begin x across = go (ways (gap x i) (n - a))
          where
            go : Way corners K (gap x i) (n - a) → Settled w (r n) i (λ u. K u (n - a)) (entered n m) x
            go (here f g) =
                let z = gap-zero x i f in
                inl (relaxed (omega arith) ((grows copper w h wide sound (entered_moment n on m)).keeps _ 0 (rw (z, e) begin)))
            go (straight v e' p) = absurd (omega arith)
            go (corner u v c e' f p) = absurd (omega arith)
            go (side u f p) = inr (record { nearer = u; one = f; pays = p })

        -- a later row
        later : a < n → Reached n m → Ready
        later l reached x across =
            let some : 0 < n = omega arith in
            let e : n - 1 - a + 1 ≡ n - a = omega arith in
            rw (lt-ltb 0 n some)
            (subst (λ (v : ℕ). Settled w (r n) i (λ u. K u v) (from_row w corners (r n) (r (n - 1)) o m) x) e
            (from_row_settles w h corners (r n) (r (n - 1)) (order.on n on) (order.on (n - 1) (omega arith)) o order.unit (before n some on) copper wide
            i mid K (n - 1 - a) (λ u. ways u (n - 1 - a + 1)) m sound (reached (n - 1) (omega arith) (omega arith)) x across))

        one_row : a ≤ n → Within m (index w i (r a)) 0 → Reached n m → (x : ℕ) → x < w → Within (row_at n m) (index w x (r n)) (K (gap x i) (n - a))
        one_row l begin reached =
            row_within w h (r n) (order.on n on) copper wide i mid (λ u. K u (n - a)) (entered n m) (grows copper w h wide sound (entered_moment n on m)).sound
            (elim (dec_lt a n) [ yes q ↦ later q reached | no q ↦ first (omega arith) begin ])

      pub pass_within : (m : List ℤ) → OnCopper copper w h m → Within m (index w i (r a)) 0 → (n : ℕ) → n ≤ h → Reached n (ascend row_at n m)
      unfolding ascend
      pass_within m sound begin zero l k p q x on = absurd (omega arith)
      pass_within m sound begin (suc n) l k p q x on =
          let g = grows copper w h wide sound (pass_moment n (omega arith) m) in
          let ih = pass_within m sound begin n (omega arith) in
          elim (dec_lt k n) [
            | yes s ↦ (grows copper w h wide g.sound (row_moment n (omega arith) _)).keeps _ _ (ih k p s x on)
            | no s ↦ let e : n ≡ k = omega arith in
                subst (λ (j : ℕ). Within (row_at n (ascend row_at n m)) (index w x (r j)) (K (gap x i) (j - a))) e
                (one_row n (omega arith) _ g.sound (omega arith) (g.keeps _ _ begin) ih x on)
          ]

  -- scan two takes the rows upwards
  pub scan_two : (m : List ℤ) → descend (up_row w corners h) h m ≡ ascend (row_at (λ k. h - 1 - k) (pos 1) (upwards h)) h m
  scan_two m = reversed h (up_row w corners h) (row_at (λ k. h - 1 - k) (pos 1) (upwards h)) m same
    where
      same : (k : ℕ) → k < h → (t : List ℤ) → row_at (λ j. h - 1 - j) (pos 1) (upwards h) k t ≡ up_row w corners h (h - 1 - k) t
      same zero l t = rw (le-ltb (h - 1 - 0 + 1) h (omega arith))
      same (suc k) l t =
          let e : h - 1 - suc k + 1 ≡ h - 1 - (suc k - 1) = omega arith in
          rw (lt-ltb 0 (suc k) (omega arith), lt-ltb (h - 1 - suc k + 1) h (omega arith), e)
