-- A run is its single steps: the pixels that it tests are reached by one step of the table after another (`reached`), none longer than a diagonal
-- (`one-step`), and what the code tests for 33 is that one of these steps ends off the sheet (`leaves_sheet_lem`).
-- Assumes nothing.
use mathlib.Core.Path.{◌≡◌, refl, sym, ap, ◌∙◌}
use mathlib.Core.Bool.{Bool, true, false, not, ◌&&◌, ◌||◌, or-true, true≢false}
use Prim.Native.Nat.{ℕ, zero, suc, ◌+◌, ◌-◌, ◌*◌, ◌<◌, ◌≤◌}
use native.Mathlib.Decide.{dec_lt}
use native.Mathlib.Numerals.{add-one}
use native.Mathlib.Omega.{arith}
use lib.Dec.{ltb}
use lib.IntN.{ℤ, pos, negsuc, ◌+ℤ◌, nat_abs}
use borrow.Author.Tests.{ltb-false, leb-false, lt-ltb, le-ltb, le-leb, lt-leb}
use Rattle.raster.specs.Distance.{gap, apart}
use Rattle.raster.specs.DistanceLaws.{square_le}
use Rattle.raster.specs.Loop.{any_below}
use Rattle.raster.specs.LoopLaws.{any_false}
use Rattle.raster.specs.Place.{in_line, is_pixel}
use Rattle.raster.specs.Tests.{or_left, or_right}
use Rattle.cutter.specs.declared.Cutter.{Cutter}
use Rattle.cutter.specs.declared.direction.Direction.{Direction}
use Rattle.cutter.specs.Directions.{direction_number, steps, step_right, step_down, place_after, leaves_side, column_after, row_after, walk}
use Rattle.cutter.specs.Kinds.{Maps, has_pixels}
use Rattle.cutter.specs.Gates.{leaves_sheet, OnSheet}
use Rattle.cutter.proofs.Signs.{direction_known, run_stays, between}

-- no step of the table is longer than 1: tested once, carried to every entry
single : (d : ℕ) → d ≤ 7 → (nat_abs (step_right d) ≤ 1) × (nat_abs (step_down d) ≤ 1)
unfolding steps any_below
single d l =
    let e = any_false 8 (λ k. ltb 1 (nat_abs (step_right k)) || ltb 1 (nat_abs (step_down k))) d refl (omega arith) in
    (ltb-false 1 _ (or_left _ (ltb 1 (nat_abs (step_down d))) e), ltb-false 1 _ (or_right (ltb 1 (nat_abs (step_right d))) _ e))

-- ---- on a line

-- no step
start : (z : ℤ) (side t : ℕ) → t < side → (place_after z 0 t ≡ t) × (leaves_side z side 0 t ≡ false)
start (pos zero) side t l = (refl, refl)
start (pos (suc k)) side t l = (omega arith, lt-leb side (t + 0) (omega arith))
start (negsuc k) side t l = (omega arith, le-ltb t 0 (omega arith))

-- steps that do not leave it have not left it on the way
earlier : (z : ℤ) (side n t i : ℕ) → i ≤ n → leaves_side z side n t ≡ false → leaves_side z side i t ≡ false
earlier (pos zero) side n t i l e = refl
earlier (pos (suc k)) side n t i l e = lt-leb side (t + i) (omega (arith, leb-false side (t + n) e))
earlier (negsuc k) side n t i l e = le-ltb t i (omega (arith, ltb-false t n e))

-- the place of one step more: on the line unless the steps leave it
on : (z : ℤ) (side n t : ℕ) → nat_abs z ≤ 1 → t < side → leaves_side z side n t ≡ false → in_line side (pos (place_after z n t) +ℤ z) ≡ not (leaves_side z side (suc n) t)
on (pos zero) side n t k l e = lt-ltb (t + 0) side (omega arith)
on (pos (suc zero)) side n t k l e = elim (dec_lt (t + n + 1) side) [
  | yes h ↦ rw (lt-ltb (t + n + 1) side h, lt-leb side (t + suc n) (omega arith))
  | no h ↦ rw (le-ltb (t + n + 1) side (omega arith), le-leb side (t + suc n) (omega arith))
]
on (pos (suc (suc m))) side n t k l e = absurd (omega arith)
on (negsuc zero) side n t k l e = elim (dec_lt n t) [
  | yes h ↦ rw (le-ltb (t - n) 1 (omega arith), le-ltb t (suc n) (omega arith)) (lt-ltb (t - n - 1) side (omega arith))
  | no h ↦ rw (lt-ltb (t - n) 1 (omega arith), lt-ltb t (suc n) (omega arith))
]
on (negsuc (suc m)) side n t k l e = absurd (omega arith)

-- and where it is then
next : (z : ℤ) (side n t : ℕ) → nat_abs z ≤ 1 → leaves_side z side (suc n) t ≡ false → pos (place_after z n t) +ℤ z ≡ pos (place_after z (suc n) t)
next (pos zero) side n t k e = ap pos (omega arith)
next (pos (suc zero)) side n t k e = ap pos (omega arith)
next (pos (suc (suc m))) side n t k e = absurd (omega arith)
next (negsuc zero) side n t k e = let l = ltb-false t (suc n) e in rw (le-ltb (t - n) 1 (omega arith)) (ap pos (omega arith))
next (negsuc (suc m)) side n t k e = absurd (omega arith)

-- one step leads at most one place off
beside : (z : ℤ) (t r : ℕ) → nat_abs z ≤ 1 → pos t +ℤ z ≡ pos r → gap t r ≤ 1
unfolding gap
beside (pos zero) t r k e = omega (arith, ap nat_abs e)
beside (pos (suc zero)) t r k e = omega (arith, ap nat_abs e)
beside (pos (suc (suc m))) t r k e = absurd (omega arith)
beside (negsuc zero) zero r k e = omega (arith, ap nat_abs e)
beside (negsuc zero) (suc t) r k e = omega (arith, ap nat_abs (rw (le-ltb (suc t) 1 (omega arith)) at e))
beside (negsuc (suc m)) t r k e = absurd (omega arith)

-- ---- on the sheet

-- a step from a pixel to a pixel is at most a diagonal one
pub one-step : (d : ℕ) → d ≤ 7 → (i : ℕ) (p : ℤ × ℤ) (x y u v : ℕ) → walk d i p ≡ (pos x, pos y) → walk d (i + 1) p ≡ (pos u, pos v) → apart x y u v ≤ 2
unfolding walk apart
one-step d known i p x y u v from to =
    let s = single d known in
    let e = rw (add-one i, from) at to in
    omega (
      arith,
      square_le (beside (step_right d) x u s.0 (ap (λ (t : ℤ × ℤ). t.0) e)),
      square_le (beside (step_down d) y v s.1 (ap (λ (t : ℤ × ℤ). t.1) e)),
    )

either : (a b : Bool) → a || b ≡ not (not a && not b) || false
either true b = refl
either false true = refl
either false false = refl

module _ (c : Cutter) (d : ℕ) (known : d ≤ 7) (across : c.x < c.width) (down : c.y < c.height) where
  abbrev right : ℕ → Bool
  right n = leaves_side (step_right d) c.width n c.x

  abbrev below : ℕ → Bool
  below n = leaves_side (step_down d) c.height n c.y

  both_earlier : (n i : ℕ) → i ≤ n → right n || below n ≡ false → (right i ≡ false) × (below i ≡ false)
  both_earlier n i l e = (
    earlier (step_right d) c.width n c.x i l (or_left _ (below n) e),
    earlier (step_down d) c.height n c.y i l (or_right (right n) _ e),
  )

  at-pixel : (n : ℕ) → right n || below n ≡ false → walk d n (pos c.x, pos c.y) ≡ (pos (column_after d n c.x), pos (row_after d n c.y))
  unfolding walk
  at-pixel zero e = rw ((start (step_right d) c.width c.x across).0, (start (step_down d) c.height c.y down).0)
  at-pixel (suc n) e =
      let o = both_earlier (suc n) n (omega arith) e in
      let k = both_earlier (suc n) (suc n) (omega arith) e in
      rw (
        at-pixel n (rw (o.0, o.1)),
        next (step_right d) c.width n c.x (single d known).0 k.0,
        next (step_down d) c.height n c.y (single d known).1 k.1,
      )

  -- what the code tests is that one of the steps ends at no pixel
  pub leaves_sheet_lem : (n : ℕ) → right n || below n ≡ leaves_sheet c d n
  unfolding leaves_sheet any_below walk
  leaves_sheet_lem zero = rw ((start (step_right d) c.width c.x across).1, (start (step_down d) c.height c.y down).1)
  leaves_sheet_lem (suc n) = rw (add-one n, ← leaves_sheet_lem n) (go (right n || below n) (right (suc n) || below (suc n)) refl refl)
    where
      strays_next : Bool
      strays_next = not (is_pixel c.width c.height (walk d (suc n) (pos c.x, pos c.y)))

      go : (t u : Bool) → right n || below n ≡ t → right (suc n) || below (suc n) ≡ u → u ≡ strays_next || t
      go true true e f = sym (or-true strays_next)
      go true false e f = let o = both_earlier (suc n) n (omega arith) f in absurd (true≢false (sym e ∙ rw (o.0, o.1)))
      go false u e f =
          let o = both_earlier n n (omega arith) e in
          rw (
            at-pixel n e,
            on (step_right d) c.width n c.x (single d known).0 across o.0,
            on (step_down d) c.height n c.y (single d known).1 down o.1,
          )
          (sym f ∙ either (right (suc n)) (below (suc n)))

  -- after i of the steps, a run that does not leave the sheet is at the pixel that it tests
  pub reached : (n : ℕ) → leaves_sheet c d n ≡ false → (i : ℕ) → i ≤ n → walk d i (pos c.x, pos c.y) ≡ (pos (column_after d i c.x), pos (row_after d i c.y))
  reached n e i l = let o = both_earlier n i l (leaves_sheet_lem n ∙ e) in at-pixel i (rw (o.0, o.1))

  -- such a run ends on the sheet
  pub on_sheet_lem : (n : ℕ) {m : Maps} → has_pixels c.engine (c.height * c.width) m ≡ true → leaves_sheet c d n ≡ false → OnSheet c m d n
  on_sheet_lem n held e =
      let o = both_earlier n n (omega arith) (leaves_sheet_lem n ∙ e) in
      record {
        known = known;
        start = record { held = held; across = across; down = down };
        end = record {
          held = held;
          across = run_stays (step_right d) c.width n c.x across o.0;
          down = run_stays (step_down d) c.height n c.y down o.1;
        };
      }

-- the same of a direction that is named
pub leaves_sheet_by : (c : Cutter) (d : Direction) (n : ℕ) → c.x < c.width → c.y < c.height
    → leaves_side (step_right (direction_number d)) c.width n c.x || leaves_side (step_down (direction_number d)) c.height n c.y ≡ leaves_sheet c (direction_number d) n
leaves_sheet_by c d n across down = leaves_sheet_lem c (direction_number d) (direction_known d) across down n

-- and so is what it says of its end
pub on_sheet_by : (c : Cutter) (d : Direction) (n : ℕ) (m : Maps) → c.x < c.width → c.y < c.height
    → has_pixels c.engine (c.height * c.width) m ≡ true → leaves_sheet c (direction_number d) n ≡ false → OnSheet c m (direction_number d) n
on_sheet_by c d n m across down held inside = on_sheet_lem c (direction_number d) (direction_known d) across down n held inside

-- and so does each step on the way
pub on_the_way : {c : Cutter} {m : Maps} {d n i : ℕ} → OnSheet c m d n → i ≤ n → OnSheet c m d i
on_the_way {c} {m} {d} {n} o l = record {
  known = o.known;
  start = o.start;
  end = record {
    held = o.start.held;
    across = between (step_right d) c.width n c.x o.start.across o.end.across l;
    down = between (step_down d) c.height n c.y o.start.down o.end.down l;
  };
}
