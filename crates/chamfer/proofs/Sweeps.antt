-- The sweeps along a row: what is handed on by one pixel more; a row that is written in the order of a sweep, by no pixel, one pixel more, and all of it; and a
-- row that is not steep.
-- Assumes nothing.
use mathlib.Core.Path.{◌≡◌, refl, sym, ap, subst, ◌∙◌}
use mathlib.Core.Bool.{Bool, true, false}
use mathlib.Core.Logic.{◌≢◌}
use mathlib.Core.List.{List}
use Prim.Native.Nat.{ℕ, zero, suc, ◌+◌, ◌-◌, ◌≤◌, ◌<◌, min}
use native.Mathlib.Decide.{ℕ_discrete}
use native.Mathlib.Numerals.{add-one}
use native.Mathlib.Omega.{arith}
use lib.ListN.{length, get_or, set, length-set}
use lib.Seq.{get_or-set_same, get_or-set_other}
use lib.Dec.{ltb}
use borrow.Author.Tests.{ltb-false}
use Rattle.raster.specs.LoopLaws.{any_false}
use Rattle.raster.specs.Rows.{RowWritten}
use Rattle.chamfer.specs.Chamfer.{no_value}
use Rattle.chamfer.specs.Rows.{candidate, turn, carried, swept, steep, Swept}

pub carried-next : (a : ℕ) (f : ℕ → ℕ) (t : ℕ) {own last v : ℕ} → own ≡ f t → last ≡ carried a f t → v ≡ min own (last + a) → v ≡ carried a f (t + 1)
unfolding carried
carried-next a f t o l e = rw (add-one, ← o, ← l) e

-- the first t pixels of a sweep over a row of w that starts at base are written, each by its place, and nothing else is changed
pub record Turned (right : Bool) (base w : ℕ) (f : ℕ → ℕ) (t : ℕ) (before after : List ℕ) : Type 0 where
  pub long : length after ≡ length before
  pub here : (k : ℕ) → k < t → get_or after (base + turn right w k) 0 ≡ f k
  pub rest : (k : ℕ) → t ≤ k → k < w → get_or after (base + turn right w k) 0 ≡ get_or before (base + turn right w k) 0
  pub low_kept : (p : ℕ) → p < base → get_or after p 0 ≡ get_or before p 0
  pub high_kept : (p : ℕ) → base + w ≤ p → get_or after p 0 ≡ get_or before p 0

-- a place is in the row, no other pixel has it, and its pixel's place is the first
turn_in : (right : Bool) (w t : ℕ) → t < w → turn right w t < w
turn_in true w t l = l
turn_in false w t l = omega arith

turn_once : (right : Bool) (w t k : ℕ) → t < w → k < w → turn right w k ≡ turn right w t → k ≡ t
turn_once true w t k l m e = e
turn_once false w t k l m e = omega arith

turn_back : (right : Bool) (w x : ℕ) → x < w → turn right w (turn right w x) ≡ x
turn_back true w x l = refl
turn_back false w x l = omega arith

module _ {right : Bool} {base w : ℕ} {f : ℕ → ℕ} {before : List ℕ} where
  pub turned_none : Turned right base w f 0 before before
  turned_none = record { long = refl; here = λ k l. absurd (omega arith); rest = λ k l m. refl; low_kept = λ p l. refl; high_kept = λ p l. refl }

  pub turned_more : {t x v : ℕ} {after : List ℕ} → Turned right base w f t before after → t < w → base + w ≤ length before → x ≡ turn right w t → v ≡ f t
      → Turned right base w f (t + 1) before (set after (base + x) v)
  turned_more {t} {x} {v} {after} r more room place e = record {
    long = length-set after (base + x) v ∙ r.long;
    here = λ k l. elim (ℕ_discrete k t) [
      | yes q ↦ rw (q, ← place) (get_or-set_same after (base + x) v 0 (omega (arith, r.long, inside)) ∙ e)
      | no q ↦ other (turn right w k) (λ s. q (turn_once right w t k more (omega arith) (s ∙ place))) ∙ r.here k (omega arith)
    ];
    rest = λ k l m. other (turn right w k) (λ s. absurd (omega (arith, turn_once right w t k more m (s ∙ place)))) ∙ r.rest k (omega arith) m;
    low_kept = λ p l. get_or-set_other after (base + x) p v 0 (omega arith) ∙ r.low_kept p l;
    high_kept = λ p l. get_or-set_other after (base + x) p v 0 (omega (arith, inside)) ∙ r.high_kept p l;
  }
    where
      inside : x < w
      inside = rw place (turn_in right w t more)

      other : (z : ℕ) → z ≢ x → get_or (set after (base + x) v) (base + z) 0 ≡ get_or after (base + z) 0
      other z n = get_or-set_other after (base + x) (base + z) v 0 (λ s. n (omega arith))

  pub turned_all : {t : ℕ} {g : ℕ → ℕ} {after : List ℕ} → Turned right base w f t before after → t ≡ w → ((x : ℕ) → x < w → f (turn right w x) ≡ g x)
      → RowWritten base w g before after
  turned_all r z same = record {
    long = r.long;
    here = λ x l. (rw (turn_back right w x l) at (r.here (turn right w x) (omega (arith, turn_in right w x l)))) ∙ same x l;
    low_kept = r.low_kept;
    high_kept = r.high_kept;
  }

-- ---- a row that is not steep

-- the sweep changes nothing
idle : (a : ℕ) (f : ℕ → ℕ) (n : ℕ) → f 0 ≤ no_value → ((t : ℕ) → t + 1 < n → f (t + 1) ≤ candidate (f t) a) → (t : ℕ) → t < n → carried a f (t + 1) ≡ f t
unfolding carried
idle a f n top near zero l = omega arith
idle a f n top near (suc t) l =
    let e : suc t + 1 ≡ suc (t + 1) = omega arith in
    let g : suc t ≡ t + 1 = omega arith in
    rw (e, g) (omega (arith, idle a f n top near t (omega arith), near t (omega arith)))

not-steep : (a : ℕ) (f g : ℕ → ℕ) (w : ℕ) → steep a f g w ≡ false → (x : ℕ) → x + 1 < w → g x ≤ candidate (f x) a
unfolding steep
not-steep a f g w e x l = ltb-false (candidate (f x) a) (g x) (any_false (w - 1) (λ z. ltb (candidate (f z) a) (g z)) x e (omega arith))

-- so a sweep that leaves the row as it is, and keeps it, is the sweep
kept-idle : {base w : ℕ} {f : ℕ → ℕ} {values row row' : List ℕ} → ((x : ℕ) → x < w → get_or values (base + x) 0 ≡ f x)
    → RowWritten 1 w (λ x. get_or values (base + x) 0) row row' → Swept base w f values row values row'
kept-idle same kept = record {
  written = record { long = refl; here = same; low_kept = λ p l. refl; high_kept = λ p l. refl };
  kept = record { long = kept.long; here = λ x l. kept.here x l ∙ same x l; low_kept = kept.low_kept; high_kept = kept.high_kept };
}

module _ (a base w : ℕ) (values : List ℕ) (small : (p : ℕ) → get_or values p 0 ≤ no_value) {row row' : List ℕ} (kept : RowWritten 1 w (λ x. get_or values (base + x) 0) row row') where
  abbrev at : ℕ → ℕ
  at x = get_or values (base + x) 0

  abbrev after : ℕ → ℕ
  after x = get_or values (base + 1 + x) 0

  -- the pixel after x
  next : (x : ℕ) → after x ≡ at (x + 1)
  next x = let e : base + 1 + x ≡ base + (x + 1) = omega arith in ap (λ (p : ℕ). get_or values p 0) e

  pub idle-right : steep a (λ x. get_or values (base + x) 0) (λ x. get_or values (base + 1 + x) 0) w ≡ false
      → Swept base w (λ x. carried a (λ t. get_or values (base + t) 0) (x + 1)) values row values row'
  idle-right e = kept-idle (λ x l. sym (idle a at w (small _) (λ t m. rw (← next t) (not-steep a at after w e t m)) x l)) kept

  pub idle-left : steep a (λ x. get_or values (base + 1 + x) 0) (λ x. get_or values (base + x) 0) w ≡ false
      → Swept base w (λ x. carried a (λ t. get_or values (base + (w - 1 - t)) 0) (w - x)) values row values row'
  idle-left e = kept-idle same kept
    where
      back : ℕ → ℕ
      back t = at (w - 1 - t)

      near : (t : ℕ) → t + 1 < w → back (t + 1) ≤ candidate (back t) a
      near t l =
          let z : w - 1 - (t + 1) + 1 ≡ w - 1 - t = omega arith in
          subst (λ (k : ℕ). back (t + 1) ≤ candidate (at k) a) z
          (rw (← next (w - 1 - (t + 1))) (not-steep a after at w e (w - 1 - (t + 1)) (omega arith)))

      same : (x : ℕ) → x < w → at x ≡ carried a back (w - x)
      same x l =
          let z : w - 1 - x + 1 ≡ w - x = omega arith in
          let u : x ≡ w - 1 - (w - 1 - x) = omega arith in
          ap at u ∙ sym (subst (λ (k : ℕ). carried a back k ≡ back (w - 1 - x)) z (idle a back w (small _) near (w - 1 - x) (omega arith)))

-- what is handed on by turns is what the sweep leaves
pub swept_turns : (right : Bool) (a base w : ℕ) (m : List ℕ) (x : ℕ) → x < w → carried a (λ t. get_or m (base + turn right w t) 0) (turn right w x + 1) ≡ swept right a base w m x
swept_turns true a base w m x l = refl
swept_turns false a base w m x l = let e : w - 1 - x + 1 ≡ w - x = omega arith in rw e
