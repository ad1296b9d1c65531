-- A row that is spread from the row before it: how it starts, one pixel more, how it ends.
-- Assumes nothing.
use mathlib.Core.Path.{◌≡◌, refl, ◌∙◌}
use mathlib.Core.Bool.{Bool}
use mathlib.Core.List.{List}
use Prim.Native.Nat.{ℕ, ◌+◌, ◌<◌, ◌≤◌}
use native.Mathlib.Omega.{arith}
use lib.IntN.{ℤ, pos}
use lib.ListN.{length, get_or, set, length-set}
use lib.Seq.{get_or-set_same, get_or-set_other}
use Rattle.raster.proofs.Writing.{set_more}
use Rattle.columns.specs.Column.{farther}
use Rattle.columns.specs.Passes.{Spread}

-- the first x pixels of the row are spread, and `near` is as it was from there on
pub record SpreadTo (base w : ℕ) (copper : ℕ → Bool) (made : ℕ → ℤ → ℤ) (ways near : List ℤ) (x : ℕ) (ways' near' : List ℤ) : Type 0 where
  pub on : x ≤ w
  pub done : Spread base x copper made ways near ways' near'
  pub left : (z : ℕ) → x ≤ z → get_or near' z (pos 0) ≡ get_or near z (pos 0)

module _ {base w : ℕ} {copper : ℕ → Bool} {made : ℕ → ℤ → ℤ} {ways near : List ℤ} where
  pub spread_none : SpreadTo base w copper made ways near 0 ways near
  spread_none = record {
    on = omega arith;
    done = record {
      long = refl;
      near_long = refl;
      steps = λ z l. absurd (omega arith);
      here = λ z l. absurd (omega arith);
      low_kept = λ i l. refl;
      high_kept = λ i l. refl;
    };
    left = λ z l. refl;
  }

  module _ {x : ℕ} {ways' near' : List ℤ} (s : SpreadTo base w copper made ways near x ways' near') where
    pub spread_more : {v z : ℤ} → x < w → base + x < length ways' → x < length near' → v ≡ farther (copper x) (get_or near x (pos 0)) → z ≡ made x v
        → SpreadTo base w copper made ways near (x + 1) (set ways' (base + x) z) (set near' x v)
    spread_more {v} {z} h i j e f = record {
      on = omega arith;
      done = record {
        long = length-set ways' (base + x) z ∙ s.done.long;
        near_long = length-set near' x v ∙ s.done.near_long;
        steps = set_more (pos 0) (λ a u. u ≡ farther (copper a) (get_or near a (pos 0))) (λ a. a) near' j (λ a l. omega arith) e s.done.steps;
        here =
            set_more (pos 0) (λ a u. u ≡ made a (get_or (set near' x v) a (pos 0))) (λ a. base + a) ways' i (λ a l. omega arith)
            (rw (get_or-set_same near' x v (pos 0) j) f) (λ a l. rw (other a (omega arith)) (s.done.here a l));
        low_kept = λ a l. get_or-set_other ways' (base + x) a z (pos 0) (omega arith) ∙ s.done.low_kept a l;
        high_kept = λ a l. get_or-set_other ways' (base + x) a z (pos 0) (omega arith) ∙ s.done.high_kept a (omega arith);
      };
      left = λ a l. other a (omega arith) ∙ s.left a (omega arith);
    }
      where
        other : (a : ℕ) → (a ≡ x → ⊥) → get_or (set near' x v) a (pos 0) ≡ get_or near' a (pos 0)
        other a q = get_or-set_other near' x a v (pos 0) q

    pub spread_all : w ≤ x → Spread base w copper made ways near ways' near'
    spread_all h = let e : x ≡ w = omega (arith, s.on) in rw (← e) s.done
