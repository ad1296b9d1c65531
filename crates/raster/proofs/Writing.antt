-- A loop that writes f 0, f 1, .. into a list from the front: how it starts, one turn, how it ends; and what one write more leaves.
-- Assumes nothing.
use mathlib.Core.Path.{◌≡◌, refl, sym, ap, ◌∙◌}
use mathlib.Core.Logic.{◌≢◌}
use mathlib.Core.List.{List, [], ◌∷◌, ◌++◌, append-nil}
use Prim.Native.Nat.{ℕ, zero, suc, ◌+◌, ◌-◌, ◌<◌, ◌≤◌}
use native.Mathlib.Decide.{ℕ_discrete}
use native.Mathlib.Nat.{not-suc-le-zero, le_of_suc-le-suc}
use native.Mathlib.Numerals.{add-one}
use native.Mathlib.Omega.{arith}
use lib.ListN.{length, get_or, set, drop, replicate, length-set}
use lib.Seq.{get_or-set_same, get_or-set_other, get_or-append-add, get_or-drop, drop-length}
use Rattle.raster.specs.Pixels.{tabulate}
use Rattle.raster.specs.PixelsLaws.{tabulate-length}

-- what holds of the first n places, and of what is written to the next, holds of n + 1 places
pub set_more : {A : Type 0} (d : A) (P : ℕ → A → Type 0) (place : ℕ → ℕ) (s : List A) {n : ℕ} {v : A}
    → place n < length s → ((i : ℕ) → i < n → place i ≢ place n) → P n v → ((i : ℕ) → i < n → P i (get_or s (place i) d))
    → (i : ℕ) → i < n + 1 → P i (get_or (set s (place n) v) (place i) d)
set_more d P place s {n} {v} room apart new old i l = elim (ℕ_discrete i n) [
  | yes q ↦ rw (q, get_or-set_same s (place n) v d room) new
  | no q ↦ rw (get_or-set_other s (place n) (place i) v d (apart i (omega arith))) (old i (omega arith))
]

one_more : {A : Type 0} (n : ℕ) (f : ℕ → A) (s : List A) → n < length s → set (tabulate n f ++ drop n s) n (f n) ≡ tabulate (suc n) f ++ drop (suc n) s
unfolding tabulate
one_more n f [] l = absurd (not-suc-le-zero l)
one_more zero f (x ∷ s) l = refl
one_more {A} (suc n) f (x ∷ s) l = ap (λ (t : List A). f 0 ∷ t) (one_more n (λ i. f (suc i)) s (le_of_suc-le-suc l))

module _ {A : Type 0} (f : ℕ → A) (before : List A) where
  -- the first i elements are written, the rest are as they were
  pub record Writing (i : ℕ) (after : List A) : Type 0 where
    pub made : after ≡ tabulate i f ++ drop i before
    pub on : i ≤ length before
    pub long : length after ≡ length before

  pub write_none : Writing 0 before
  unfolding tabulate
  write_none = record { made = refl; on = omega arith; long = refl }

  pub write_more : {i : ℕ} {after : List A} {v : A} → Writing i after → i < length before → v ≡ f i → Writing (i + 1) (set after i v)
  write_more {i} {after} {v} w l e =
      record { made = rw (add-one, e) (ap (λ (t : List A). set t i (f i)) w.made ∙ one_more i f before l); on = omega arith; long = simp length-set w.long }

  pub write_rest : {i : ℕ} {after : List A} → Writing i after → (k : ℕ) (d : A) → i ≤ k → get_or after k d ≡ get_or before k d
  write_rest {i} {after} w k d l =
      let e : length (tabulate i f) + (k - i) ≡ k = omega (arith, tabulate-length i f) in
      let g : i + (k - i) ≡ k = omega arith in
      ap (λ (t : List A). get_or t k d) w.made
      ∙ sym (ap (λ (p : ℕ). get_or (tabulate i f ++ drop i before) p d) e)
      ∙ get_or-append-add (tabulate i f) _ (k - i) d
      ∙ get_or-drop i before (k - i) d
      ∙ ap (λ (p : ℕ). get_or before p d) g

  pub write_all : {i : ℕ} {after : List A} → Writing i after → length before ≤ i → after ≡ tabulate (length before) f
  write_all {i} {after} w l = let n : i ≡ length before = omega (arith, w.on) in w.made ∙ rw (n, drop-length, append-nil)

-- where every element is the same
pub tabulate-same : {A : Type 0} (n : ℕ) (v : A) → tabulate n (λ i. v) ≡ replicate n v
unfolding tabulate
tabulate-same zero v = refl
tabulate-same (suc n) v = ap (λ (t : List _). v ∷ t) (tabulate-same n v)
