-- How far copper is back along a line of pixels: `far` finds the last copper at or before the t-th, or says that there is none.
-- Assumes nothing.
use mathlib.Core.Path.{◌≡◌, refl, ap, ◌∙◌}
use mathlib.Core.Bool.{Bool, true, false}
use Prim.Native.Nat.{ℕ, zero, suc, ◌+◌, ◌-◌, ◌<◌, ◌≤◌}
use native.Mathlib.Decide.{dec_le}
use native.Mathlib.Omega.{arith}
use lib.IntN.{ℤ, pos, negsuc}
use Rattle.columns.specs.Column.{farther, far}

pub data Back (line : ℕ → Bool) (t : ℕ) : ℤ → Type 0 where
  found : (n : ℕ) → n ≤ t → line (t - n) ≡ true → ((m : ℕ) → m < n → line (t - m) ≡ false) → Back line t (pos n)
  nothing : ((m : ℕ) → m ≤ t → line m ≡ false) → Back line t (negsuc 0)

-- one pixel more
next : (line : ℕ → Bool) (t : ℕ) {v : ℤ} → Back line t v → (b : Bool) → line (suc t) ≡ b → Back line (suc t) (farther b v)
next line t k true e = found 0 (omega arith) (ap line (omega arith) ∙ e) (λ m l. absurd (omega arith))
next line t (found n l c none) false e =
    found (n + 1) (omega arith) (ap line (omega arith) ∙ c) (λ m k. go m k)
  where
    go : (m : ℕ) → m < n + 1 → line (suc t - m) ≡ false
    go zero k = ap line (omega arith) ∙ e
    go (suc m) k = ap line (omega arith) ∙ none m (omega arith)
next line t (nothing none) false e = nothing (λ m l. elim (dec_le m t) [ yes q ↦ none m q | no q ↦ ap line (omega arith) ∙ e ])

pub back : (line : ℕ → Bool) (t : ℕ) → Back line t (far line t)
unfolding far
back line zero = go (line 0) refl
  where
    go : (b : Bool) → line 0 ≡ b → Back line 0 (farther b (negsuc 0))
    go true e = found 0 (omega arith) (ap line (omega arith) ∙ e) (λ m l. absurd (omega arith))
    go false e = nothing (λ m l. ap line (omega arith) ∙ e)
back line (suc t) = next line t (back line t) (line (suc t)) refl
