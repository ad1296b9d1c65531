-- The rows of sides and lengths, with one row more: what the look at the pixels found.
-- Assumes nothing.
use mathlib.Core.Path.{◌≡◌, refl, ◌∙◌}
use mathlib.Core.Bool.{Bool, cond}
use mathlib.Core.List.{[], ◌∷◌, ◌++◌}
use Prim.Native.Nat.{ℕ, ◌*◌}
use Rattle.raster.specs.Loop.{any_below}
use Rattle.raster.specs.Refusal.{first_of, number_of}
use Rattle.raster.specs.RefusalLaws.{earlier_decides, last_decides, number_some}
use Rattle.raster.specs.declared.refusal.Refusal.{Refusal}
use Rattle.storage.specs.Stored.{length_rows}

module _ (w h from to : ℕ) (f : ℕ → Bool) where
  -- what the rows before refuse is refused
  pub refused : (refusal : Refusal) → number_of refusal ≡ first_of (length_rows w h from to)
      → number_of refusal ≡ first_of (length_rows w h from to ++ ((any_below (h * w) f, 45) ∷ []))
  refused refusal is = earlier_decides _ 45 _ is (number_some refusal)

  -- past them the pixels decide
  pub looked : {n : ℕ} {found : Bool} → first_of (length_rows w h from to) ≡ 0 → n ≡ h * w → found ≡ any_below n f
      → first_of (length_rows w h from to ++ ((any_below (h * w) f, 45) ∷ [])) ≡ cond found 45 0
  unfolding length_rows
  looked rows area is = last_decides _ 45 _ refl rows ∙ rw (is, area)
