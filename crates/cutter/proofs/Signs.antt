-- The directions: how many there are, the table's rows, and what steps do to a place of a line, by their sign.
-- Assumes nothing.
use mathlib.Core.List.{List, [], ◌∷◌}
use mathlib.Core.Path.{◌≡◌, refl, ap, ◌∙◌}
use mathlib.Core.Bool.{Bool, false, not}
use Prim.Native.Nat.{ℕ, zero, suc, ◌+◌, ◌-◌, ◌<◌, ◌≤◌}
use native.Mathlib.Omega.{arith}
use lib.Dec.{T, leb, ltb, ltb→lt, nltb→le}
use lib.IntN.{ℤ, pos, negsuc}
use lib.ListN.{get_or}
use lib.Signed.{lt_z, mag}
use mir.Syntax.{w16}
use mir.Val.{SFits, to_z, of_z}
use mir.ValLaws.{to_z-of_z}
use borrow.Author.Tests.{leb-false}
use Rattle.cutter.specs.declared.direction.Direction.{Direction}
use Rattle.cutter.specs.declared.direction.Direction.TheVariants.{East, SouthEast, South, SouthWest, West, NorthWest, North, NorthEast}
use Rattle.cutter.specs.Directions.{direction_number, steps, step_right, step_down, place_after, leaves_side}

-- the number of a direction is one of eight
pub direction_known : (d : Direction) → direction_number d ≤ 7
direction_known East = omega arith
direction_known SouthEast = omega arith
direction_known South = omega arith
direction_known SouthWest = omega arith
direction_known West = omega arith
direction_known NorthWest = omega arith
direction_known North = omega arith
direction_known NorthEast = omega arith

-- what the code's table of pairs holds: column 0 to the right, 1 down
unfoldable pub read : (column direction : ℕ) → ℤ
read k d = to_z w16 (of_z w16 (get_or (get_or pairs d []) k (pos 0)))
  where
    pairs : List (List ℤ)
    pairs =
        (pos 1 ∷ pos 0 ∷ [])
        ∷ (pos 1 ∷ pos 1 ∷ [])
        ∷ (pos 0 ∷ pos 1 ∷ [])
        ∷ (negsuc 0 ∷ pos 1 ∷ [])
        ∷ (negsuc 0 ∷ pos 0 ∷ [])
        ∷ (negsuc 0 ∷ negsuc 0 ∷ [])
        ∷ (pos 0 ∷ negsuc 0 ∷ [])
        ∷ (pos 1 ∷ negsuc 0 ∷ [])
        ∷ []

-- direction by direction it is the definition's
pub read_is : (d : ℕ) → d ≤ 7 → (read 0 d ≡ step_right d) × (read 1 d ≡ step_down d)
unfolding read steps
read_is zero l = (refl, refl)
read_is (suc zero) l = (refl, refl)
read_is (suc (suc zero)) l = (refl, refl)
read_is (suc (suc (suc zero))) l = (refl, refl)
read_is (suc (suc (suc (suc zero)))) l = (refl, refl)
read_is (suc (suc (suc (suc (suc zero))))) l = (refl, refl)
read_is (suc (suc (suc (suc (suc (suc zero)))))) l = (refl, refl)
read_is (suc (suc (suc (suc (suc (suc (suc zero))))))) l = (refl, refl)
read_is (suc (suc (suc (suc (suc (suc (suc (suc n)))))))) l = absurd (omega arith)

module _ (side n t : ℕ) where
  pub ahead : (z : ℤ) → T (lt_z (pos 0) z) → (t + n ≡ place_after z n t) × (leb side (t + n) ≡ leaves_side z side n t)
  ahead (pos zero) up = absurd (omega (arith, ltb→lt 0 0 up))
  ahead (pos (suc k)) up = (refl, refl)
  ahead (negsuc k) up = absurd up

  pub back : (z : ℤ) → T (lt_z z (pos 0)) → (t - n ≡ place_after z n t) × (ltb t n ≡ leaves_side z side n t)
  back (pos k) down = absurd (omega (arith, ltb→lt k 0 down))
  back (negsuc k) down = (refl, refl)

  pub still : (z : ℤ) → T (not (lt_z (pos 0) z)) → T (not (lt_z z (pos 0))) → (t ≡ place_after z n t) × (false ≡ leaves_side z side n t)
  still (pos zero) up down = (refl, refl)
  still (pos (suc k)) up down = absurd (omega (arith, nltb→le 0 (suc k) up))
  still (negsuc k) up down = absurd down

-- steps that do not leave a line end on it, and so does each on the way
pub run_stays : (z : ℤ) (side n t : ℕ) → t < side → leaves_side z side n t ≡ false → place_after z n t < side
run_stays (pos zero) side n t l e = l
run_stays (pos (suc k)) side n t l e = leb-false side (t + n) e
run_stays (negsuc k) side n t l e = omega arith

pub between : (z : ℤ) (side n t : ℕ) {i : ℕ} → t < side → place_after z n t < side → i ≤ n → place_after z i t < side
between (pos zero) side n t l e m = l
between (pos (suc k)) side n t l e m = omega arith
between (negsuc k) side n t l e m = omega arith

-- what code works out with a step that it has read
pub leaving : (side n t : ℕ) {z d : ℤ} {r : Bool} → mag z < 32768 → z ≡ d → r ≡ leaves_side (to_z w16 (of_z w16 z)) side n t → r ≡ leaves_side d side n t
leaving side n t {z} ok e r =
    let f : SFits w16 z = record { sfits = ok } in
    (simp (to_z-of_z, f) at r) ∙ ap (λ (k : ℤ). leaves_side k side n t) e
