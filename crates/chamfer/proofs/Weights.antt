-- The engines' weights: the code's table is the definition's, and document 02 allows each row of it.
-- Assumes nothing.
use mathlib.Core.List.{[], ◌∷◌}
use mathlib.Core.Path.{◌≡◌, refl}
use Prim.Native.Nat.{ℕ, zero, suc, ◌-◌, ◌≤◌}
use native.Mathlib.Omega.{arith}
use lib.ListN.{get_or}
use Rattle.chamfer.specs.Chamfer.{Weights}
use Rattle.chamfer.specs.Engines.{weights, side_weight, corner_weight}

-- what the code's table holds: column 0 of a side step, 1 of a corner step
unfoldable pub read : (column row : ℕ) → ℕ
read k r = get_or (get_or ((1 ∷ 2 ∷ []) ∷ (1 ∷ 1 ∷ []) ∷ (3 ∷ 4 ∷ []) ∷ []) r []) k 0

-- row by row it is the definition's
pub read_is : (r : ℕ) → r ≤ 2 → (read 0 r ≡ (get_or weights r (0, 0)).0) × (read 1 r ≡ (get_or weights r (0, 0)).1)
unfolding read weights
read_is zero l = (refl, refl)
read_is (suc zero) l = (refl, refl)
read_is (suc (suc zero)) l = (refl, refl)
read_is (suc (suc (suc r))) l = absurd (omega arith)

row_allowed : (r : ℕ) → r ≤ 2 → Weights (get_or weights r (0, 0)).0 (get_or weights r (0, 0)).1
unfolding weights
row_allowed zero l = record { ordered = omega arith; no_detour = omega arith; small = omega arith }
row_allowed (suc zero) l = record { ordered = omega arith; no_detour = omega arith; small = omega arith }
row_allowed (suc (suc zero)) l = record { ordered = omega arith; no_detour = omega arith; small = omega arith }
row_allowed (suc (suc (suc r))) l = absurd (omega arith)

pub allowed : (engine : ℕ) → engine ≤ 6 → Weights (side_weight engine) (corner_weight engine)
allowed e l = row_allowed (e - 4) (omega arith)
