-- The eight directions: document 01, "Calls", run. Clockwise from east, x to the right, y down.
-- Assumes nothing.
use Rattle.std.specs.Prelude.{Bool, false, List, [], ◌∷◌, ℕ, zero, suc, ◌+◌, ◌-◌, leb, ltb, ℤ, pos, negsuc, ◌+ℤ◌, get_or}
use Rattle.cutter.specs.declared.direction.Direction.{Direction}
use Rattle.cutter.specs.declared.direction.Direction.TheVariants.{East, SouthEast, South, SouthWest, West, NorthWest, North, NorthEast}

-- the number of each
abbrev pub direction_number : Direction → ℕ
direction_number East = 0
direction_number SouthEast = 1
direction_number South = 2
direction_number SouthWest = 3
direction_number West = 4
direction_number NorthWest = 5
direction_number North = 6
direction_number NorthEast = 7

-- one step of each, to the right and down
unfoldable pub steps : List (ℤ × ℤ)
steps =
    (pos 1, pos 0)
    ∷ (pos 1, pos 1)
    ∷ (pos 0, pos 1)
    ∷ (negsuc 0, pos 1)
    ∷ (negsuc 0, pos 0)
    ∷ (negsuc 0, negsuc 0)
    ∷ (pos 0, negsuc 0)
    ∷ (pos 1, negsuc 0)
    ∷ []

abbrev pub step_right : (direction : ℕ) → ℤ
step_right d = (get_or steps d (pos 0, pos 0)).0

abbrev pub step_down : (direction : ℕ) → ℤ
step_down d = (get_or steps d (pos 0, pos 0)).1

-- ---- a run in single steps

-- where n steps of the table lead, one after another; that may be off the sheet
unfoldable pub walk : (direction n : ℕ) → ℤ × ℤ → ℤ × ℤ
walk d zero p = p
walk d (suc n) p = ((walk d n p).0 +ℤ step_right d, (walk d n p).1 +ℤ step_down d)

-- ---- the same at once, as the code works it out (proofs/Walk)

-- place t of a line after n steps of +1, 0 or −1
abbrev pub place_after : (step : ℤ) (n t : ℕ) → ℕ
place_after (pos zero) n t = t
place_after (pos (suc k)) n t = t + n
place_after (negsuc k) n t = t - n

-- those steps leave a line of `side` places
abbrev pub leaves_side : (step : ℤ) (side n t : ℕ) → Bool
leaves_side (pos zero) side n t = false
leaves_side (pos (suc k)) side n t = leb side (t + n)
leaves_side (negsuc k) side n t = ltb t n

-- the pixel after n steps from (x, y)
abbrev pub column_after : (direction n x : ℕ) → ℕ
column_after d n x = place_after (step_right d) n x

abbrev pub row_after : (direction n y : ℕ) → ℕ
row_after d n y = place_after (step_down d) n y
