-- The three engines of document 02's C-12: 4 city block, 5 chessboard, 6 chamfer. Their weights stand in a table. The size of a pixel is the square of its
-- value, and the gate compares it with q.
-- Assumes nothing.
use Rattle.std.specs.Prelude.{Bool, cond, List, [], ◌∷◌, ℕ, ◌-◌, ◌*◌, eqb, get_or}
use Rattle.raster.specs.Gate.{Gate}
use Rattle.chamfer.specs.Chamfer.{no_value}

-- the weights of a side step and of a corner step, of each
unfoldable pub weights : List (ℕ × ℕ)
weights = (1, 2) ∷ (1, 1) ∷ (3, 4) ∷ []

abbrev pub side_weight : (engine : ℕ) → ℕ
side_weight e = (get_or weights (e - 4) (0, 0)).0

abbrev pub corner_weight : (engine : ℕ) → ℕ
corner_weight e = (get_or weights (e - 4) (0, 0)).1

-- pixel p of a map is unlabelled; its size, of a value c the square
abbrev pub no_value_at : List ℕ → (p : ℕ) → Bool
no_value_at m p = eqb (get_or m p 0) no_value

abbrev pub square_at : List ℕ → (p : ℕ) → ℕ
square_at m p = get_or m p 0 * get_or m p 0

-- the gate at a pixel of size c²: c² > 2 × q, c² > q, c² > 10 × q
abbrev pub gate : (engine : ℕ) → Gate
gate e = cond (eqb e 4) (record { den = 1; num = 2 }) (cond (eqb e 5) (record { den = 1; num = 1 }) (record { den = 1; num = 10 }))

-- where it fails, some copper is within this fraction of q: 2, 2, 5/4
abbrev pub fair_fraction : (engine : ℕ) → Gate
fair_fraction e = cond (eqb e 6) (record { den = 4; num = 5 }) (record { den = 1; num = 2 })
