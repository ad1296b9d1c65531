-- Points whose true distances are asked for together: document 02, C-19. They are lent as one list of numbers, a pair a point, x then y.
-- Assumes nothing.
use Rattle.std.specs.Prelude.{Bool, ◌||◌, List, ℕ, ◌+◌, ◌*◌, ◌-◌, eqb, leb, ltb, get_or}
use Rattle.raster.specs.Distance.{true_distance}
use Rattle.raster.specs.Loop.{any_below, count_below}
use Rattle.raster.specs.Pixels.{Mask, tabulate}

-- the column and the row of the k-th point
abbrev pub point_column : List ℕ → (k : ℕ) → ℕ
point_column points k = get_or points (2 * k) 0

abbrev pub point_row : List ℕ → (k : ℕ) → ℕ
point_row points k = get_or points (2 * k + 1) 0

-- refusal 16: one of the n points is off the sheet of w × h pixels
unfoldable pub point_off : (w h n : ℕ) → List ℕ → Bool
point_off w h n points = any_below n (λ k. leb w (point_column points k) || leb h (point_row points k))

-- refusal 43: the row of one of the n points is less than that of the point before it
unfoldable pub rows_fall : (n : ℕ) → List ℕ → Bool
rows_fall n points = any_below (n - 1) (λ k. ltb (point_row points (k + 1)) (point_row points k))

-- the answers: the true squared distance of each of the n points
unfoldable pub distances_at : (copper : Mask) (w h n : ℕ) → List ℕ → List ℕ
distances_at copper w h n points = tabulate n (λ k. true_distance copper w h (point_column points k) (point_row points k))

-- the number of different rows among the n points: of the sheet's h rows, those in which one of them lies
unfoldable pub rows_among : (h n : ℕ) → List ℕ → ℕ
rows_among h n points = count_below h (λ y. any_below n (λ k. eqb (point_row points k) y))
