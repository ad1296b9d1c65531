-- What a function says that writes one row of a sheet, or of a map with one number a pixel.
-- Assumes nothing.
use Rattle.std.specs.Prelude.{◌≡◌, List, ℕ, ◌+◌, ◌<◌, ◌≤◌, length, get_or}

-- the n numbers from `base` on are f 0, f 1, .., and nothing else changes
pub record RowWritten (base n : ℕ) (f : ℕ → ℕ) (before after : List ℕ) : Type 0 where
  pub long : length after ≡ length before
  pub here : (x : ℕ) → x < n → get_or after (base + x) 0 ≡ f x
  pub low_kept : (p : ℕ) → p < base → get_or after p 0 ≡ get_or before p 0
  pub high_kept : (p : ℕ) → base + n ≤ p → get_or after p 0 ≡ get_or before p 0
