-- The two passes over the rows: downwards, which leaves the ways upwards, then upwards, which leaves the shorter ones.
-- Assumes nothing.
use Rattle.std.specs.Prelude.{◌≡◌, Bool, List, ℕ, ◌+◌, ◌<◌, ◌≤◌, ℤ, pos, length, get_or}
use Rattle.std.specs.Int.Signed.{mag}
use Rattle.raster.specs.Pixels.{Mask, index}
use Rattle.columns.specs.Column.{farther, down, shorter, is_zero}

-- a number that can be one step farther
abbrev pub Room : ℤ → Type 0
Room v = mag v < 32767

-- the row that starts at base: `near` is one step farther on, the row has what `made` makes of it, and nothing else changes
pub record Spread (base w : ℕ) (copper : ℕ → Bool) (made : ℕ → ℤ → ℤ) (ways near ways' near' : List ℤ) : Type 0 where
  pub long : length ways' ≡ length ways
  pub near_long : length near' ≡ length near
  pub steps : (x : ℕ) → x < w → get_or near' x (pos 0) ≡ farther (copper x) (get_or near x (pos 0))
  pub here : (x : ℕ) → x < w → get_or ways' (base + x) (pos 0) ≡ made x (get_or near' x (pos 0))
  pub low_kept : (i : ℕ) → i < base → get_or ways' i (pos 0) ≡ get_or ways i (pos 0)
  pub high_kept : (i : ℕ) → base + w ≤ i → get_or ways' i (pos 0) ≡ get_or ways i (pos 0)

-- the shorter way of each pixel, from a list of the ways upwards
abbrev pub copper_ways : List ℤ → (w : ℕ) → Mask
copper_ways ups w x y = is_zero (get_or ups (index w x y) (pos 0))

abbrev pub shortened : List ℤ → (w h x y : ℕ) → ℤ
shortened ups w h x y = shorter (get_or ups (index w x y) (pos 0)) (down (copper_ways ups w) h x y)
