-- The map that the code leaves is the exact map: in each row the vector to the best site is exact, and no other map is exact everywhere.
-- Assumes nothing.
use mathlib.Core.Path.{◌≡◌, ◌∙◌}
use mathlib.Core.List.{List}
use Prim.Native.Nat.{ℕ, ◌*◌, ◌<◌, ◌≤◌}
use lib.IntN.{ℤ, pos}
use lib.ListN.{length, get_or}
use Rattle.raster.specs.Limits.{max_side}
use Rattle.raster.specs.Pixels.{Mask, index}
use Rattle.raster.specs.PixelsLaws.{tabulate-at}
use Rattle.columns.specs.Column.{way_of}
use Rattle.columns.proofs.Foot.{foot}
use Rattle.exact.specs.Nearest.{exact_map}
use Rattle.exact.specs.Rows.{way_cost, way_at, row_costs, Solved}
use Rattle.exact.proofs.Theorems.{only_exact}
use Rattle.exact.proofs.Columns.{site_exact}

module _ (copper : Mask) (w h : ℕ) (wide : w ≤ max_side) (tall : h ≤ max_side) (m : List ℤ)
    (ways : (x y : ℕ) → x < w → y < h → get_or m (index w x y) (pos 0) ≡ way_of copper h x y) where
  costs : (y k : ℕ) → k < w → get_or (row_costs m (y * w) w) k 0 ≡ way_cost (way_at m (y * w) k)
  unfolding row_costs
  costs y k l = tabulate-at w _ k 0 l

  pub solved_exact : (after : List ℤ) → length m ≡ 2 * (h * w) → Solved w h m after → after ≡ exact_map copper w h
  solved_exact after long s =
      only_exact copper w h after (s.long ∙ long)
      (λ x y a b.
      rw (s.dx x y a b, s.dy x y a b)
      (site_exact copper w h wide tall x y b (way_at m (y * w)) (row_costs m (y * w) w) (λ k l. rw (ways k y l b) (foot copper h k y b)) (costs y)))
