-- The gate that a lowered cutter of squared radius q has to pass at a pixel of size a: document 01, "Engines". An engine's map is good up to a
-- fraction, so its gate compares den × a with num × q.
-- Assumes nothing.
use Rattle.std.specs.Prelude.{Bool, ℕ, ◌*◌, ◌≤◌, ltb}
use Rattle.raster.specs.Pixels.{Mask}
use Rattle.raster.specs.Distance.{Copper, apart}

pub record Gate : Type 0 where
  pub den : ℕ
  pub num : ℕ

-- a labelled pixel passes
unfoldable pub passes : Gate → (a q : ℕ) → Bool
passes g a q = ltb (g.num * q) (g.den * a)

-- some copper pixel's squared distance from (x, y) is at most that fraction of q
pub record NearBy (g : Gate) (m : Mask) (w h x y q : ℕ) : Type 0 where
  pub column : ℕ
  pub row : ℕ
  pub copper : Copper m w h column row
  pub within : g.den * apart x y column row ≤ g.num * q
