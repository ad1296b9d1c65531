-- `rebuild::price_at` meets its contract: two columns lie less than 2,048 apart, so that the square of the way between them stays below 2^22.
use Prim.Native.Nat.{◌≤◌}
use native.Mathlib.Omega.{arith}
use Rattle.raster.specs.Distance.{gap}
use Rattle.raster.specs.DistanceLaws.{square_le}
use Rattle.envelope.specs.Best.{price_of}
use Rattle.rebuild.proofs.price_at.Goals as goal

pub returns : goal.returns
unfolding gap price_of
returns c = let l : c.abs_diff-d.result ≤ 2047 = omega arith in (rw c.abs_diff-d.ensures, omega (arith, square_le l))
