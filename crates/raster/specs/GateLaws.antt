-- Both halves of a gate, for a pixel whose size a is good up to the gate's fraction.
-- Assumes nothing.
use Rattle.std.specs.Prelude.{◌≡◌, true, false, ℕ, ◌*◌, ◌≤◌, ◌<◌, ℤ}
use Rattle.std.proofs.Math.Decide.{dec_lt}
use Rattle.std.proofs.Common.{mul-le-mul_left, arith, ltb-true, ltb-false}
use Rattle.raster.specs.Gate.{Gate, passes, NearBy}
use Rattle.raster.specs.Pixels.{Mask}
use Rattle.raster.specs.Vector.{size, Target}
use Rattle.raster.specs.VectorLaws.{ends-size}

-- the pixel passes: every e whose fraction bounds the size is above q
pub passed-above : (g : Gate) (a q e : ℕ) → g.den * a ≤ g.num * e → passes g a q ≡ true → q < e
unfolding passes
passed-above g a q e bound p = elim (dec_lt q e) [
  | yes l ↦ l
  | no n ↦ absurd (omega (arith, ltb-true (g.num * q) (g.den * a) p, mul-le-mul_left g.num (let f : e ≤ q = omega arith in f)))
]

-- the pixel fails: its size is within the fraction of q
pub failed_within : (g : Gate) (a q : ℕ) → passes g a q ≡ false → g.den * a ≤ g.num * q
unfolding passes
failed_within g a q p = ltb-false (g.num * q) (g.den * a) p

-- the pixel fails, and its vector ends on copper: some copper is within the fraction of q
pub failed_near : (g : Gate) {copper : Mask} {w h x y q : ℕ} {dx dy : ℤ} → Target copper w h x y dx dy → passes g (size dx dy) q ≡ false → NearBy g copper w h x y q
failed_near g t p = record { column = t.column; row = t.row; copper = t.on_copper; within = rw (← ends-size t.ends) (failed_within g _ _ p) }
