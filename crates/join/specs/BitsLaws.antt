-- The laws of words: the components of a word are those that it was made of.
-- Assumes nothing.
use Rattle.std.specs.Prelude.{◌≡◌, ◌+◌, ◌*◌, ◌/◌, ◌%◌, ◌<◌, ℤ, pos, negsuc, FitsSigned}
use Rattle.std.specs.Int.{w16, cast_unsigned}
use Rattle.std.proofs.Common.{arith}
use Rattle.std.proofs.lemmas.Int.{to_z-of_z}
use Rattle.raster.specs.Vector.{Short}
use Rattle.join.specs.Bits.{word_dx, word_dy}

pub bits_small : (z : ℤ) → Short z → cast_unsigned w16 z < 65536
bits_small (pos n) s = omega arith
bits_small (negsuc n) s = omega arith

short_fits : (z : ℤ) → Short z → FitsSigned w16 z
short_fits (pos n) s = omega arith
short_fits (negsuc n) s = omega arith

module _ (dx dy : ℤ) (a : Short dx) (b : Short dy) where
  pub word-dx : word_dx (cast_unsigned w16 dx + 65536 * cast_unsigned w16 dy) ≡ dx
  word-dx =
      let e : (cast_unsigned w16 dx + 65536 * cast_unsigned w16 dy) % 65536 ≡ cast_unsigned w16 dx = omega (arith, bits_small dx a) in
      rw e (to_z-of_z w16 dx (short_fits dx a))

  pub word-dy : word_dy (cast_unsigned w16 dx + 65536 * cast_unsigned w16 dy) ≡ dy
  word-dy =
      let e : (cast_unsigned w16 dx + 65536 * cast_unsigned w16 dy) / 65536 ≡ cast_unsigned w16 dy = omega (arith, bits_small dx a) in
      rw e (to_z-of_z w16 dy (short_fits dy b))
