-- Signed bytes: how the code tells the mark, and what fits.
-- Assumes nothing.
use mathlib.Core.Path.{◌≡◌}
use Prim.Native.Nat.{suc, ◌-◌}
use native.Mathlib.Omega.{arith}
use lib.Dec.{eqb}
use lib.IntN.{ℤ, pos, negsuc}
use mir.Syntax.{w8, w16}
use mir.Val.{SFits, of_z}
use borrow.Author.Tests.{eq-eqb, ne_eqb, eqb-true}
use Rattle.raster.specs.Tests.{same}
use Rattle.storage.specs.Stored.{is_byte_mark}

-- −128 by its bits
pub byte-mark-bits : (z : ℤ) → SFits w8 z → eqb (of_z w8 z) 128 ≡ is_byte_mark z
byte-mark-bits (pos n) f = ne_eqb n 128 (omega arith)
byte-mark-bits (negsuc n) f = same _ _ (λ e. eq-eqb n 127 (omega (arith, eqb-true (256 - suc n) 128 e))) (λ e. eq-eqb (256 - suc n) 128 (omega (arith, eqb-true n 127 e)))

-- what 8 bits hold, 16 bits hold
pub widen : {z : ℤ} → SFits w8 z → SFits w16 z
widen f = omega arith
