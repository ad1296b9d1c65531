-- A vector that the code carries: its components fit the machine's numbers, and so do those of its candidate.
-- Assumes nothing.
use Prim.Native.Nat.{◌≤◌}
use native.Mathlib.Nat.{mul-le-mul}
use native.Mathlib.Omega.{arith}
use lib.IntN.{ℤ, pos, negsuc, nat_abs, ◌+ℤ◌}
use mir.Syntax.{w32}
use mir.Val.{SFits}
use Rattle.raster.proofs.Signed.{widen, short_wide, wide_fits}
use Rattle.raster.specs.Limits.{max_side}
use Rattle.raster.specs.Vector.{Short, UnitStep, size}
use Rattle.raster.specs.VectorLaws.{add_abs}
use Rattle.candidate.specs.declared.KeyedVector.{KeyedVector}
use Rattle.candidate.specs.Key.{key, no_key}
use Rattle.candidate.specs.Holding.{Keyed, Given}

pub near_short : (z : ℤ) → nat_abs z ≤ max_side → Short z
near_short (pos n) h = omega arith
near_short (negsuc n) h = omega arith

near_fits : (z : ℤ) → nat_abs z ≤ max_side → SFits w32 z
near_fits z h = wide_fits z (omega arith)

module _ {r : KeyedVector} (h : Keyed r) where
  pub fits-dx : SFits w32 r.dx
  fits-dx = widen (record { sfits = h.short_dx })

  pub fits-dy : SFits w32 r.dy
  fits-dy = widen (record { sfits = h.short_dy })

  -- no pixel's numbers have a larger key than an unlabelled one's
  pub most_key : r.key ≤ no_key
  unfolding key size
  most_key =
      let x = short_wide r.dx h.short_dx in
      let y = short_wide r.dy h.short_dy in
      omega (arith, h.own, mul-le-mul x x, mul-le-mul y y)

module _ {c : KeyedVector} (g : Given c) where
  pub given-dx : SFits w32 c.dx
  given-dx = near_fits c.dx (omega (arith, g.near_dx))

  pub given-dy : SFits w32 c.dy
  given-dy = near_fits c.dy g.near_dy

  -- after a step to the side
  pub side-near : (o : ℤ) → UnitStep o → nat_abs (c.dx +ℤ o) ≤ max_side
  side-near o u = omega (arith, g.near_dx, add_abs c.dx o)

  pub side-fits : (o : ℤ) → UnitStep o → SFits w32 (c.dx +ℤ o)
  side-fits o u = near_fits _ (side-near o u)
