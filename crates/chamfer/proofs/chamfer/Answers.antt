-- `chamfer::chamfer` meets its contract: both working rows start blank.
use Prim.Native.Nat.{ℕ, ◌≤◌}
use native.Mathlib.Omega.{arith}
use lib.ListN.{replicate, get_or-replicate, length-replicate}
use Rattle.raster.specs.Limits.{max_side}
use Rattle.chamfer.specs.Chamfer.{no_value}
use Rattle.chamfer.specs.Rows.{Blank}
use Rattle.chamfer.proofs.chamfer.Goals as goal

starts_blank : (w : ℕ) → w ≤ max_side → Blank w (replicate 2050 no_value)
starts_blank w l = record { room = omega (arith, length-replicate 2050 no_value); blank = λ p m. get_or-replicate 2050 p no_value 0 (omega arith) }

pub scan_down-requires-clause-blank : goal.scan_down-requires-clause-blank
scan_down-requires-clause-blank c = (c.requires.w_bound, starts_blank _ c.requires.w_bound)

pub scan_up-requires-clause-blank : goal.scan_up-requires-clause-blank
scan_up-requires-clause-blank c = (c.requires.w_bound, starts_blank _ c.requires.w_bound)
