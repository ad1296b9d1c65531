-- `raster::any_below` meets its contract. The invariant: the flag says whether some number below k passes the test.
use mathlib.Core.Path.{◌≡◌}
use mathlib.Core.Bool.{Bool}
use Prim.Native.Nat.{ℕ, ◌<◌}
use Rattle.raster.specs.Loop.{any_below}
use Rattle.raster.proofs.any_below.Given as goal

abbrev pub invariant-loop-k : goal.invariant-loop-k
invariant-loop-k g l = (f : ℕ → Bool) → ((k : ℕ) (b : Bool) → k < l.n → goal.F-post g l.test k b → b ≡ f k) → l.found ≡ any_below l.k f
