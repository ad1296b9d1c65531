-- Which direction or engine a number names.
-- Assumes nothing.
use Rattle.std.specs.Prelude.{◌≡◌, ℕ, true, false, ◌<◌, Result, MatchResult}
use Rattle.raster.specs.declared.refusal.Refusal.{Refusal}
use Rattle.raster.specs.declared.refusal.Refusal.TheVariants as refusal
use Rattle.chamfer.specs.Drafts.{engine_of}
use Rattle.cutter.specs.declared.direction.Direction.{Direction}
use Rattle.cutter.specs.declared.engine.Engine.{Engine}
use Rattle.cutter.specs.declared.engine.Engine.TheVariants.{Exact, EightSed, FourSed, Draft}
use Rattle.cutter.specs.Directions.{direction_number}
use Rattle.cutter.specs.Gates.{known_engine}

-- the direction of that number, or where there is none the refusal for it
abbrev pub IsDirection : (number : ℕ) → Result Direction Refusal → Type 0
IsDirection n r = MatchResult r (λ d. direction_number d ≡ n) (λ e. (e ≡ refusal.Run) × (7 < n))

-- the number of each engine
abbrev pub engine_number : Engine → ℕ
engine_number Exact = 1
engine_number EightSed = 2
engine_number FourSed = 3
engine_number (Draft d) = engine_of d

-- the engine of that number, or where there is none the refusal for it
abbrev pub IsEngine : (number : ℕ) → Result Engine Refusal → Type 0
IsEngine n r = MatchResult r (λ e. (engine_number e ≡ n) × (known_engine n ≡ true)) (λ e. (e ≡ refusal.Engine) × (known_engine n ≡ false))
