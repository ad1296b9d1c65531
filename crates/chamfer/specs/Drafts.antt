-- The engines of draft maps, each by its number.
-- Assumes nothing.
use Rattle.std.specs.Prelude.{◌≡◌, ℕ, ◌≤◌, Result, MatchResult}
use Rattle.raster.specs.declared.refusal.Refusal.{Refusal}
use Rattle.raster.specs.declared.refusal.Refusal.TheVariants.{Engine}
use Rattle.chamfer.specs.declared.engines.Draft.{Draft}
use Rattle.chamfer.specs.declared.engines.Draft.TheVariants.{CityBlock, Chessboard, Chamfer}

abbrev pub engine_of : Draft → ℕ
engine_of CityBlock = 4
engine_of Chessboard = 5
engine_of Chamfer = 6

-- the engine of this number, or that there is none
abbrev pub Decodes : ℕ → Result Draft Refusal → Type 0
Decodes engine r = MatchResult r (λ draft. engine_of draft ≡ engine) (λ e. (e ≡ Engine) × ¬ ((4 ≤ engine) × (engine ≤ 6)))
