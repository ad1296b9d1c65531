-- The two kinds of map: the engines of values, and how long a map of an engine's kind is that has n pixels.
-- Assumes nothing.
use mathlib.Core.Path.{◌≡◌, refl, sym, ◌∙◌}
use mathlib.Core.Bool.{Bool, true, false}
use Prim.Native.Nat.{ℕ, ◌*◌, ◌≤◌, ◌<◌}
use native.Mathlib.Omega.{arith}
use lib.Dec.{eqb, leb}
use lib.ListN.{length}
use borrow.Author.Tests.{eqb-true, leb-true}
use Rattle.raster.specs.Map.{Inside}
use Rattle.raster.specs.Tests.{and_left, and_right}
use Rattle.chamfer.specs.declared.engines.Draft.{Draft}
use Rattle.chamfer.specs.declared.engines.Draft.TheVariants.{CityBlock, Chessboard, Chamfer}
use Rattle.chamfer.specs.Drafts.{engine_of}
use Rattle.cutter.specs.Kinds.{Maps, by_values, has_pixels}

pub values_engine : (e : ℕ) → by_values e ≡ true → (4 ≤ e) × (e ≤ 6)
values_engine e k = (leb-true 4 e (and_left (leb 4 e) _ k), leb-true e 6 (and_right (leb 4 e) _ k))

module _ (e n : ℕ) (m : Maps) (held : has_pixels e n m ≡ true) where
  pub values_long : by_values e ≡ true → length m.values ≡ n
  values_long k = eqb-true (length m.values) n (rw k at held)

  pub pairs-long : by_values e ≡ false → length m.pairs ≡ 2 * n
  pairs-long k = eqb-true (length m.pairs) (2 * n) (rw k at held)

  -- so it holds each pixel below n
  pub holds : (p : ℕ) → p < n → {kind : Bool} → kind ≡ by_values e → (kind ≡ true → p < length m.values) × (kind ≡ false → Inside p m.pairs)
  holds p i k = ((λ v. rw (values_long (sym k ∙ v)) i), (λ v. rw (pairs-long (sym k ∙ v)) (omega arith)))

-- the engines of drafts write values, and none of them is the exact one
pub draft_values : (d : Draft) → by_values (engine_of d) ≡ true
draft_values CityBlock = refl
draft_values Chessboard = refl
draft_values Chamfer = refl

pub draft_inexact : (d : Draft) → eqb (engine_of d) 1 ≡ false
draft_inexact CityBlock = refl
draft_inexact Chessboard = refl
draft_inexact Chamfer = refl
