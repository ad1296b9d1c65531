-- What the code carries beside the map: vectors with their keys.
-- Assumes nothing.
use Rattle.std.specs.Prelude.{◌≡◌, Bool, true, false, cond, ◌&&◌, List, ℕ, ◌≤◌, ◌<◌, ltb, ℤ, pos, nat_abs, ◌+ℤ◌}
use Rattle.raster.specs.Limits.{max_side}
use Rattle.raster.specs.Vector.{Short, replaces}
use Rattle.raster.specs.Map.{dx_at, dy_at}
use Rattle.candidate.specs.declared.KeyedVector.{KeyedVector}
use Rattle.candidate.specs.Candidate.{offer}
use Rattle.candidate.specs.Key.{key, no_key, key_limit}

-- ---- what a pixel holds, labelled or not

-- it fits the map, and the key is its own
pub record Keyed (r : KeyedVector) : Type 0 where
  pub short_dx : Short r.dx
  pub short_dy : Short r.dy
  pub own : r.key ≡ key r.dx r.dy

-- it is the one at pixel p
pub record AtPixel (r : KeyedVector) (m : List ℤ) (p : ℕ) : Type 0 where
  pub dx : r.dx ≡ dx_at m p
  pub dy : r.dy ≡ dy_at m p
  pub keyed : Keyed r

-- ---- what a neighbour gives

-- c is a vector, and not the sign that there is none
abbrev pub is_given : KeyedVector → Bool
is_given c = ltb c.key key_limit

-- a vector that ends on a sheet, before or after a step up or down, with its key; or none, with the key that says so
pub record Given (c : KeyedVector) : Type 0 where
  pub near_dx : nat_abs c.dx < max_side
  pub near_dy : nat_abs c.dy ≤ max_side
  pub own : is_given c ≡ true → c.key ≡ key c.dx c.dy
  pub absent : is_given c ≡ false → (c.dx ≡ pos 0) × (c.key ≡ no_key)

-- it is the vector of pixel p after the step (0, o)
pub record Ahead (o : ℤ) (c : KeyedVector) (m : List ℤ) (p : ℕ) : Type 0 where
  pub dx : c.dx ≡ dx_at m p
  pub dy : c.dy ≡ dy_at m p +ℤ o
  pub gives : is_given c ≡ true
  pub given : Given c

-- ---- the candidate c with a step ox to the side

-- the pixel `at` is offered it, if there is one
abbrev pub offer_given : KeyedVector → (ox : ℤ) (at : ℕ) → List ℤ → List ℤ
offer_given c ox at m = cond (is_given c) (offer (c.dx +ℤ ox) c.dy at m) m

-- it replaces d
abbrev pub wins : (d c : KeyedVector) (ox : ℤ) → Bool
wins d c ox = is_given c && replaces d.dx d.dy (c.dx +ℤ ox) c.dy

-- r is what a pixel that holds d holds after it
pub record Offered (d c : KeyedVector) (ox : ℤ) (r : KeyedVector) : Type 0 where
  pub dx : r.dx ≡ cond (wins d c ox) (c.dx +ℤ ox) d.dx
  pub dy : r.dy ≡ cond (wins d c ox) c.dy d.dy
  pub keyed : Keyed r
