-- The two kinds of map: document 02, C-12. The engines 1 to 3 write pairs, two signed numbers a pixel; the engines 4 to 6 write values, one number a pixel.
-- A call reads the kind that its engine writes, and the pairs where there is no such engine.
-- Assumes nothing.
use Rattle.std.specs.Prelude.{Bool, cond, ◌&&◌, List, ℕ, ◌*◌, eqb, leb, ℤ, length, Option, None, Some}
use Rattle.raster.specs.Map.{size_at, unlabelled_at}
use Rattle.chamfer.specs.Engines.{no_value_at, square_at}

-- what a call is lent of both
pub record Maps : Type 0 where
  pub pairs : List ℤ
  pub values : List ℕ

abbrev pub maps : List ℤ → List ℕ → Maps
maps p v = record { pairs = p; values = v }

-- the kind of an engine's map is values
abbrev pub by_values : (engine : ℕ) → Bool
by_values e = leb 4 e && leb e 6

-- the map of that kind is one of n pixels
abbrev pub has_pixels : (engine n : ℕ) → Maps → Bool
has_pixels e n m = cond (by_values e) (eqb (length m.values) n) (eqb (length m.pairs) (2 * n))

-- its pixel p is unlabelled; and the size there
abbrev pub unlabelled_in : (engine : ℕ) → Maps → (p : ℕ) → Bool
unlabelled_in e m p = cond (by_values e) (no_value_at m.values p) (unlabelled_at m.pairs p)

abbrev pub size_in : (engine : ℕ) → Maps → (p : ℕ) → ℕ
size_in e m p = cond (by_values e) (square_at m.values p) (size_at m.pairs p)

-- what a look at pixel p of the values, or of the pairs, finds: the size, if the pixel is labelled
abbrev pub seen_by : (valued : Bool) → Maps → (p : ℕ) → Option ℕ
seen_by v m p = cond (cond v (no_value_at m.values p) (unlabelled_at m.pairs p)) None (Some (cond v (square_at m.values p) (size_at m.pairs p)))
