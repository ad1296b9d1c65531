-- What build leaves in the two maps: document 01, "Engines", and document 02, C-12. Engine 1 is exact, 2 8SED, 3 4SED: they write pairs. Engine 4 is city
-- block, 5 chessboard, 6 chamfer: they write values. The other map stays as it was.
-- Assumes nothing.
use Rattle.std.specs.Prelude.{cond, List, ℕ, eqb, ℤ}
use Rattle.raster.specs.Sheet.{copper_of}
use Rattle.scan.specs.Scan as scan
use Rattle.chamfer.specs.Chamfer as chamfer
use Rattle.chamfer.specs.Engines.{side_weight, corner_weight}
use Rattle.exact.specs.Nearest as exact
use Rattle.cutter.specs.Kinds.{Maps, maps, by_values}
use Rattle.session.specs.declared.Session.{Session}

-- the pairs of engines 1 to 3
abbrev pub engine_pairs : Session → List ℕ → (engine : ℕ) → List ℤ
engine_pairs s sheet e = cond (eqb e 1) (exact.exact_map (copper_of sheet s.width) s.width s.height) (scan.scanned s.width (eqb e 2) s.height sheet)

-- the values of engines 4 to 6
abbrev pub engine_values : Session → List ℕ → (engine : ℕ) → List ℕ
engine_values s sheet e = chamfer.chamfer_map (side_weight e) (corner_weight e) (copper_of sheet s.width) s.width s.height

-- what a build that is done leaves in each
abbrev pub pairs_built : Session → List ℕ → (engine : ℕ) → List ℤ → List ℤ
pairs_built s sheet e pairs = cond (by_values e) pairs (engine_pairs s sheet e)

abbrev pub values_built : Session → List ℕ → (engine : ℕ) → List ℕ → List ℕ
values_built s sheet e values = cond (by_values e) (engine_values s sheet e) values

abbrev pub maps_built : Session → List ℕ → (engine : ℕ) → Maps → Maps
maps_built s sheet e m = maps (pairs_built s sheet e m.pairs) (values_built s sheet e m.values)
