-- Where a cutter may stand, and what a run of it meets: document 01, "Engines", the gates, and "Calls", place and run; document 02, C-12.
-- Assumes nothing.
use Rattle.std.specs.Prelude.{◌≡◌, Bool, true, not, cond, ◌&&◌, ◌||◌, ℕ, ◌+◌, ◌*◌, ◌<◌, ◌≤◌, eqb, leb, pos}
use Rattle.raster.specs.Gate.{Gate, passes}
use Rattle.raster.specs.Loop.{any_below}
use Rattle.raster.specs.Pixels.{index}
use Rattle.raster.specs.Place.{is_pixel}
use Rattle.scan.specs.Scan as scan
use Rattle.chamfer.specs.Engines as chamfer
use Rattle.exact.specs.Nearest as exact
use Rattle.cutter.specs.declared.Cutter.{Cutter}
use Rattle.cutter.specs.declared.Sight.{Sight}
use Rattle.cutter.specs.Kinds.{Maps, by_values, has_pixels, unlabelled_in, size_in}
use Rattle.cutter.specs.Directions.{column_after, row_after, walk}

-- the engines' numbers: 1 exact, 2 8SED, 3 4SED, 4 city block, 5 chessboard, 6 chamfer
abbrev pub known_engine : (engine : ℕ) → Bool
known_engine e = leb 1 e && leb e 6

-- an engine's gate
abbrev pub gate_of : (engine : ℕ) → Gate
gate_of e = cond (by_values e) (chamfer.gate e) (cond (eqb e 1) exact.gate (scan.gate (eqb e 2)))

-- pixel p of the engine's kind of map passes a cutter of q: it is unlabelled, or its size passes the engine's gate
unfoldable pub passes_at : (engine : ℕ) → Maps → (p q : ℕ) → Bool
passes_at e m p q = unlabelled_in e m p || passes (gate_of e) (size_in e m p) q

-- the pixel under the cutter does
abbrev pub may_stand : Cutter → Maps → Bool
may_stand c m = passes_at c.engine m (index c.width c.x c.y) c.q

-- ---- a run

-- it leaves the sheet: one of its steps, taken one after another, ends at no pixel
unfoldable pub leaves_sheet : Cutter → (direction count : ℕ) → Bool
leaves_sheet c d n = any_below n (λ i. not (is_pixel c.width c.height (walk d (i + 1) (pos c.x, pos c.y))))

-- the cutter after n steps
abbrev pub cutter_after : (direction n : ℕ) → Cutter → Cutter
cutter_after d n c = record { width = c.width; height = c.height; engine = c.engine; x = column_after d n c.x; y = row_after d n c.y; q = c.q }

-- some pixel after the start does not pass the cutter
unfoldable pub blocked : Cutter → Maps → (direction count : ℕ) → Bool
blocked c m d n = any_below n (λ i. not (may_stand (cutter_after d (i + 1) c) m))

-- ---- what the functions say to each other

-- what a look has to know of an engine and of q: the kind of map, what its gate multiplies a size by, and the product that it compares that with
pub record IsSight (r : Sight) (engine q : ℕ) : Type 0 where
  pub kind : r.values ≡ by_values engine
  pub times : r.times ≡ (gate_of engine).den
  pub few : r.times ≤ 144
  pub limit : r.limit ≡ (gate_of engine).num * q

-- a map of the sheet by the cutter's engine, and the cutter on it
pub record On (c : Cutter) (m : Maps) : Type 0 where
  pub held : has_pixels c.engine (c.height * c.width) m ≡ true
  pub across : c.x < c.width
  pub down : c.y < c.height

-- the start and the end of a run on the sheet
pub record OnSheet (c : Cutter) (m : Maps) (direction n : ℕ) : Type 0 where
  pub known : direction ≤ 7
  pub start : On c m
  pub end : On (cutter_after direction n c) m
