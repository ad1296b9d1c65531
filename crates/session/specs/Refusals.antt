-- The tables of refusals: document 01, its two tables of numbers and the order under them, and document 02, C-12 and C-19. Each call has one table, 30 first, then
-- ascending. Its answer is the first number whose condition holds, or 0 (`first_of`).
-- Assumes nothing.
use Rattle.std.specs.Prelude.{Bool, not, ◌&&◌, ◌||◌, List, [], ◌∷◌, ◌++◌, ℕ, ◌+◌, ◌*◌, eqb, leb, ltb, ℤ, length}
use Rattle.raster.specs.Limits.{side, max_q, max_count}
use Rattle.raster.specs.Map.{has_copper}
use Rattle.raster.specs.Refusal.{Table}
use Rattle.exact.specs.Nearest.{scratch_need}
use Rattle.probe.specs.Points.{point_off, rows_fall}
use Rattle.cutter.specs.Kinds.{Maps, has_pixels}
use Rattle.cutter.specs.Gates.{known_engine, may_stand, leaves_sheet, blocked}
use Rattle.session.specs.declared.Session.{Session}
use Rattle.session.specs.State.{active, cutter_of, own_cutter}

-- a slice of two numbers a pixel
abbrev pub is_map : Session → List ℤ → Bool
is_map s map = eqb (length map) (2 * (s.height * s.width))

-- a slice of other than one byte a pixel; of other than two numbers a pixel; scratch of too few numbers
abbrev pub not_sheet : Session → List ℕ → Bool
not_sheet s sheet = not (eqb (length sheet) (s.height * s.width))

abbrev pub not_map : Session → List ℤ → Bool
not_map s map = not (is_map s map)

-- a map of other than the session's pixels, of the kind that the engine writes
abbrev pub not_map_by : (engine : ℕ) → Session → Maps → Bool
not_map_by e s m = not (has_pixels e (s.height * s.width) m)

abbrev pub short_scratch : Session → List ℤ → Bool
short_scratch s scratch = ltb (length scratch) (scratch_need s.width)

unfoldable pub open_table : List ℕ → (w h : ℕ) → Table
open_table sheet w h = (not (side w && side h), 11) ∷ (not (eqb (length sheet) (h * w)), 12) ∷ []

-- paint and erase
unfoldable pub fill_table : Session → List ℕ → (x y cols rows : ℕ) → Table
fill_table s sheet x y cols rows =
    (not (active s), 30)
    ∷ (not_sheet s sheet, 12)
    ∷ ((eqb cols 0 || eqb rows 0) || (ltb s.width (x + cols) || ltb s.height (y + rows)), 13)
    ∷ []

-- expand and shrink; `short` says that scratch has too few numbers
unfoldable pub resize_table_by : (short : Bool) → Session → List ℕ → List ℤ → (q : ℕ) → Table
resize_table_by short s sheet map q =
    (not (active s), 30)
    ∷ (not_sheet s sheet || (not_map s map || short), 12)
    ∷ (ltb max_q q, 15)
    ∷ []

unfoldable pub resize_table : Session → List ℕ → (map scratch : List ℤ) → (q : ℕ) → Table
resize_table s sheet map scratch q = resize_table_by (short_scratch s scratch) s sheet map q

-- skeleton and rebuild: on a current exact map that has copper; `wrong` says that another lent slice is not one byte a pixel
unfoldable pub read_table : Session → List ℤ → (wrong : Bool) → Table
read_table s map wrong =
    (not (active s), 30)
    ∷ (not_map s map || wrong, 12)
    ∷ (not s.current, 31)
    ∷ (not (eqb s.engine 1), 36)
    ∷ (not (has_copper (s.height * s.width) map), 37)
    ∷ []

abbrev pub skeleton_table : Session → List ℤ → (out : List ℕ) → Table
skeleton_table s map out = read_table s map (not_sheet s out)

abbrev pub rebuild_table : Session → List ℤ → (marks out : List ℕ) → Table
rebuild_table s map marks out = read_table s map (not_sheet s marks || not_sheet s out)

-- probe; the list must be twice as long as the slice for the answers, so it is not of odd length
unfoldable pub probe_table : Session → (sheet points : List ℕ) (scratch : List ℤ) (out : List ℕ) → Table
probe_table s sheet points scratch out =
    (not (active s), 30)
    ∷ (not_sheet s sheet || (short_scratch s scratch || not (eqb (length points) (2 * length out))), 12)
    ∷ (point_off s.width s.height (length out) points, 16)
    ∷ (rows_fall (length out) points, 43)
    ∷ []

-- build; only engine 1 asks for scratch
unfoldable pub build_table_by : (short : Bool) → Session → List ℕ → Maps → (engine : ℕ) → Table
build_table_by short s sheet m e =
    (not (active s), 30)
    ∷ (not_sheet s sheet || (not_map_by e s m || (eqb e 1 && short)), 12)
    ∷ (not (known_engine e), 14)
    ∷ []

unfoldable pub build_table : Session → List ℕ → Maps → (scratch : List ℤ) → (engine : ℕ) → Table
build_table s sheet m scratch e = build_table_by (short_scratch s scratch) s sheet m e

-- ---- place and run: the rows that look at numbers and lengths alone, then one that looks at pixels, which those before it let be read

unfoldable pub place_rows : Session → Maps → (x y q : ℕ) → Table
place_rows s m x y q =
    (not (active s), 30)
    ∷ (not_map_by s.engine s m, 12)
    ∷ (ltb max_q q, 15)
    ∷ (leb s.width x || leb s.height y, 16)
    ∷ (not s.current, 31)
    ∷ []

unfoldable pub place_table : Session → Maps → (x y q : ℕ) → Table
place_table s m x y q = place_rows s m x y q ++ ((not (may_stand (cutter_of s x y q) m), 34) ∷ [])

unfoldable pub run_rows : Session → Maps → (direction count : ℕ) → Table
run_rows s m d n =
    (not (active s), 30)
    ∷ (not_map_by s.engine s m, 12)
    ∷ (ltb 7 d || not (leb 1 n && leb n max_count), 17)
    ∷ (not s.lowered, 32)
    ∷ (leaves_sheet (own_cutter s) d n, 33)
    ∷ []

unfoldable pub run_table : Session → Maps → (direction count : ℕ) → Table
run_table s m d n = run_rows s m d n ++ ((blocked (own_cutter s) m d n, 34) ∷ [])
