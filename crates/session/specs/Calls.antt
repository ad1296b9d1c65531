-- What each call leaves: document 01, "Calls", and document 02, C-11, C-12 and C-19. A call that answers 0 does what is said here; any other leaves the session and
-- every slice as they came.
-- Assumes nothing.
use Rattle.std.specs.Prelude.{Bool, cond, ◌&&◌, List, [], ℕ, ◌*◌, ltb, ℤ, length, take, drop}
use Rattle.raster.specs.Sheet.{copper_of, filled}
use Rattle.exact.specs.Nearest.{scratch_left}
use Rattle.probe.specs.Points.{distances_at, rows_among}
use Rattle.cutter.specs.Kinds.{Maps}
use Rattle.cutter.specs.Closest.{unmet, closest_at, closest_along}
use Rattle.cutter.specs.Directions.{column_after, row_after}
use Rattle.session.specs.declared.Session.{Session}
use Rattle.session.specs.State.{fresh, sound, active, down_at, up_of, cutter_of, own_cutter}
use Rattle.session.specs.Refusals.{is_map}

-- paint and erase: v is 1 or 0
abbrev pub filled_by : Session → (x y cols rows v : ℕ) → List ℕ → List ℕ
filled_by s x y cols rows v sheet = filled s.width s.height x y cols rows v sheet

-- scratch after exact on the session's sheet
abbrev pub scratch_by : Session → List ℤ → List ℤ
scratch_by s scratch = scratch_left s.width scratch

-- place: the cutter is down, and has met that pixel alone
abbrev pub place_session : Session → Maps → (x y q : ℕ) → Session
place_session s m x y q = down_at x y q (closest_at (cutter_of s x y q) m unmet) s

-- run: the cutter is down where its steps end, and has met the pixels on the way too
abbrev pub run_session : Session → Maps → (direction count : ℕ) → Session
run_session s m d n = down_at (column_after d n s.x) (row_after d n s.y) s.q (closest_along (own_cutter s) m d n s.closest) s

-- lift: done also if the cutter was up; the closest approach stays. A session that is not sound becomes a fresh one
abbrev pub lift_session : Session → Session
lift_session s = cond (sound s) (up_of s) fresh

-- probe: the answers, one a point, and the number of different rows; the session stays as it came
abbrev pub distances_by : Session → (sheet points out : List ℕ) → List ℕ
distances_by s sheet points out = distances_at (copper_of sheet s.width) s.width s.height (length out) points

abbrev pub rows_by : Session → (points out : List ℕ) → ℕ
rows_by s points out = rows_among s.height (length out) points

-- map row y: the part of the map that holds it; an empty part with nothing open, y not below H, or a map of a wrong length
abbrev pub has_row : Session → List ℤ → (y : ℕ) → Bool
has_row s map y = active s && (ltb y s.height && is_map s map)

abbrev pub map_row : Session → List ℤ → (y : ℕ) → List ℤ
map_row s map y = cond (has_row s map y) (take (2 * s.width) (drop (2 * (y * s.width)) map)) []
