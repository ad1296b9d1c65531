-- The session: document 01, "Sheet, map, session", and document 02, C-11 and C-12. Which sessions are sound, and the few ways in which a session changes.
-- Assumes nothing.
use Rattle.std.specs.Prelude.{Bool, true, false, not, cond, ◌&&◌, ℕ, eqb, leb, ltb}
use Rattle.raster.specs.Limits.{side, max_q}
use Rattle.cutter.specs.declared.Closest.{Closest}
use Rattle.cutter.specs.declared.Cutter.{Cutter}
use Rattle.cutter.specs.Closest.{unmet}
use Rattle.cutter.specs.Gates.{known_engine}
use Rattle.session.specs.declared.Session.{Session}

-- both sides within their limits where a sheet is open; nothing recorded where none is
unfoldable pub sheet_sound : Session → Bool
sheet_sound s = cond s.opened (side s.width && side s.height) (eqb s.width 0 && (eqb s.height 0 && not s.current))

-- the map is current by a known engine, or not by none
unfoldable pub map_sound : Session → Bool
map_sound s = cond s.current (known_engine s.engine) (eqb s.engine 0)

-- the cutter is up with nothing recorded, or down on the sheet over a current map
unfoldable pub cutter_sound : Session → Bool
cutter_sound s =
    cond s.lowered
    (s.current && ((ltb s.x s.width && ltb s.y s.height) && leb s.q max_q))
    (eqb s.x 0 && (eqb s.y 0 && eqb s.q 0))

-- a closest approach is recorded over a current map, of whatever size, or none is
unfoldable pub closest_sound : Session → Bool
closest_sound s = cond s.closest.met s.current (eqb s.closest.size 0)

-- some call could hand it back, or one that differs from it in the size of the closest approach alone
unfoldable pub sound : Session → Bool
sound s = sheet_sound s && (map_sound s && (cutter_sound s && closest_sound s))

-- a sheet is open: a session that is not sound counts as nothing open
abbrev pub active : Session → Bool
active s = s.opened && sound s

-- ---- how a session changes

-- all that it records
abbrev pub recorded : (opened : Bool) (w h : ℕ) (current : Bool) (engine : ℕ) (lowered : Bool) (x y q : ℕ) (closest : Closest) → Session
recorded o w h c e l x y q k = record { opened = o; width = w; height = h; current = c; engine = e; lowered = l; x = x; y = y; q = q; closest = k }

-- sheet, map and closest approach as said, the cutter up
abbrev pub cutter_up : (opened : Bool) (w h : ℕ) (current : Bool) (engine : ℕ) (closest : Closest) → Session
cutter_up o w h c e k = recorded o w h c e false 0 0 0 k

-- nothing open, map not current, cutter up
abbrev pub fresh : Session
fresh = cutter_up false 0 0 false 0 unmet

-- a sheet of w × h is opened; the map is not current
abbrev pub opened_as : (w h : ℕ) → Session
opened_as w h = cutter_up true w h false 0 unmet

-- the map is not current any more
abbrev pub stale : Session → Session
stale s = opened_as s.width s.height

-- the map is current, built by an engine
abbrev pub built_by : (engine : ℕ) → Session → Session
built_by e s = cutter_up true s.width s.height true e unmet

-- the cutter is down at (x, y) with q, and has come that close; sheet and map as they were
abbrev pub down_at : (x y q : ℕ) (closest : Closest) → Session → Session
down_at x y q k s = recorded s.opened s.width s.height s.current s.engine true x y q k

-- it is up, all else as it was
abbrev pub up_of : Session → Session
up_of s = cutter_up s.opened s.width s.height s.current s.engine s.closest

-- ---- the cutter over the session's map

-- one of q at the pixel (x, y)
abbrev pub cutter_of : Session → (x y q : ℕ) → Cutter
cutter_of s x y q = record { width = s.width; height = s.height; engine = s.engine; x = x; y = y; q = q }

-- the one that is down
abbrev pub own_cutter : Session → Cutter
own_cutter s = cutter_of s s.x s.y s.q
