-- What a list of calls is about: document 01, "Lists of calls". The calls with their numbers and slices, what each answers, and what it leaves: the
-- definitions that the contracts of `Session` cite.
-- Assumes nothing.
use Rattle.std.specs.Prelude.{Bool, true, false, cond, ◌&&◌, List, [], ◌∷◌, ℕ, eqb, ℤ}
use Rattle.std.proofs.Math.Option.{Option, none, some}
use Rattle.raster.specs.Map.{unmapped}
use Rattle.raster.specs.Refusal.{Table, first_of, on_done}
use Rattle.raster.specs.Sheet.{bare}
use Rattle.morphology.specs.Resize.{expanded, shrunk}
use Rattle.cutter.specs.Kinds.{Maps, maps}
use Rattle.session.specs.declared.Session.{Session}
use Rattle.session.specs.State.{opened_as, stale, built_by}
use Rattle.session.specs.Maps.{maps_built}
use Rattle.session.specs.Refusals.{open_table, fill_table, build_table, place_table, run_table, resize_table, skeleton_table, rebuild_table, probe_table}
use Rattle.session.specs.Calls.{filled_by, scratch_by, place_session, run_session, lift_session}

-- ---- the calls

-- the sheet and maps that an opening may come with
pub record Lent : Type 0 where
  pub sheet : List ℕ
  pub maps : Maps

-- a call: its numbers, and the slices that only it is lent
pub data Call : Type 0 where
  opening : (w h : ℕ) (other : Option Lent) → Call
  paint : (x y cols rows : ℕ) → Call
  erase : (x y cols rows : ℕ) → Call
  build : (engine : ℕ) (scratch : List ℤ) → Call
  place : (x y q : ℕ) → Call
  run : (direction count : ℕ) → Call
  lift : Call
  expand : (q : ℕ) (scratch : List ℤ) → Call
  shrink : (q : ℕ) (scratch : List ℤ) → Call
  skeleton : (out : List ℕ) → Call
  rebuild : (marks out : List ℕ) → Call
  probe : (points : List ℕ) (scratch : List ℤ) (out : List ℕ) → Call
  -- map row, radius, splitting or storing a map, which write neither sheet nor map and hand back no session
  aside : Call

-- what the calls of a list hand on
pub record World : Type 0 where
  pub session : Session
  pub sheet : List ℕ
  pub maps : Maps

abbrev pub world : Session → List ℕ → Maps → World
world s sheet m = record { session = s; sheet = sheet; maps = m }

-- ---- what each answers

-- the sheet and maps that an opening works on: those it comes with, or the list's
abbrev pub lent_to : Option Lent → World → Lent
lent_to none w = record { sheet = w.sheet; maps = w.maps }
lent_to (some l) w = l

abbrev pub table_of : Call → World → Table
table_of (opening a b o) w = open_table (lent_to o w).sheet a b
table_of (paint x y c r) w = fill_table w.session w.sheet x y c r
table_of (erase x y c r) w = fill_table w.session w.sheet x y c r
table_of (build e scratch) w = build_table w.session w.sheet w.maps scratch e
table_of (place x y q) w = place_table w.session w.maps x y q
table_of (run d n) w = run_table w.session w.maps d n
table_of (expand q scratch) w = resize_table w.session w.sheet w.maps.pairs scratch q
table_of (shrink q scratch) w = resize_table w.session w.sheet w.maps.pairs scratch q
table_of (skeleton out) w = skeleton_table w.session w.maps.pairs out
table_of (rebuild marks out) w = rebuild_table w.session w.maps.pairs marks out
table_of (probe points scratch out) w = probe_table w.session w.sheet points scratch out
table_of lift w = []
table_of aside w = []

abbrev pub answer : Call → World → ℕ
answer c w = first_of (table_of c w)

-- ---- what each leaves

-- a call that writes the sheet, refused or done; expand and shrink leave the pairs unlabelled too
abbrev pub with_sheet : (answer : ℕ) → List ℕ → World → World
with_sheet a sheet w = on_done a (world (stale w.session) sheet w.maps) w

abbrev pub resized : (answer : ℕ) → List ℕ → World → World
resized a sheet w = on_done a (world (stale w.session) sheet (maps (unmapped w.maps.pairs) w.maps.values)) w

-- a call that changes the session alone
abbrev pub with_session : (answer : ℕ) → Session → World → World
with_session a s w = on_done a (world s w.sheet w.maps) w

-- what a call leaves when it gave the answer a
abbrev pub left : Call → (a : ℕ) → World → World
left (opening x y o) a w = on_done a (world (opened_as x y) (bare (lent_to o w).sheet) (lent_to o w).maps) w
left (paint x y c r) a w = with_sheet a (filled_by w.session x y c r 1 w.sheet) w
left (erase x y c r) a w = with_sheet a (filled_by w.session x y c r 0 w.sheet) w
left (build e scratch) a w = on_done a (world (built_by e w.session) w.sheet (maps_built w.session w.sheet e w.maps)) w
left (place x y q) a w = with_session a (place_session w.session w.maps x y q) w
left (run d n) a w = with_session a (run_session w.session w.maps d n) w
left lift a w = with_session a (lift_session w.session) w
left (expand q scratch) a w = resized a (expanded w.session.width w.session.height q w.sheet) w
left (shrink q scratch) a w = resized a (shrunk w.session.width w.session.height q w.sheet) w
left (skeleton out) a w = w
left (rebuild marks out) a w = w
left (probe points scratch out) a w = w
left aside a w = w

-- what a call leaves
abbrev pub world_after : Call → World → World
world_after c w = left c (answer c w) w

-- it writes the scratch that it is lent: exact does, also within expand and shrink, and probe
abbrev pub writes_scratch : Call → Bool
writes_scratch (opening a b o) = false
writes_scratch (paint x y c r) = false
writes_scratch (erase x y c r) = false
writes_scratch (build e scratch) = eqb e 1
writes_scratch (place x y q) = false
writes_scratch (run d n) = false
writes_scratch lift = false
writes_scratch (expand q scratch) = true
writes_scratch (shrink q scratch) = true
writes_scratch (skeleton out) = false
writes_scratch (rebuild marks out) = false
writes_scratch (probe points scratch out) = true
writes_scratch aside = false

-- what it leaves in scratch
abbrev pub scratch_after : Call → List ℤ → World → List ℤ
scratch_after c scratch w = cond (eqb (answer c w) 0 && writes_scratch c) (scratch_by w.session scratch) scratch

-- what a list of calls leaves
abbrev pub left_by : List Call → World → World
left_by [] w = w
left_by (c ∷ cs) w = left_by cs (world_after c w)
