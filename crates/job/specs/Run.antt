-- Running a job: document 01, "Job file" and "Lists of calls", and document 02, C-12. Which list of calls the records mean, what is printed of it and what it
-- leaves in the lent buffers. Answers and effects of a call are those of `session`.
-- Assumes nothing.
use Rattle.std.specs.Prelude.{List, [], ◌∷◌, ◌++◌, cond, not, ℕ, ◌*◌, eqb, ltb, ℤ, length, take, drop}
use Rattle.std.proofs.Math.Option.{some}
use Rattle.raster.specs.Refusal.{first_of, on_done}
use Rattle.cutter.specs.Kinds.{Maps, maps}
use Rattle.session.specs.declared.Session.{Session}
use Rattle.session.specs.State.{fresh}
use Rattle.session.specs.Lists as calls
use Rattle.session.specs.Lists.{World, world, answer, world_after, scratch_after}
use Rattle.records.specs.declared.Record.{Record}
use Rattle.records.specs.declared.Record.TheVariants.{Open, Paint, Erase, Build, Place, Run, Lift, Expand, Shrink}
use Rattle.records.specs.Format.{is_job, records_of}
use Rattle.records.specs.Text.{answer_line, text_from}

-- ---- the buffers of a job: of a sheet of n pixels n bytes are lent, 2 × n numbers of the pairs and n of the values

-- that part of both maps, what is behind it, and both together
abbrev pub maps_up_to : (n : ℕ) → Maps → Maps
maps_up_to n m = maps (take (2 * n) m.pairs) (take n m.values)

abbrev pub maps_behind : (n : ℕ) → Maps → Maps
maps_behind n m = maps (drop (2 * n) m.pairs) (drop n m.values)

abbrev pub maps_whole : Maps → Maps → Maps
maps_whole m rest = maps (m.pairs ++ rest.pairs) (m.values ++ rest.values)

-- the sheet and map buffers behind the parts that are lent
pub record Behind : Type 0 where
  pub sheet : List ℕ
  pub maps : Maps

-- what a job is run on: the world of its list of calls, the rest of the buffers, and the scratch buffer, which is lent whole
pub record JobState : Type 0 where
  pub world : World
  pub behind : Behind
  pub scratch : List ℤ

-- a session with buffers of which the parts of a sheet of n pixels are lent
abbrev pub job_state : Session → (n : ℕ) → List ℕ → Maps → (scratch : List ℤ) → JobState
job_state s n sheet m scratch =
    record { world = world s (take n sheet) (maps_up_to n m); behind = record { sheet = drop n sheet; maps = maps_behind n m }; scratch = scratch }

-- the whole buffers
abbrev pub sheet_buffer : JobState → List ℕ
sheet_buffer b = b.world.sheet ++ b.behind.sheet

abbrev pub map_buffers : JobState → Maps
map_buffers b = maps_whole b.world.maps b.behind.maps

-- the call that a record means: an opening comes with the parts of a sheet of w × h pixels, or with the whole of a shorter buffer
abbrev pub call_of : Record → JobState → calls.Call
call_of (Open w h) b = calls.opening w h (some (record { sheet = take (h * w) (sheet_buffer b); maps = maps_up_to (h * w) (map_buffers b) }))
call_of (Paint x y c r) b = calls.paint x y c r
call_of (Erase x y c r) b = calls.erase x y c r
call_of (Build e) b = calls.build e b.scratch
call_of (Place x y q) b = calls.place x y q
call_of (Run d n) b = calls.run d n
call_of Lift b = calls.lift
call_of (Expand q) b = calls.expand q b.scratch
call_of (Shrink q) b = calls.shrink q b.scratch

-- behind the lent parts, after a record with its answer: an opening that is done takes other parts
abbrev pub behind_after : Record → (answer : ℕ) → JobState → Behind
behind_after (Open w h) a b = on_done a (record { sheet = drop (h * w) (sheet_buffer b); maps = maps_behind (h * w) (map_buffers b) }) b.behind
behind_after (Paint x y c r) a b = b.behind
behind_after (Erase x y c r) a b = b.behind
behind_after (Build e) a b = b.behind
behind_after (Place x y q) a b = b.behind
behind_after (Run d n) a b = b.behind
behind_after Lift a b = b.behind
behind_after (Expand q) a b = b.behind
behind_after (Shrink q) a b = b.behind

-- what a record answers
abbrev pub answer_of : Record → JobState → ℕ
answer_of o b = answer (call_of o b) b.world

-- what it leaves
abbrev pub stepped : Record → JobState → JobState
stepped o b =
    record {
      world = world_after (call_of o b) b.world;
      behind = behind_after o (answer_of o b) b;
      scratch = scratch_after (call_of o b) b.scratch b.world;
    }

-- ---- a list of records

-- the calls that they mean, each on what those before it leave
unfoldable pub calls_of : List Record → JobState → List calls.Call
calls_of [] b = []
calls_of (o ∷ rest) b = call_of o b ∷ calls_of rest (stepped o b)

-- what they leave
unfoldable pub state_after : List Record → JobState → JobState
state_after [] b = b
state_after (o ∷ rest) b = state_after rest (stepped o b)

-- the answers of a list of calls
unfoldable pub answers_of : List calls.Call → World → List ℕ
answers_of [] w = []
answers_of (c ∷ rest) w = answer c w ∷ answers_of rest (world_after c w)

-- ---- a job, from a fresh session

-- nothing of the buffers is lent yet
abbrev pub start_state : List ℕ → Maps → (scratch : List ℤ) → JobState
start_state sheet m scratch = job_state fresh 0 sheet m scratch

-- the lines of its records, numbered from 1
unfoldable pub report_of : List Record → JobState → List ℕ
report_of os b = text_from 1 (answers_of (calls_of os b) b.world)

-- the text that the program prints: a job that does not split is `0 19` alone
unfoldable pub text_of : List ℕ → JobState → List ℕ
text_of job b = cond (is_job job) (report_of (records_of job) b) (answer_line 0 19)

-- the room that its text may need: nine bytes a record, or five
unfoldable pub room_for : List ℕ → ℕ
room_for job = cond (is_job job) (9 * length (records_of job)) 5

-- 12 if the text may not fit, 19 if the job does not split; neither runs anything
unfoldable pub ran_answer : (job out : List ℕ) → ℕ
ran_answer job out = first_of ((ltb (length out) (room_for job), 12) ∷ (not (is_job job), 19) ∷ [])

-- the text stands at the front of the output buffer, unless it may not fit
unfoldable pub printed : (job : List ℕ) → JobState → (out : List ℕ) → List ℕ
printed job b out = cond (eqb (ran_answer job out) 12) [] (text_of job b)

-- what is left in the buffers
unfoldable pub state_left : (job out : List ℕ) → JobState → JobState
state_left job out b = on_done (ran_answer job out) (state_after (records_of job) b) b
