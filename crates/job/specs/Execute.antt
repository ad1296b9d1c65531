-- What the functions below `run` promise each other: a record executed in the lent parts of the buffers, and a job some records in.
-- Assumes nothing.
use Rattle.std.specs.Prelude.{List, ◌++◌, true, ◌≡◌, ℕ, ◌+◌, ◌-◌, ◌*◌, ◌≤◌, ℤ, length, take, drop}
use Rattle.cutter.specs.Kinds.{Maps}
use Rattle.records.specs.declared.Record.{Record}
use Rattle.records.specs.Format.{splits, records_in, records_of}
use Rattle.records.specs.Text.{text_from}
use Rattle.job.specs.Run.{JobState, sheet_buffer, map_buffers, answer_of, stepped, calls_of, state_after, answers_of, report_of}

-- a record was answered with a, and left the state as `next`
pub record Executed (o : Record) (b : JobState) (a : ℕ) (next : JobState) : Type 0 where
  pub answer : a ≡ answer_of o b
  pub left : next ≡ stepped o b

-- ---- a job

-- so many records in: those of the rest of the bytes, from here, do what all of them do from the start
pub record JobRunning (job : List ℕ) (start : JobState) (empty : List ℕ) (i : ℕ) (rest : List ℕ) (end : ℕ) (b : JobState) (out : List ℕ) : Type 0 where
  pub splitting : splits (length job - i) rest ≡ true
  pub state : state_after (records_in (length job - i) rest) b ≡ state_after (records_of job) start
  pub text :
      take end out ++ text_from (i + 1) (answers_of (calls_of (records_in (length job - i) rest) b) b.world)
      ≡ report_of (records_of job) start
  pub back : drop end out ≡ drop end empty
  pub count : i + length (records_in (length job - i) rest) ≡ length (records_of job)
  pub begun : i + length rest ≤ length job
  pub short : end ≤ 9 * i

-- the buffers are those of the state
pub record Buffers (b : JobState) (sheet : List ℕ) (m : Maps) (scratch : List ℤ) : Type 0 where
  pub sheet_left : sheet ≡ sheet_buffer b
  pub maps_left : m ≡ map_buffers b
  pub scratch_left : scratch ≡ b.scratch
