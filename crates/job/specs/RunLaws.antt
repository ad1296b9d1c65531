-- Laws of a job that is running: how large an answer gets, and the loop over the records: its start, a turn, its end.
-- Assumes nothing.
use Rattle.std.specs.Prelude.{◌≡◌, refl, true, false, ℕ, suc, ◌+◌, ◌-◌, ◌*◌, ◌<◌, ◌≤◌, leb, ltb, ℤ, drop, None}
use Rattle.std.proofs.Math.Path.{sym, ap}
use Rattle.std.proofs.Common.{◌∙◌, arith, length-drop, take-append-drop}
use Rattle.std.proofs.lemmas.Bool.{false≢true}
use Rattle.std.proofs.Math.Decide.{dec_le}
use mathlib.Core.List.{List, [], ◌∷◌, append_assoc, append-nil}
use Rattle.std.proofs.Math.ListN.{length, take}
use Rattle.std.proofs.Math.Seq.{length-take-le, drop-drop}
use borrow.Author.Tests.{lt-ltb, le-ltb, ltb-true, leb-true}
use Rattle.raster.specs.Refusal.{first_of}
use Rattle.raster.specs.RefusalLaws.{every, first-every}
use Rattle.raster.specs.Tests.{and_left, and_right}
use Rattle.cutter.specs.Kinds.{Maps}
use Rattle.session.specs.declared.Session.{Session}
use Rattle.session.specs.Refusals.{open_table, fill_table, build_table, build_table_by, place_rows, place_table, run_rows, run_table, resize_table, resize_table_by, read_table, probe_table}
use Rattle.session.specs.Lists as calls
use Rattle.session.specs.Lists.{World, table_of, answer, left_by}
use Rattle.records.specs.declared.Record.{Record}
use Rattle.records.specs.Format.{length_here, record_here, read_here, records_in, is_job, records_of}
use Rattle.records.specs.FormatLaws.{size_fits, splits-turn, records_turn, splits-not, records_end, broken_is}
use Rattle.records.specs.Text.{answer_line, text_from, Put}
use Rattle.records.specs.TextLaws.{nine_bytes}
use Rattle.job.specs.ExecuteLaws.{maps_again}
use Rattle.job.specs.Run.{JobState, job_state, call_of, calls_of, state_after, answers_of, report_of, stepped, room_for, ran_answer}
use Rattle.job.specs.Execute.{Executed, Buffers, JobRunning}

-- ---- no answer has more than two digits

small : (c : calls.Call) (w : World) → every (λ n. ltb n 100) (table_of c w) ≡ true
unfolding open_table fill_table build_table build_table_by place_rows place_table run_rows run_table resize_table resize_table_by read_table probe_table
small (calls.opening a b o) w = refl
small (calls.paint x y c r) w = refl
small (calls.erase x y c r) w = refl
small (calls.build e s) w = refl
small (calls.place x y q) w = refl
small (calls.run d n) w = refl
small calls.lift w = refl
small (calls.expand q s) w = refl
small (calls.shrink q s) w = refl
small (calls.skeleton o) w = refl
small (calls.rebuild m o) w = refl
small (calls.probe p s o) w = refl
small calls.aside w = refl

pub two_digits : (c : calls.Call) (w : World) → answer c w < 100
two_digits c w = ltb-true (answer c w) 100 (first-every (λ n. ltb n 100) (table_of c w) refl (small c w))

-- ---- the loop

pub job_limit : (job : List ℕ) → is_job job ≡ true → length job ≤ 65536
unfolding is_job
job_limit job is = leb-true (length job) 65536 (and_left (leb (length job) 65536) _ is)

pub running_start : (job : List ℕ) (start : JobState) (out : List ℕ) → is_job job ≡ true → JobRunning job start out 0 job 0 start out
unfolding is_job records_of report_of
running_start job start out is =
    let z : length job - 0 ≡ length job = omega arith in record {
      splitting = rw z (and_right (leb (length job) 65536) _ is);
      state = rw z;
      text = rw z;
      back = refl;
      count = rw z (omega arith);
      begun = omega arith;
      short = omega arith;
    }

module _ {job : List ℕ} {start : JobState} {empty : List ℕ} {i : ℕ} {rest : List ℕ} {end : ℕ} {b : JobState} {out : List ℕ} (r : JobRunning job start empty i rest end b out) where
  module _ {size : ℕ} (is : size ≡ length_here rest) (some : 0 < size) where
    more : 0 < length rest
    more = omega (arith, size_fits rest, is, some)

    fewer : length job - i ≡ suc (length job - (i + 1))
    fewer = omega (arith, r.begun, more)

    turn : records_in (length job - i) rest ≡ record_here rest ∷ records_in (length job - (i + 1)) (drop size rest)
    turn = records_turn (length job - i) (length job - (i + 1)) rest fewer is more

    -- its line has at most nine bytes
    pub running_line : {o : Record} {a : ℕ} {next : JobState} → is_job job ≡ true → Executed o b a next → length (answer_line (i + 1) a) ≤ 9
    running_line {o} {a} is_one ob =
        nine_bytes (i + 1) a (omega (arith, job_limit job is_one, r.begun, more)) (omega (arith, ob.answer, two_digits (call_of o b) b.world))

    -- the next line has its room
    pub running_room : {text : ℕ} → 9 * length (records_of job) ≤ length out → text ≤ 9 → end + text ≤ length out
    running_room fits short = omega (arith, r.count, ap length turn, r.short, fits, short)

    pub running_turn : {a e : ℕ} {next : JobState} {written : List ℕ}
        → Executed (record_here rest) b a next → Put out end (answer_line (i + 1) a) e written → length (answer_line (i + 1) a) ≤ 9
        → JobRunning job start empty (i + 1) (drop size rest) e next written
    unfolding calls_of state_after answers_of text_from
    running_turn {a} {e} {next} {written} ob p short =
        record {
          splitting = sym (splits-turn (length job - i) (length job - (i + 1)) rest fewer is more (λ z. omega (arith, some, z))) ∙ r.splitting;
          state = rw ob.left (rw turn at r.state);
          text = rw (p.front, append_assoc, ob.left, ob.answer) (rw turn at r.text);
          back =
              let n : e ≡ end + length (answer_line (i + 1) a) = p.ends in
              p.back ∙ rw n (sym (drop-drop (length (answer_line (i + 1) a)) end out) ∙ ap (drop (length (answer_line (i + 1) a))) r.back ∙ drop-drop (length (answer_line (i + 1) a)) end empty);
          count = omega (arith, r.count, ap length turn);
          begun = omega (arith, r.begun, some, is, size_fits rest, length-drop size rest);
          short = omega (arith, p.ends, r.short);
        }

  -- no record stands there only at the end
  module _ (none : length_here rest ≡ 0) where
    at_end : length rest ≡ 0
    at_end = elim (dec_le 1 (length rest)) [
      | yes more ↦ absurd (false≢true (sym (splits-not (length job - i) (length job - (i + 1)) rest (omega (arith, r.begun)) refl more none) ∙ r.splitting))
      | no end ↦ omega arith
    ]

    none_left : records_in (length job - i) rest ≡ []
    none_left = records_end (length job - i) rest at_end

    pub running_end : 9 * length (records_of job) ≤ length out → Put empty 0 (report_of (records_of job) start) end out
    unfolding calls_of answers_of text_from
    running_end fits =
        let t : take end out ≡ report_of (records_of job) start = sym (append-nil (take end out)) ∙ (rw none_left at r.text) in
        let within : end ≤ length out = omega (arith, r.short, r.count, fits) in record {
          ends = omega (arith, length-take-le end out within, ap length t);
          front = t;
          back = r.back;
        }

    pub running_left : b ≡ state_after (records_of job) start
    unfolding state_after
    running_left = rw none_left at r.state

  -- where bytes are left, a record stands there, and ends within them
  pub running_size : {size : ℕ} → 0 < length rest → size ≡ length_here rest → (1 ≤ size) × (size ≤ length rest)
  running_size {size} more is = (
    elim (dec_le 1 size) [
      | yes some ↦ some
      | no none ↦ let end : length rest ≡ 0 = at_end (omega (arith, is, none)) in absurd (omega (arith, more, end))
    ],
    omega (arith, size_fits rest, is),
  )

  pub running_whole : 0 < length rest → None ≡ read_here rest → ⊥
  running_whole more e = let end : length rest ≡ 0 = at_end (broken_is rest e) in absurd (omega (arith, more, end))

-- the buffers that a session works on
pub buffers : {t : JobState} (s : Session) (n : ℕ) (sheet : List ℕ) (m : Maps) (scratch : List ℤ) → job_state s n sheet m scratch ≡ t → Buffers t sheet m scratch
buffers s n sheet m scratch e = record {
  sheet_left = rw (← e) (sym (take-append-drop n sheet));
  maps_left = rw (← e) (sym (maps_again n m));
  scratch_left = rw (← e);
}

-- ---- the answer of a job, in each of the four cases

module _ (job out : List ℕ) where
  pub no-room_to_refuse : is_job job ≡ false → length out < 5 → ran_answer job out ≡ 12
  unfolding ran_answer room_for first_of
  no-room_to_refuse is h = rw (is, lt-ltb (length out) 5 h)

  pub not_split : is_job job ≡ false → 5 ≤ length out → ran_answer job out ≡ 19
  unfolding ran_answer room_for first_of
  not_split is h = rw (is, le-ltb (length out) 5 h)

  pub no-room_to_run : is_job job ≡ true → length out < 9 * length (records_of job) → ran_answer job out ≡ 12
  unfolding ran_answer room_for first_of
  no-room_to_run is h = rw (is, lt-ltb (length out) (9 * length (records_of job)) h)

  pub run_whole : is_job job ≡ true → 9 * length (records_of job) ≤ length out → ran_answer job out ≡ 0
  unfolding ran_answer room_for first_of
  run_whole is h = rw (is, le-ltb (length out) (9 * length (records_of job)) h)

-- the theorem: what the records leave is what the list of their calls leaves, of which demand 3 speaks
pub calls_leave : (os : List Record) (b : JobState) → (state_after os b).world ≡ left_by (calls_of os b) b.world
unfolding state_after calls_of
calls_leave [] b = refl
calls_leave (o ∷ rest) b = calls_leave rest (stepped o b)
