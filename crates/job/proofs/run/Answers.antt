-- `job::run` meets its contract: the four cases of its answer; the text is put_line's or run_all's.
use Rattle.std.specs.Prelude.{◌≡◌, List, [], ◌∷◌, ◌++◌, ℕ, ◌+◌, ◌/◌, ◌<◌, ◌≤◌, ltb, length}
use Rattle.std.proofs.Common.{refl, ap, ◌∙◌, arith, lt-ltb}
use Rattle.raster.specs.Refusal.{number_of}
use Rattle.raster.specs.Tests.{cond_ind}
use Rattle.cutter.specs.Kinds.{Maps}
use Rattle.records.specs.FormatLaws.{split_done, split_refused}
use Rattle.records.specs.Text.{decimal_digits, answer_line, Put}
use Rattle.records.specs.TextLaws.{put_front}
use Rattle.job.specs.Run.{text_of, printed, state_left}
use Rattle.job.specs.RunLaws.{no-room_to_refuse, not_split, no-room_to_run, run_whole}
use Rattle.job.proofs.run.Goals as goal

pub returns-then-out-lt5 : goal.returns-then-out-lt5
unfolding printed state_left
returns-then-out-lt5 c =
    let a = c.args in
    rw (no-room_to_refuse a.job.now a.out.now (split_refused a.job.now c.in-Err.ensures).0 c.if-out-lt5.true, c.number.ensures)
    (record { answered = refl; counted = refl; out_left = refl; sheet_left = refl; map_left = refl; values_left = refl; scratch_left = refl })

-- the line of a refused job has at most five bytes if its answer has two digits at the most
refused_fits : (a : ℕ) (out : List ℕ) → a < 100 → 5 ≤ length out → 0 + length (answer_line 0 a) ≤ length out
unfolding answer_line decimal_digits
refused_fits a out two room =
    rw (lt-ltb (a / 10) 10 (omega arith))
    (cond_ind (λ (d : List ℕ). 0 + length ((48 ∷ []) ++ ((32 ∷ []) ++ (d ++ (10 ∷ [])))) ≤ length out) (ltb a 10) (λ _. omega arith) (λ _. omega arith))

-- a line that was written, by another name of its answer
renumbered : {out after : List ℕ} {a b e : ℕ} → a ≡ b → Put out 0 (answer_line 0 a) e after → Put out 0 (answer_line 0 b) e after
renumbered same put = rw same at put

pub put_line-requires : goal.put_line-requires
put_line-requires c =
    let nineteen = c.number-answer.ensures ∙ ap number_of (split_refused c.args.job.now c.in-Err.ensures).1 in
    refused_fits _ _ (omega (arith, nineteen)) (omega (arith, c.if-out-lt5.false))

pub returns-in-Err : goal.returns-in-Err
unfolding printed text_of state_left
returns-in-Err c =
    let a = c.args in
    let refused = split_refused a.job.now c.in-Err.ensures in
    let nineteen = c.number-answer.ensures ∙ ap number_of refused.1 in
    let f = put_front (renumbered nineteen c.put_line.ensures) in
    rw (not_split a.job.now a.out.now refused.0 c.if-out-lt5.false, refused.0, nineteen)
    (record { answered = refl; counted = f.0; out_left = f.1; sheet_left = refl; map_left = refl; values_left = refl; scratch_left = refl })

pub returns-then-out-records : goal.returns-then-out-records
unfolding printed state_left
returns-then-out-records c =
    let a = c.args in
    let d = split_done a.job.now c.in-Ok.ensures in
    rw (no-room_to_run a.job.now a.out.now d.0 (omega (arith, d.1, c.if-out-records.true)), c.number-then-out-records.ensures)
    (record { answered = refl; counted = refl; out_left = refl; sheet_left = refl; map_left = refl; values_left = refl; scratch_left = refl })

pub run_all-requires : goal.run_all-requires
run_all-requires c =
    let d = split_done c.args.job.now c.in-Ok.ensures in
    (d.0, omega (arith, d.1, c.if-out-records.false))

pub returns : goal.returns
unfolding printed text_of state_left
returns c =
    let a = c.args in
    let d = split_done a.job.now c.in-Ok.ensures in
    let f = put_front c.run_all.ensures.text in
    let l = c.run_all.ensures.buffers in
    rw (run_whole a.job.now a.out.now d.0 (omega (arith, d.1, c.if-out-records.false)), d.0)
    (record {
      answered = refl;
      counted = f.0;
      out_left = f.1;
      sheet_left = l.sheet_left;
      map_left = ap (λ (m : Maps). m.pairs) l.maps_left;
      values_left = ap (λ (m : Maps). m.values) l.maps_left;
      scratch_left = l.scratch_left;
    })
