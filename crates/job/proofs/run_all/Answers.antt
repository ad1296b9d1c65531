use Rattle.std.proofs.Common.{length-drop, arith}
use Rattle.cutter.specs.Kinds.{maps}
use Rattle.records.specs.FormatLaws.{rest_is, size_fits, whole_is, broken_is}
use Rattle.job.specs.RunLaws.{job_limit, running_start, running_line, running_room, running_turn, running_end, running_left, buffers}
use Rattle.job.proofs.run_all.Goals as goal

pub loop-record-init : goal.loop-record-init
loop-record-init c = rw c.fresh.ensures (record { running = running_start _ _ _ c.requires.0; within = omega arith })

pub overflow_add-i : goal.overflow_add-i
overflow_add-i c = omega (arith, c.loop-record.invariant.running.begun, job_limit c.args.job.now c.requires.0)

pub put_line-end-requires : goal.put_line-end-requires
put_line-end-requires c =
    let l = c.loop-record in
    let found = whole_is l.rest.now c.in-Some.ensures in
    let line = running_line l.invariant.running found.1 found.2 c.requires.0 c.execute-answer.ensures.executed in
    running_room l.invariant.running found.1 found.2 (rw l.auto.out c.requires.1) line

pub slice_bounds-rest-count : goal.slice_bounds-rest-count
slice_bounds-rest-count c =
    let l = c.loop-record in
    let found = whole_is l.rest.now c.in-Some.ensures in
    omega (arith, found.1, size_fits l.rest.now)

pub slice_bounds-rest-start : goal.slice_bounds-rest-start
slice_bounds-rest-start c = let fits = slice_bounds-rest-count c in omega (arith, fits)

pub loop-record-smaller : goal.loop-record-smaller
loop-record-smaller c =
    let l = c.loop-record in
    let found = whole_is l.rest.now c.in-Some.ensures in
    rw rest_is (omega (arith, found.1, size_fits l.rest.now, found.2, length-drop c.in-Some.length l.rest.now))

pub loop-record-preserved : goal.loop-record-preserved
loop-record-preserved c =
    let l = c.loop-record in
    let done = c.execute-answer.ensures in
    let found = whole_is l.rest.now c.in-Some.ensures in
    let line = running_line l.invariant.running found.1 found.2 c.requires.0 done.executed in
    rw rest_is
    (record {
      running = running_turn l.invariant.running found.1 found.2 (rw (← found.0) done.executed) c.put_line-end.ensures line;
      within = done.within;
    })

pub returns-clause-text : goal.returns-clause-text
returns-clause-text c =
    let l = c.loop-record in
    running_end l.invariant.running (broken_is l.rest.now c.in_default.ensures) (rw l.auto.out c.requires.1)

pub returns-clause-buffers : goal.returns-clause-buffers
returns-clause-buffers c =
    let l = c.loop-record in
    buffers l.running.session l.running.pixels l.sheet (maps l.map l.values) l.scratch
    (running_left l.invariant.running (broken_is l.rest.now c.in_default.ensures))
