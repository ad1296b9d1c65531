-- `job::run_all` meets its contract: what the records that are left do from here is what all of them do from the start.
use Rattle.std.proofs.Common.{◌≤◌, length}
use Rattle.cutter.specs.Kinds.{maps}
use Rattle.job.specs.Run.{job_state, start_state}
use Rattle.job.specs.Execute.{JobRunning}
use Rattle.job.proofs.run_all.Given as goal

abbrev pub invariant-loop-record : goal.invariant-loop-record
invariant-loop-record l = record {
  running : JobRunning l.job (start_state l.initial.sheet (maps l.initial.map l.initial.values) l.initial.scratch) l.initial.out l.i l.rest l.end (job_state l.running.session l.running.pixels l.sheet (maps l.map l.values) l.scratch) l.out;
  within : l.running.pixels ≤ length l.sheet;
}

abbrev pub decreases-loop-record : goal.decreases-loop-record
decreases-loop-record l = length l.rest
