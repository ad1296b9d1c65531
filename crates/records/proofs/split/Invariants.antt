-- `records::split` meets its contract. The invariant: the bytes split exactly if the rest does, and have as many records more than the rest as were counted.
use Rattle.std.proofs.Common.{◌≡◌, ◌+◌, ◌-◌, ◌≤◌, length}
use Rattle.records.specs.Format.{splits, records_in}
use Rattle.records.proofs.split.Given as goal

abbrev pub invariant-loop-rest : goal.invariant-loop-rest
invariant-loop-rest l = record {
  splitting : splits (length l.job) l.job ≡ splits (length l.job - l.records) l.rest;
  counted : length (records_in (length l.job) l.job) ≡ l.records + length (records_in (length l.job - l.records) l.rest);
  left : l.records + length l.rest ≤ length l.job;
}

abbrev pub decreases-loop-rest : goal.decreases-loop-rest
decreases-loop-rest l = length l.rest
