-- `probe::Sheet::pass_row` meets its contract. The invariant: the first x numbers are written, the rest are as they were.
use Prim.Native.Nat.{◌+◌}
use lib.ListN.{get_or}
use Rattle.raster.specs.Rows.{RowWritten}
use Rattle.probe.specs.Rows.{last_with}
use Rattle.probe.proofs.Sheet.pass_row.Given as goal

abbrev pub invariant-loop-x : goal.invariant-loop-x
invariant-loop-x l = RowWritten 0 l.x (λ z. last_with (get_or l.self.bytes.now (l.base + z) 0) l.n (get_or l.initial.above z 0)) l.initial.above l.above
