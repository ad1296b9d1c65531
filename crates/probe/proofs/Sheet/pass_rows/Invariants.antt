-- `probe::Sheet::pass_rows` meets its contract. The invariant: the first y rows are passed.
use Rattle.raster.specs.Sheet.{copper_of}
use Rattle.probe.specs.Rows.{LastAboves}
use Rattle.probe.proofs.Sheet.pass_rows.Given as goal

abbrev pub invariant-loop-y : goal.invariant-loop-y
invariant-loop-y l = LastAboves (copper_of l.self.bytes.now l.self.w) l.self.w l.y l.above
