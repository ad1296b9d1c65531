-- `morphology::Threshold::write_run` meets its contract. The invariant: the pixels before p are written.
use Prim.Native.Nat.{◌+◌, ◌-◌, ◌≤◌}
use Rattle.raster.specs.Rows.{RowWritten}
use Rattle.morphology.specs.Threshold.{level_at}
use Rattle.morphology.proofs.Threshold.write_run.Given as goal

abbrev pub invariant-loop-p : goal.invariant-loop-p
invariant-loop-p l = RowWritten l.from (l.p - l.from) (λ i. level_at l.map l.self.q l.self.within (l.from + i)) l.initial.sheet l.sheet × (l.p - l.from ≤ l.to - l.from)
