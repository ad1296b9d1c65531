-- `skeleton::Source::keep_rows` meets its contract. The invariant: the rows before row y are written, a and b are the bands of row y − 1 and of row y.
use Prim.Native.Nat.{◌-◌}
use Rattle.skeleton.specs.Bands.{Turning}
use Rattle.skeleton.proofs.Source.keep_rows.Given as goal

abbrev pub invariant-loop-y : goal.invariant-loop-y
invariant-loop-y l = Turning l.self.map.now l.self.w l.self.h l.y l.out l.a l.b l.c

abbrev pub decreases-loop-y : goal.decreases-loop-y
decreases-loop-y l = l.self.h - l.y
