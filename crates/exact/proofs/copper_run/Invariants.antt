-- `exact::copper_run` meets its contract: it ends where eight columns are copper, or with the row. The measure is what is left of the row.
use Prim.Native.Nat.{◌-◌}
use Rattle.exact.proofs.copper_run.Given as goal

abbrev pub decreases-loop-x : goal.decreases-loop-x
decreases-loop-x l = l.w - l.x
