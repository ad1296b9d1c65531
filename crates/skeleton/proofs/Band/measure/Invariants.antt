-- `skeleton::Band::measure` meets its contract. The invariant: the first x columns are measured.
use Rattle.skeleton.specs.Bands.{Measured}
use Rattle.skeleton.proofs.Band.measure.Given as goal

abbrev pub invariant-loop-x : goal.invariant-loop-x
invariant-loop-x l = Measured l.map l.base l.w l.x l.self
