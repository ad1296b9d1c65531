-- `skeleton::Band::look_up` meets its contract. The invariant: what the first x columns take off is written.
use Rattle.skeleton.specs.Bands.{LookedUp}
use Rattle.skeleton.proofs.Band.look_up.Given as goal

abbrev pub invariant-loop-x : goal.invariant-loop-x
invariant-loop-x l = LookedUp l.w l.x l.fn.self l.self
