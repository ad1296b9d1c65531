-- The pixels below x have had what they take, `last` is what the one to the left of x holds, and `keys` has their keys.
use mathlib.Core.Bool.{false}
use Rattle.scan.proofs.Fused.{Passing}
use Rattle.scan.proofs.FourSedNeighbours.from_labelled.Given as goal

abbrev pub invariant-loop-x : goal.invariant-loop-x
invariant-loop-x l = Passing l.w false l.y l.before l.o l.initial.map l.x l.last l.map l.keys.of
