-- The pixels below x have had what they take, `last` is what the one to the left of x holds, and `keys` has their keys. `left` and `mid` are the vectors of the
-- pixels x − 1 and x of the row before, after the step.
use mathlib.Core.Bool.{true}
use Prim.Native.Nat.{◌-◌}
use lib.Dec.{ltb}
use Rattle.raster.specs.Pixels.{index}
use Rattle.scan.proofs.Fused.{Passing}
use Rattle.scan.proofs.Window.{IfThere}
use Rattle.scan.proofs.EightSedNeighbours.from_labelled.Given as goal

abbrev pub invariant-loop-x : goal.invariant-loop-x
invariant-loop-x l = record {
  passing : Passing l.w true l.y l.before l.o l.initial.map l.x l.last l.map l.keys.of;
  behind : IfThere (ltb 0 l.x) l.o l.left l.map (index l.w (l.x - 1) l.before);
  beside : IfThere true l.o l.mid l.map (index l.w l.x l.before);
}
