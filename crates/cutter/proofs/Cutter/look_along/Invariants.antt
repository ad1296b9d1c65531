-- `cutter::Cutter::look_along` meets its contract. The invariant: the flag and the closest approach are those of the first i steps.
use mathlib.Core.Path.{◌≡◌}
use Prim.Native.Nat.{◌≤◌}
use Rattle.cutter.specs.Lent.{held_by}
use Rattle.cutter.specs.Directions.{direction_number}
use Rattle.cutter.specs.Gates.{blocked}
use Rattle.cutter.specs.Closest.{closest_along}
use Rattle.cutter.proofs.Cutter.look_along.Given as goal

abbrev pub invariant-loop-i : goal.invariant-loop-i
invariant-loop-i l =
    let m = held_by l.maps in
    (l.blocked ≡ blocked l.self m (direction_number l.direction) l.i) × ((l.closest ≡ closest_along l.self m (direction_number l.direction) l.i l.initial.closest) × (l.i ≤ l.count))
