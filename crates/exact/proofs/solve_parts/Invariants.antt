-- `exact::solve_parts` meets its contract. The invariant: the first `done` pixels of the row are written, and the next part starts with copper.
use Prim.Native.Nat.{◌-◌}
use Rattle.exact.proofs.Parts.{Parted}
use Rattle.exact.proofs.solve_parts.Given as goal

abbrev pub invariant-loop-done : goal.invariant-loop-done
invariant-loop-done l = Parted l.base l.w l.ways l.initial.map (l.done - 1) l.done l.map

abbrev pub decreases-loop-done : goal.decreases-loop-done
decreases-loop-done l = l.w - l.done
