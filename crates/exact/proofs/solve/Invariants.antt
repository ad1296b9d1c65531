-- `exact::solve` meets its contract. The invariant: all rows from y on are worked out, and what stands before them is as it was.
use Rattle.exact.proofs.Solving.{SolvedFrom}
use Rattle.exact.proofs.solve.Given as goal

abbrev pub invariant-loop-y : goal.invariant-loop-y
invariant-loop-y l = SolvedFrom l.w l.h l.initial.map l.y l.map
