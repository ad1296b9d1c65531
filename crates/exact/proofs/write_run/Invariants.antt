-- `exact::write_run` meets its contract. The invariant: the pixels from `from` to x − 1 go to column s, the rest of the map is as it was.
use Rattle.exact.specs.Rows.{Written}
use Rattle.exact.proofs.write_run.Given as goal

abbrev pub invariant-loop-x : goal.invariant-loop-x
invariant-loop-x l = Written l.base l.from l.x (λ b. l.v) (λ z. l.s) l.initial.map l.map
