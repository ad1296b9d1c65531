-- `rebuild::Marked::pass` meets its contract. The invariant: the first t rows are marked, and the columns say what those rows cover.
use mathlib.Core.Bool.{not}
use lib.Dec.{eqb}
use Rattle.rebuild.proofs.Passing.{Passing}
use Rattle.rebuild.proofs.Marked.pass.Given as goal

abbrev pub invariant-loop-t : goal.invariant-loop-t
invariant-loop-t g l = Passing l.self.map.now l.self.w l.self.h l.self.marks.now (not (eqb g.row.UP 0)) l.initial.out l.t l.out l.reach
