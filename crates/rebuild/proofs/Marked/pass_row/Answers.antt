-- `rebuild::Marked::pass_row` meets its contract: the columns are raised by the envelope of the row's costs and the row is marked (`row_passed`).
use native.Mathlib.Omega.{arith}
use borrow.Author.Tests.{eq-eqb, ne_eqb}
use Rattle.rebuild.proofs.Passing.{row_passed}
use Rattle.rebuild.proofs.Marked.pass_row.Goals as goal
use Rattle.rebuild.proofs.Marked.pass_row.Goals.{then-this-ne0, else-this-ne0}

pub returns-clause-raised : goal.returns-clause-raised
returns-clause-raised g c =
    (row_passed _ _ _ _ _ c.if-this-ne0.y
    (elim c.if-this-ne0.branch [ then-this-ne0 w ↦ rw (ne_eqb g.row.UP 0 w.if-this-ne0.true) w.y-is | else-this-ne0 w ↦ rw (eq-eqb g.row.UP 0 w.if-this-ne0.false) w.y-is ])
    (omega arith) (rw c.build-count.ensures.costs_kept c.price_row.ensures) c.build-count.ensures.built c.raise_row.ensures c.mark_row.ensures).0
