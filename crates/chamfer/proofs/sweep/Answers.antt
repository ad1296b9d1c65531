-- `chamfer::sweep` meets its contract: a row that is not steep is as its sweep leaves it.
use mathlib.Core.Path.{sym, ◌∙◌}
use borrow.Author.Rules.{rules}
use borrow.Author.Tests.{eq-eqb, ne_eqb}
use Rattle.chamfer.proofs.Sweeps.{idle-right, idle-left}
use Rattle.chamfer.proofs.sweep.Goals as goal
use Rattle.chamfer.proofs.sweep.Goals.{then-this-ne0, else-this-ne0}

pub returns-else-steep : goal.returns-else-steep
returns-else-steep g c =
    let a = c.args in
    elim c.if-this-ne0.branch [
      | then-this-ne0 w ↦
          rw (ne_eqb g.row.RIGHT 0 w.if-this-ne0.true)
          (idle-right a.side a.base a.w a.values.now (search rules) c.keep_row.ensures (sym w.is_steep-steep.ensures ∙ sym w.steep-is ∙ c.if-steep.false))
      | else-this-ne0 w ↦
          rw (eq-eqb g.row.RIGHT 0 w.if-this-ne0.false)
          (idle-left a.side a.base a.w a.values.now (search rules) c.keep_row.ensures (sym w.is_steep-steep-else-this-ne0.ensures ∙ sym w.steep-is ∙ c.if-steep.false))
    ]
