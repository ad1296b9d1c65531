use Rattle.scan.proofs.Level.{right-row, swept_sheet, swept_level}
use Rattle.scan.proofs.sweep_row.Goals as goal

pub leftward-requires-clause-row : goal.leftward-requires-clause-row
leftward-requires-clause-row g c =
    let a = c.args in
    rw c.from_before.ensures.written (right-row a.w g.E.Neighbours.corners a.y a.before _ c.requires.row c.requires.rows)

pub returns-clause-on_sheet : goal.returns-clause-on_sheet
returns-clause-on_sheet g c =
    let a = c.args in
    rw (c.leftward.ensures, c.from_before.ensures.written) (swept_sheet a.w g.E.Neighbours.corners a.y a.before _ c.requires.row c.requires.rows)

pub returns-clause-level : goal.returns-clause-level
returns-clause-level g c =
    let a = c.args in
    rw (c.leftward.ensures, c.from_before.ensures.written) (swept_level a.w g.E.Neighbours.corners a.y a.before _ c.requires.row c.requires.rows)
