-- `probe::Reading::turn_to` meets its contract: the ways lead to the nearest copper of each column, and the row is solved by them (`row_exact`).
use native.Mathlib.Omega.{arith}
use lib.IntN.{pos}
use Rattle.raster.specs.PixelsLaws.{tabulate-at}
use Rattle.probe.proofs.Solving.{row_exact, worked_row}
use Rattle.probe.proofs.Reading.turn_to.Goals as goal

pub returns-clause-worked : goal.returns-clause-worked
returns-clause-worked c =
    let s = c.args.sheet.now in
    worked_row c.pass_rows.ensures (record { at = λ x l. (c.look_down.ensures.at x l).upcoming })
    (row_exact c.write_ways.new.ways s.sides.0 s.sides.1 c.requires.y_on_sheet.1.0 c.pass_rows.ensures c.look_down.ensures
    (λ x l. rw c.write_ways.ensures (tabulate-at _ _ x (pos 0) (omega arith))) c.solve_parts.ensures)
