-- `exact::solve_row` meets its contract: the row's ways are copied, and it is written by its parts (`row_solved`).
use lib.IntN.{pos}
use Rattle.exact.proofs.Prices.{tabulated, row_solved}
use Rattle.exact.proofs.solve_row.Goals as goal

pub returns : goal.returns
returns c =
    let p = c.copy_row in
    row_solved p.new.ways c.requires.1.0 (tabulated (pos 0) c.args.w _ _ _ p.ensures) c.solve_parts.ensures
