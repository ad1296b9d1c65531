-- `exact::solve_part` meets its contract: the envelope is built of the part's costs, and the part is written by its holders.
use mathlib.Core.Path.{refl, sym, ◌∙◌}
use Rattle.exact.proofs.Prices.{priced-at, priced-best}
use Rattle.exact.proofs.Runs.{run_same}
use Rattle.exact.proofs.solve_part.Goals as goal

pub returns : goal.returns
returns c =
    let p = c.price_row in
    let n = c.args.n in
    run_same c.write_row.ensures
    (λ x i l. (priced-best c.args.ways.now p.new.cost n x c.requires.line.short (priced-at c.args.ways.now n _ _ p.ensures) ∙ sym (c.build-count.ensures.holds x l), refl))
