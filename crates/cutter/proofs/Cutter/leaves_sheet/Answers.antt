-- `cutter::Cutter::leaves_sheet` meets its contract: the two sides' tests are those of the single steps.
use Rattle.cutter.proofs.Signs.{leaving}
use Rattle.cutter.proofs.Walk.{leaves_sheet_by}
use Rattle.cutter.proofs.Cutter.leaves_sheet.Goals as goal

pub returns : goal.returns
returns c =
    rw (
      leaving _ _ _ c.step_right.type_inv c.step_right.ensures c.leaves_side-across.ensures,
      leaving _ _ _ c.step_down.type_inv c.step_down.ensures c.leaves_side-down.ensures,
    )
    (leaves_sheet_by c.args.self c.args.direction c.args.n c.requires.0 c.requires.1)
