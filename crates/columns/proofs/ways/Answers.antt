-- `columns::ways` meets its contract: both passes leave the shorter ways (`both-passes`).
use Rattle.raster.specs.Sheet.{copper_of}
use Rattle.columns.proofs.Passes.{both-passes}
use Rattle.columns.proofs.ways.Goals as goal

pub returns : goal.returns
returns c = both-passes (copper_of c.args.sheet.now c.args.w) c.pass_down.ensures c.pass_up.ensures
