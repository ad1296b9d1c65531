-- `chamfer::Draft::weights` meets its contract: the table is the definition's.
use Prim.Native.Nat.{◌-◌, ◌≤◌}
use native.Mathlib.Omega.{arith}
use mathlib.Core.Path.{◌∙◌}
use Rattle.chamfer.specs.declared.engines.Draft.{Draft}
use Rattle.chamfer.specs.declared.engines.Draft.TheVariants.{CityBlock, Chessboard, Chamfer}
use Rattle.chamfer.specs.Drafts.{engine_of}
use Rattle.chamfer.proofs.Weights.{read, read_is}
use Rattle.chamfer.proofs.engines.Draft.weights.Goals as goal

row_there : (d : Draft) → engine_of d - 4 ≤ 2
row_there CityBlock = omega arith
row_there Chessboard = omega arith
row_there Chamfer = omega arith

pub returns-clause-side : goal.returns-clause-side
unfolding read
returns-clause-side c =
    let number = c.from.ensures ∙ c.number.ensures in
    (rw number at c.new.ensures.0) ∙ (read_is (engine_of c.args.self - 4) (row_there c.args.self)).0

pub returns-clause-corner : goal.returns-clause-corner
unfolding read
returns-clause-corner c =
    let number = c.from.ensures ∙ c.number.ensures in
    (rw number at c.new.ensures.1) ∙ (read_is (engine_of c.args.self - 4) (row_there c.args.self)).1
