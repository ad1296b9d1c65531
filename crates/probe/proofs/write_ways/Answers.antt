use mathlib.Core.Path.{ap₂, ◌∙◌}
use native.Mathlib.Omega.{arith}
use mir.Syntax.{w16}
use mir.Val.{SFits}
use mir.ValLaws.{to_z-of_z}
use Rattle.raster.proofs.Writing.{write_none, write_more}
use Rattle.columns.specs.Column.{shorter}
use Rattle.probe.proofs.write_ways.Goals as goal

pub loop-x-init : goal.loop-x-init
loop-x-init c = write_none _ _

pub loop-x-preserved : goal.loop-x-preserved
loop-x-preserved c =
    let f : SFits w16 c.shorter_of.result = record { sfits = c.shorter_of.type_inv } in
    let g : SFits w16 c.way_down.result = record { sfits = c.way_down.type_inv } in
    let k : SFits w16 c.way_up.result = record { sfits = c.way_up.type_inv } in
    let e = (simp (to_z-of_z, g, k) at c.shorter_of.ensures) ∙ ap₂ shorter c.way_up.ensures c.way_down.ensures in
    simp (to_z-of_z, f) (write_more _ _ c.loop-x.invariant (omega arith) e)
