use mathlib.Core.Path.{sym, ◌∙◌}
use native.Mathlib.Omega.{arith}
use lib.IntN.{pos}
use lib.ListN.{get_or}
use borrow.Author.Rules.{rules}
use mir.Syntax.{w8, w16}
use mir.Val.{SFits}
use mir.ValLaws.{to_z-of_z}
use Rattle.raster.specs.PixelsLaws.{tabulate-map}
use Rattle.raster.proofs.Writing.{write_none, write_more, write_all}
use Rattle.storage.specs.Stored.{to_byte}
use Rattle.storage.proofs.write_bytes.Goals as goal

pub loop-i-init : goal.loop-i-init
loop-i-init c = write_none _ _

pub loop-i-preserved : goal.loop-i-preserved
loop-i-preserved c =
    let f : SFits w16 (get_or c.args.map.now c.loop-i.i (pos 0)) = search rules in
    let g : SFits w8 c.to_byte.result = record { sfits = c.to_byte.type_inv } in
    write_more _ _ c.loop-i.invariant (omega arith) (simp (to_z-of_z, g) (simp (to_z-of_z, f) at c.to_byte.ensures))

pub returns : goal.returns
returns c = write_all _ _ c.loop-i.invariant (omega arith) ∙ rw c.requires.0 (sym (tabulate-map to_byte c.args.map.now (pos 0)))
