use mathlib.Core.Path.{sym, ◌∙◌}
use native.Mathlib.Omega.{arith}
use lib.IntN.{pos}
use mir.Syntax.{w8, w16}
use mir.Val.{SFits}
use mir.ValLaws.{to_z-of_z}
use borrow.Author.Rules.{rules}
use lib.ListN.{get_or}
use Rattle.raster.specs.PixelsLaws.{tabulate-map}
use Rattle.raster.proofs.Writing.{write_none, write_more, write_all}
use Rattle.storage.specs.Stored.{from_byte}
use Rattle.storage.proofs.write_pairs.Goals as goal

pub loop-i-init : goal.loop-i-init
loop-i-init c = write_none _ _

pub loop-i-preserved : goal.loop-i-preserved
loop-i-preserved c =
    let f : SFits w8 (get_or c.args.bytes.now c.loop-i.i (pos 0)) = search rules in
    let g : SFits w16 c.from_byte.result = record { sfits = c.from_byte.type_inv } in
    write_more _ _ c.loop-i.invariant (omega arith) (simp (to_z-of_z, g) (simp (to_z-of_z, f) at c.from_byte.ensures))

pub returns : goal.returns
returns c = write_all _ _ c.loop-i.invariant (omega arith) ∙ rw c.requires (sym (tabulate-map from_byte c.args.bytes.now (pos 0)))
