use Rattle.std.proofs.Common.{rules}
use native.Mathlib.Omega.{arith}
use mathlib.Core.Path.{◌≡◌}
use lib.IntN.{pos}
use lib.ListN.{get_or}
use mir.Syntax.{w16}
use mir.Val.{SFits}
use mir.ValLaws.{to_z-of_z}
use Rattle.exact.specs.Rows.{costs_of}
use Rattle.raster.proofs.Writing.{write_none, write_more}
use Rattle.exact.proofs.price_row.Goals as goal

pub loop-k-init : goal.loop-k-init
loop-k-init c = write_none _ _

pub loop-k-preserved : goal.loop-k-preserved
loop-k-preserved c =
    let l = c.loop-k in
    let f : SFits w16 (get_or c.args.ways.now l.k (pos 0)) = search rules in
    write_more _ _ l.invariant (omega arith) (rw (to_z-of_z w16 _ f) at c.cost_of.ensures)

pub returns : goal.returns
unfolding costs_of
returns c = let l = c.loop-k in let e : l.k ≡ c.args.n = omega arith in rw e at l.invariant.made
