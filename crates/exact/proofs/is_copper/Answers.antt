use mir.Syntax.{w16}
use mir.Val.{SFits}
use lib.IntN.{pos}
use lib.ListN.{get_or}
use Prim.Native.Nat.{◌+◌, ◌-◌, ◌<◌}
use borrow.Author.Rules.{rules}
use Rattle.exact.specs.Rows.{part}
use Rattle.exact.proofs.Split.{copper-none, copper-more}
use Rattle.exact.proofs.is_copper.Goals as goal

pub loop-v-init : goal.loop-v-init
loop-v-init c = copper-none _ _

pub loop-v-preserved : goal.loop-v-preserved
loop-v-preserved c =
    let l = c.loop-v in
    let f : SFits w16 (get_or (part c.args.x (c.args.x + 8) c.args.ways.now) l.v-index (pos 0)) = search rules in
    let i : l.v-index < c.args.x + 8 - c.args.x = search rules in
    copper-more c.args.ways.now c.args.x l.v-index i f l.invariant
