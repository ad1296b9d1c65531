-- The bands start blank, as that of the row above the first is.
use mathlib.Core.Path.{refl}
use native.Mathlib.Omega.{arith}
use Rattle.skeleton.proofs.Bands.{blank_framed, band_blank}
use Rattle.skeleton.proofs.Turning.{turn-none, turn-all}
use Rattle.skeleton.proofs.Source.keep_rows.Goals as goal

pub fill-requires : goal.fill-requires
fill-requires c = blank_framed c.new-b.ensures

pub loop-y-init : goal.loop-y-init
loop-y-init c = turn-none c.requires (band_blank c.new-a.ensures refl) c.fill.ensures (blank_framed c.new-c.ensures)

pub returns : goal.returns
returns c = turn-all c.loop-y.invariant (omega arith)

pub returns-2 : goal.returns-2
returns-2 c = turn-all c.turn-in-loop-y-2.ensures (omega arith)
