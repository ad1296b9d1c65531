-- `skeleton::Source::fill` meets its contract: a row of the sheet is measured and looked up, the band of any other is blank.
use Prim.Native.Nat.{◌+◌}
use native.Mathlib.Omega.{arith}
use borrow.Author.Tests.{le-leb, lt-leb}
use Rattle.skeleton.proofs.Bands.{band_looked_up, band_blank}
use Rattle.skeleton.proofs.Source.fill.Goals as goal

pub returns-then-y-self : goal.returns-then-y-self
returns-then-y-self c = band_looked_up c.measure.ensures c.look_up.ensures c.if-y-self.true

pub returns-else-y-self : goal.returns-else-y-self
returns-else-y-self c =
    let s = c.args.self.now in band_blank c.new.ensures (rw (le-leb 1 (c.args.y + 1) (omega arith), lt-leb (c.args.y + 1) s.h (omega arith)))
