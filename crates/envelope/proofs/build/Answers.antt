-- `envelope::build` meets its contract: the hull with its starts is the envelope (`hull_built`).
use native.Mathlib.Omega.{arith}
use Rattle.envelope.proofs.HullLaws.{hull_built}
use Rattle.envelope.proofs.build.Goals as goal

pub returns : goal.returns
returns c =
    let u = c.hull-count in
    let t = c.starts in
    hull_built c.args.cost.now c.args.n u.new.site u.result t.new.start t.result u.ensures t.ensures (omega (arith, c.requires.short))
