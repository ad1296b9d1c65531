use mathlib.Core.Path.{refl}
use native.Mathlib.Omega.{arith}
use borrow.Author.Rules.{rules}
use Rattle.envelope.proofs.Turns.{hulled_none, hulled_skip, hulled_bare}
use Rattle.envelope.proofs.hull.Goals as goal

pub loop-k-preserved : goal.loop-k-preserved
loop-k-preserved c =
    let l = c.loop-k in
    let m = c.requires.0 in
    let r = c.skipped-k.ensures in
    hulled_bare (hulled_skip l.invariant m (omega arith) refl c.if-cost-k-lt4294967295.false) m _ r.0 r.1.0 r.1.1

pub loop-k-init : goal.loop-k-init
loop-k-init c = search (rules, hulled_none)
