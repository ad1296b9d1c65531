-- `envelope::hull` meets its contract. The invariant: the hull of the sites below k stands (`Hulled`). The measure is what is left of n.
use Prim.Native.Nat.{◌-◌}
use Rattle.envelope.proofs.Turns.{Hulled}
use Rattle.envelope.proofs.hull.Given as goal

abbrev pub invariant-loop-k : goal.invariant-loop-k
invariant-loop-k l = Hulled l.cost l.n l.k l.site l.count l.top

abbrev pub decreases-loop-k : goal.decreases-loop-k
decreases-loop-k l = l.n - l.k
