-- The first p pixels have their seeds, the rest of the map is as it was.
use mathlib.Core.Path.{◌≡◌}
use Rattle.scan.proofs.Sowing.{sown}
use Rattle.scan.proofs.write_seeds.Given as goal

abbrev pub invariant-loop-p : goal.invariant-loop-p
invariant-loop-p l = l.map ≡ sown l.p l.sheet l.initial.map
