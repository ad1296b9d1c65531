-- `columns::pass_down` meets its contract. The invariant: the first y rows hold the ways upwards, and `above` those of the row above row y.
use Rattle.std.proofs.Common.{negsuc, replicate}
use Rattle.raster.specs.Sheet.{copper_of}
use Rattle.columns.proofs.Passes.{Pass}
use Rattle.columns.proofs.pass_down.Given as goal

abbrev pub invariant-loop-y : goal.invariant-loop-y
invariant-loop-y l = Pass l.w l.h (λ t. t) (copper_of l.sheet l.w) (λ x y v. v) l.initial.ways (replicate 2048 (negsuc 0)) l.y l.ways l.above
