-- `columns::pass_up` meets its contract. The invariant: the rows from y on hold the shorter ways, and `below` the ways downwards of row y.
use Rattle.std.proofs.Common.{◌-◌, pos, negsuc, get_or, replicate}
use Rattle.raster.specs.Pixels.{index}
use Rattle.columns.specs.Column.{shorter}
use Rattle.columns.specs.Passes.{copper_ways}
use Rattle.columns.proofs.Passes.{Pass}
use Rattle.columns.proofs.pass_up.Given as goal

abbrev pub invariant-loop-y : goal.invariant-loop-y
invariant-loop-y l =
    Pass l.w l.h (λ t. l.h - 1 - t) (copper_ways l.initial.ways l.w) (λ x y. shorter (get_or l.initial.ways (index l.w x y) (pos 0))) l.initial.ways (replicate 2048 (negsuc 0)) (l.h - l.y) l.ways l.below
