-- `skeleton::Differences::new` meets its contract: all entries of both tables pass the test, which antt computes here.
use mathlib.Core.Path.{refl}
use Rattle.raster.specs.Distance.{gap}
use Rattle.raster.specs.Loop.{any_below}
use Rattle.skeleton.specs.Table.{g, least}
use Rattle.skeleton.proofs.Tables.{listed}
use Rattle.skeleton.proofs.Differences.new.Goals as goal

pub invariant_of-result : goal.invariant_of-result
unfolding any_below g least gap
invariant_of-result c = record { sides_listed = listed refl refl; corners_listed = listed refl refl }
