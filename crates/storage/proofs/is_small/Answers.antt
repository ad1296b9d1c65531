-- `storage::is_small` meets its contract: the square of a number is below 128² exactly if the number is small.
use mathlib.Core.Path.{sym}
use mir.ValLaws.{to_z-of_z}
use Rattle.storage.specs.StoredLaws.{small-square}
use Rattle.storage.proofs.is_small.Goals as goal

pub returns : goal.returns
returns c = rw (simp (to_z-of_z, c.ranges.z) at c.magnitude-m.ensures) (sym (small-square c.args.z))
