-- `raster::size_at` meets its contract: two squares of what is read are at most 2^31, and that of two marks alone.
use borrow.Author.Rules.{rules}
use Rattle.raster.proofs.Signed.{size_most, unlabelled-by_size}
use Rattle.raster.proofs.size_at.Goals as goal

pub returns : goal.returns
returns c = search (rules, size_most, unlabelled-by_size)
