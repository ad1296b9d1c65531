-- `records::read` meets its contract: a length is that of a whole record of a known kind.
use Rattle.std.proofs.Common.{arith}
use Rattle.records.specs.FormatLaws.{here, some_is}
use Rattle.records.proofs.read.Goals as goal

pub record_here-requires : goal.record_here-requires
record_here-requires c = let some = some_is _ c.in_ok-length.ensures in here _ some.0 (λ none. omega (arith, some.1, none))
