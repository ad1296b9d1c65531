-- `skeleton::Source::turn` meets its contract: its bands tell of each pixel of the row whether it is kept; past the last row there is nothing to do.
use Rattle.skeleton.proofs.Turning.{turn_more}
use Rattle.skeleton.proofs.Source.turn.Goals as goal

pub returns-then-y-self : goal.returns-then-y-self
returns-then-y-self c = turn_more c.requires c.if-y-self.true c.fill.ensures c.keep_row.ensures
