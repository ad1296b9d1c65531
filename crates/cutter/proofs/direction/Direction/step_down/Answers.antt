-- `cutter::direction::Direction::step_down` meets its contract: the table is the definition's.
use Rattle.cutter.proofs.Signs.{direction_known, read, read_is}
use Rattle.cutter.proofs.direction.Direction.step_down.Goals as goal

pub returns : goal.returns
unfolding read
returns c = rw c.number.ensures.0 (read_is _ (direction_known c.args.self)).1
