-- `session::Session::try_fill` meets its contract: what the check lets through has what fill_rectangle requires.
use mathlib.Core.Path.{refl}
use Rattle.session.proofs.Granted.{fill_granted}
use Rattle.session.proofs.Session.try_fill.Goals as goal

pub fill_rectangle-requires : goal.fill_rectangle-requires
fill_rectangle-requires c = let g = fill_granted _ _ _ _ _ _ c.in_ok-check_fill.ensures refl in (g.held, (g.across, g.down))
