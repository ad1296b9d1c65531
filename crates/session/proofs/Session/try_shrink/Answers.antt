-- `session::Session::try_shrink` meets its contract: what the check lets through has what morphology's shrink requires.
use mathlib.Core.Path.{refl}
use Rattle.session.proofs.Granted.{resize_granted, resize_requires}
use Rattle.session.proofs.Session.try_shrink.Goals as goal

pub shrink-requires : goal.shrink-requires
shrink-requires c =
    let r = resize_requires (resize_granted _ _ _ _ _ c.in_ok-check_resize.ensures refl) in record { w_bound = r.0; sheet_len = r.1 }
