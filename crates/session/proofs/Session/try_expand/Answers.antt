-- `session::Session::try_expand` meets its contract: what the check lets through has what morphology's expand requires.
use mathlib.Core.Path.{refl}
use Rattle.session.proofs.Granted.{resize_granted, resize_requires}
use Rattle.session.proofs.Session.try_expand.Goals as goal

pub expand-requires : goal.expand-requires
expand-requires c =
    let r = resize_requires (resize_granted _ _ _ _ _ c.in_ok-check_resize.ensures refl) in record { w_bound = r.0; sheet_len = r.1 }
