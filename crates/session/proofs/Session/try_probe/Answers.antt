-- `session::Session::try_probe` meets its contract: what the check lets through has what probe below requires.
use mathlib.Core.Path.{refl}
use Rattle.session.proofs.Granted.{active-limits, probe_granted}
use Rattle.session.proofs.Session.try_probe.Goals as goal

pub probe-requires : goal.probe-requires
probe-requires c =
    let g = probe_granted _ _ _ _ _ c.in_ok-check_probe.ensures refl in
    let l = active-limits c.args.self g.open_sheet in
    record { w_bound = (l.wide, l.high); sheet_len = (g.held, (g.spare, g.paired)); sorted = (g.on, g.level) }
