-- `session::Session::try_run` meets its contract: what the check lets through ends on the sheet.
use mathlib.Core.Path.{sym}
use Rattle.cutter.specs.Lent.{held_by}
use Rattle.session.proofs.Granted.{run_done}
use Rattle.session.proofs.Session.try_run.Goals as goal

pub after-end-requires : goal.after-end-requires
after-end-requires c =
    let a = c.args in
    let passed = c.in_ok-way.ensures in
    let end = (run_done a.self (held_by a.maps) a.direction a.count (sym passed.answered)).0.on.end in
    rw (c.own_cutter.ensures, passed.named) (end.across, end.down)
