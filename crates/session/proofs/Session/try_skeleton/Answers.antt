-- `session::Session::try_skeleton` meets its contract: what the check lets through has what the skeleton requires.
use mathlib.Core.Path.{refl}
use borrow.Author.Tests.{eqb-true, not-false}
use Rattle.session.specs.Refusals.{not_sheet}
use Rattle.session.proofs.Granted.{active-limits, read_granted}
use Rattle.session.proofs.Session.try_skeleton.Goals as goal

pub skeleton-requires : goal.skeleton-requires
skeleton-requires c =
    let s = c.args.self in
    let done = rw c.pixels.ensures at c.in_ok-check_read.ensures in
    let g = read_granted s c.args.map.now (not_sheet s c.args.out.now) done refl in
    let limits = active-limits s g.open_sheet in record { w_bound = (limits.wide, limits.high); map_len = (g.held, eqb-true _ _ (not-false _ g.right)) }
