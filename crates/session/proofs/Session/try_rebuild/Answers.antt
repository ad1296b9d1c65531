-- `session::Session::try_rebuild` meets its contract: what the check lets through has what rebuilding requires.
use mathlib.Core.Path.{refl}
use mathlib.Core.Bool.{◌||◌}
use borrow.Author.Tests.{eqb-true, not-false}
use Rattle.raster.specs.Tests.{or_left, or_right}
use Rattle.session.specs.Refusals.{not_sheet}
use Rattle.session.proofs.Granted.{active-limits, read_granted}
use Rattle.session.proofs.Session.try_rebuild.Goals as goal

pub rebuild-requires : goal.rebuild-requires
rebuild-requires c =
    let s = c.args.self in
    let marks = not_sheet s c.args.marks.now in
    let done = rw c.pixels-n.ensures at c.in_ok-check_read.ensures in
    let g = read_granted s c.args.map.now (marks || not_sheet s c.args.out.now) done refl in
    let limits = active-limits s g.open_sheet in record {
      w_bound = (limits.wide, limits.high);
      map_len = (
        g.held,
        (eqb-true _ _ (not-false _ (or_left marks _ g.right)), eqb-true _ _ (not-false _ (or_right marks _ g.right))),
      );
    }
