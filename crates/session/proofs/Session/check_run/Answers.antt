-- `session::Session::check_run` meets its contract: the tests before the last two say that the cutter stands on the sheet, and with the last but one that the
-- run stays on it.
use mathlib.Core.Path.{◌≡◌, sym, ◌∙◌}
use mathlib.Core.Bool.{true}
use borrow.Author.Tests.{not-false}
use Rattle.raster.specs.Tests.{and_right}
use Rattle.cutter.specs.Lent.{held_by}
use Rattle.cutter.proofs.Walk.{on_sheet_by}
use Rattle.session.specs.declared.Session.{Session}
use Rattle.session.specs.State.{active, own_cutter}
use Rattle.session.proofs.Granted.{Lowered, lowered_says}
use Rattle.session.proofs.Session.check_run.Goals as goal

down_says : (s : Session) → active s ≡ true → s.lowered ≡ true → Lowered s
down_says s is down = lowered_says s (and_right s.opened _ is) down

pub leaves_sheet-requires : goal.leaves_sheet-requires
leaves_sheet-requires c =
    let active = rw c.is_active.ensures at c.if-not-is_active.false in
    let cutter = down_says c.args.self active (not-false _ c.if-not-self.false) in
    rw c.own_cutter-own.ensures (cutter.across, cutter.down)

pub look_along-requires : goal.look_along-requires
look_along-requires c =
    let a = c.args in
    let active = rw c.is_active.ensures at c.if-not-is_active.false in
    let cutter = down_says a.self active (not-false _ c.if-not-self.false) in
    let held = sym c.is_map_by.ensures ∙ c.if-not-is_map_by.false in
    let inside = rw c.own_cutter-own.ensures at (sym c.leaves_sheet.ensures ∙ c.if-leaves_sheet.false) in
    rw c.own_cutter-own.ensures (on_sheet_by (own_cutter a.self) c.in_ok-way.way a.count (held_by a.maps) cutter.across cutter.down held inside)
