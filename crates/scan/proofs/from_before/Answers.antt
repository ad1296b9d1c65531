-- A row before that is not labelled gives nothing, as its first pixel tells.
use mathlib.Core.Path.{◌≡◌, sym, ap, ◌∙◌}
use native.Mathlib.Nat.{add-zero}
use mir.Syntax.{w32}
use mir.Val.{to_z}
use Rattle.raster.specs.Pixels.{index}
use Rattle.raster.specs.Map.{unlabelled_at}
use Rattle.scan.specs.Scan.{rightward}
use Rattle.scan.specs.Rows.{entered}
use Rattle.scan.proofs.Rows.{from_row-nothing}
use Rattle.scan.proofs.from_before.Goals as goal
use Rattle.scan.proofs.from_before.Goals.{in_default-via-in-Some+else-not-unlabelled_at, in_default-via-in_default}

pub returns-in_default-clause-written : goal.returns-in_default-clause-written
returns-in_default-clause-written g c =
    let a = c.args in
    let o = to_z w32 g.row.O in
    let e : entered a.w g.E.Neighbours.corners a.y a.before o a.map.now ≡ a.map.now =
    elim c.in_default.branch [
      | in_default-via-in-Some+else-not-unlabelled_at w ↦
          let b = w.in-Some.b in
          let level = rw w.in-Some.is at c.requires.rows in
          let first : w.unlabelled_at.result ≡ unlabelled_at a.map.now (index a.w 0 b) = rw add-zero w.unlabelled_at.ensures in
          rw w.in-Some.is (from_row-nothing a.w g.E.Neighbours.corners a.y b o a.map.now (λ x l. level.1 x l ∙ sym first ∙ w.if-not-unlabelled_at.false))
      | in_default-via-in_default w ↦ rw w.in_default.is
    ] in
    c.rightward.ensures.written ∙ ap (rightward a.w a.y) (sym e)
