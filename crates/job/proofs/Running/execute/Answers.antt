-- `job::Running::execute` meets its contract: the record is the one that its arm says.
use Rattle.std.proofs.Common.{◌*◌, ◌∙◌}
use Rattle.cutter.specs.Kinds.{maps}
use Rattle.job.specs.ExecuteLaws.{part_lent, part_behind, min_take, min_lent, min_behind, paint_executed, erase_executed, build_executed, place_executed, run_executed, lift_executed, expand_executed, shrink_executed}
use Rattle.job.proofs.Running.execute.Goals.{in-Paint, in-Erase, in-Build, in-Place, in-Run, in-Lift, in-Expand, in-Shrink}
use Rattle.job.proofs.Running.execute.Goals as goal

pub returns-in-Open-clause-executed : goal.returns-in-Open-clause-executed
returns-in-Open-clause-executed c = rw c.in-Open.is (c.open.ensures.executed _ _)

pub returns-clause-executed : goal.returns-clause-executed
returns-clause-executed c =
    let a = c.args in
    let s = a.self.now.session in
    let n = a.self.now.pixels in
    let sheet = a.sheet.now in
    let map = a.map.now in
    let values = a.values.now in
    let scratch = a.scratch.now in
    let m = maps map values in
    let pairs = c.first_pairs-numbers.ensures.0 in
    let entries = c.min-entries.ensures in
    let t = c.take_back.ensures in
    rw (t.answer, t.session, t.pixels)
    (elim c.match-given.branch [
      | in-Paint w ↦
          let r = w.paint-reply in
          rw (w.in-Paint.is, w.reply-is, w.sheet-is, w.map-is, w.values-is, w.scratch-is)
          (paint_executed s n sheet _ _ _ _ r.result _ r.ensures.answered r.ensures.handed_back
          (part_behind n sheet r.new.sheet r.auto.sheet)
          (part_lent n sheet r.new.sheet r.auto.sheet ∙ r.ensures.sheet_left) m scratch)
      | in-Erase w ↦
          let r = w.erase-reply in
          rw (w.in-Erase.is, w.reply-is, w.sheet-is, w.map-is, w.values-is, w.scratch-is)
          (erase_executed s n sheet _ _ _ _ r.result _ r.ensures.answered r.ensures.handed_back
          (part_behind n sheet r.new.sheet r.auto.sheet)
          (part_lent n sheet r.new.sheet r.auto.sheet ∙ r.ensures.sheet_left) m scratch)
      | in-Build w ↦
          let r = w.build-reply in
          let b = r.ensures in
          rw (w.in-Build.is, w.reply-is, w.sheet-is, w.map-is, w.values-is, w.scratch-is)
          (build_executed s n sheet m scratch r.result w.in-Build.engine _ _ _
          (rw (← min_take (2 * n) map pairs, ← min_take n values entries) b.answered)
          b.handed_back
          (rw (min_lent (2 * n) map r.new.map pairs r.auto.map, ← min_take (2 * n) map pairs) b.map_left)
          (min_behind (2 * n) map r.new.map pairs r.auto.map)
          (rw (min_lent n values r.new.values entries r.auto.values, ← min_take n values entries) b.values_left)
          (min_behind n values r.new.values entries r.auto.values)
          b.scratch_left)
      | in-Place w ↦
          let b = w.place-reply.ensures in
          rw (w.in-Place.is, w.reply-is, w.sheet-is, w.map-is, w.values-is, w.scratch-is)
          (place_executed s n m w.place-reply.result _ _ _
          (rw (← min_take (2 * n) map pairs, ← min_take n values entries) b.answered)
          (rw (← min_take (2 * n) map pairs, ← min_take n values entries) b.handed_back) sheet scratch)
      | in-Run w ↦
          let b = w.run-reply.ensures in
          rw (w.in-Run.is, w.reply-is, w.sheet-is, w.map-is, w.values-is, w.scratch-is)
          (run_executed s n m w.run-reply.result _ _
          (rw (← min_take (2 * n) map pairs, ← min_take n values entries) b.answered)
          (rw (← min_take (2 * n) map pairs, ← min_take n values entries) b.handed_back) sheet scratch)
      | in-Lift w ↦
          let b = w.lift-reply.ensures in
          rw (w.in-Lift.is, w.reply-is, w.sheet-is, w.map-is, w.values-is, w.scratch-is)
          (lift_executed s n m w.lift-reply.result b.answered b.handed_back sheet scratch)
      | in-Expand w ↦
          let r = w.expand-reply in
          let b = r.ensures in
          rw (w.in-Expand.is, w.reply-is, w.sheet-is, w.map-is, w.values-is, w.scratch-is)
          (expand_executed s n sheet m scratch r.result _ _ _ _ (rw (← min_take (2 * n) map pairs) b.answered) b.handed_back
          (part_behind n sheet r.new.sheet r.auto.sheet)
          (rw (min_lent (2 * n) map r.new.map pairs r.auto.map, ← min_take (2 * n) map pairs) b.map_left)
          (min_behind (2 * n) map r.new.map pairs r.auto.map)
          b.scratch_left
          (part_lent n sheet r.new.sheet r.auto.sheet ∙ b.sheet_left))
      | in-Shrink w ↦
          let r = w.shrink-reply in
          let b = r.ensures in
          rw (w.in-Shrink.is, w.reply-is, w.sheet-is, w.map-is, w.values-is, w.scratch-is)
          (shrink_executed s n sheet m scratch r.result _ _ _ _ (rw (← min_take (2 * n) map pairs) b.answered) b.handed_back
          (part_behind n sheet r.new.sheet r.auto.sheet)
          (rw (min_lent (2 * n) map r.new.map pairs r.auto.map, ← min_take (2 * n) map pairs) b.map_left)
          (min_behind (2 * n) map r.new.map pairs r.auto.map)
          b.scratch_left
          (part_lent n sheet r.new.sheet r.auto.sheet ∙ b.sheet_left))
    ])
