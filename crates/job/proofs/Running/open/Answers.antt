-- `job::Running::open` meets its contract: the session opens the lent part; a sheet that is opened has a byte a pixel, so that it was lent all that it needs.
use Rattle.std.proofs.Common.{◌≡◌, sym, ap, ◌∙◌, ℕ, ◌*◌, length, take, drop, arith, min, ne_eqb, take-append-drop}
use Rattle.session.proofs.Granted.{open_granted}
use Rattle.job.specs.ExecuteLaws.{part_length, part_lent, part_behind, min_take, open_executed}
use Rattle.job.proofs.Running.open.Goals as goal
use Rattle.job.proofs.Running.open.Goals.{then-reply-eq0, else-reply-eq0}

pub returns-clause-executed : goal.returns-clause-executed
returns-clause-executed c =
    let sheet = c.args.sheet.now in
    let w = c.args.w in
    let h = c.args.h in
    let p = c.min-pixels.result in
    let t = c.take_back.ensures in
    let last = c.open_sheet-reply.new.sheet in
    let kept = c.open_sheet-reply.auto.sheet in
    let reply = c.open_sheet-reply.ensures in
    let least : p ≡ min (h * w) (length sheet) = rw (← c.area.ensures) c.min-pixels.ensures in
    let answer = rw (min_take (h * w) sheet least) at reply.answered in
    elim c.if-reply-eq0.branch [
      | then-reply-eq0 x ↦
          let zero = x.if-reply-eq0.true in
          let pixels : p ≡ h * w = part_length p sheet (omega arith) ∙ (open_granted (take p sheet) w h (sym reply.answered ∙ zero)).1 in
          rw (t.answer, t.session, t.pixels, x.self-is)
          (open_executed c.args.self.now.session c.args.self.now.pixels sheet w h _ _ p _ answer reply.handed_back (rw zero pixels)
          (rw (zero, part_lent p sheet last kept, ← min_take (h * w) sheet least) (rw zero at reply.sheet_left))
          (rw (zero, part_behind p sheet last kept) (ap (λ (k : ℕ). drop k sheet) pixels)))
      | else-reply-eq0 x ↦
          let some = ne_eqb _ 0 x.if-reply-eq0.false in
          let stays = rw some at reply.sheet_left in
          rw (t.answer, t.session, t.pixels, x.self-is, stays, take-append-drop p sheet)
          (open_executed c.args.self.now.session c.args.self.now.pixels sheet w h _ _ c.args.self.now.pixels _ answer reply.handed_back (rw some) (rw some) (rw some))
    ]
