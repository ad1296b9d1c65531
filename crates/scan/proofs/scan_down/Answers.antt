use mathlib.Core.Path.{◌≡◌, refl}
use Prim.Native.Nat.{◌+◌, ◌-◌}
use native.Mathlib.Omega.{arith}
use lib.Dec.{ltb}
use lib.IntN.{negsuc}
use borrow.Author.Tests.{lt-ltb}
use Rattle.raster.specs.Loop.{ascend}
use Rattle.raster.specs.LoopLaws.{up_turn}
use Rattle.scan.proofs.Rows.{swept_if}
use Rattle.scan.proofs.scan_down.Goals as goal

pub loop-y-init : goal.loop-y-init
unfolding ascend
loop-y-init g c = record { done = refl; sheet = c.requires.sheet; before = refl; level = λ l. absurd (omega arith) }

pub loop-y-preserved : goal.loop-y-preserved
loop-y-preserved g c =
    let s = c.sweep_row.ensures in
    let l = c.loop-y in
    let a = c.args in
    let i = l.invariant in
    let e = swept_if a.w g.E.Neighbours.corners l.y (negsuc 0) l.map (ltb 0 l.y) (l.y - 1) i.before s.written in
    let n : l.y + 1 - 1 ≡ l.y = omega arith in
    record {
      done = up_turn _ _ _ e i.done;
      sheet = s.on_sheet;
      before = rw (lt-ltb 0 (l.y + 1) (omega arith), n);
      level = λ _. rw n s.level;
    }
