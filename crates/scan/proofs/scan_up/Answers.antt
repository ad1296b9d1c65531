use mathlib.Core.Path.{◌≡◌}
use Prim.Native.Nat.{◌+◌, ◌-◌}
use native.Mathlib.Omega.{arith}
use lib.Dec.{ltb}
use lib.IntN.{pos}
use borrow.Author.Tests.{lt-ltb}
use Rattle.raster.specs.Loop.{descend}
use Rattle.raster.specs.LoopLaws.{down_turn}
use Rattle.scan.proofs.Rows.{swept_if}
use Rattle.scan.proofs.scan_up.Goals as goal

pub loop-y-preserved : goal.loop-y-preserved
loop-y-preserved g c =
    let s = c.sweep_row.ensures in
    let l = c.loop-y in
    let a = c.args in
    let i = l.invariant in
    let n : l.y - 1 + 1 ≡ l.y = omega arith in
    let e = swept_if a.w g.E.Neighbours.corners (l.y - 1) (pos 1) l.map (ltb (l.y - 1 + 1) a.h) (l.y - 1 + 1) (rw (← n) at i.before) s.written in
    record {
      done = down_turn _ _ _ (omega arith) e i.done;
      sheet = s.on_sheet;
      before = rw (lt-ltb (l.y - 1) a.h (omega arith));
      level = λ _. s.level;
    }

pub returns : goal.returns
unfolding descend
returns g c = let n : c.loop-y.y ≡ 0 = omega arith in rw n at c.loop-y.invariant.done
