use mathlib.Core.Path.{◌≡◌}
use Prim.Native.Nat.{◌+◌, ◌-◌}
use native.Mathlib.Omega.{arith}
use Rattle.raster.specs.Loop.{descend}
use Rattle.raster.specs.LoopLaws.{down_turn}
use Rattle.candidate.proofs.Held.{given-held}
use Rattle.scan.specs.Scan.{leftward}
use Rattle.scan.proofs.OnRow.{on_y, stepped, row_stepped, others-stay}
use Rattle.scan.proofs.Sweeps.{left_step, to_left}
use Rattle.scan.proofs.Keys.{keys_stay}
use Rattle.scan.proofs.leftward.Goals as goal

pub relax-last-requires-clause-given : goal.relax-last-requires-clause-given
relax-last-requires-clause-given c =
    let i = c.loop-x.invariant in
    (given-held i.row.sheet c.loop-x.x c.args.y (omega arith) (on_y i.row) i.held, omega arith)

pub loop-x-preserved : goal.loop-x-preserved
loop-x-preserved c =
    let t = c.relax-last.ensures in
    let l = c.loop-x in
    let a = c.args in
    let i = l.invariant in
    let n : l.x ≡ l.x - 1 + 1 = omega arith in
    let hop = to_left a.w i.row.sheet.height a.y (on_y i.row) (l.x - 1) (omega arith) in
    let held = rw n at i.held in
    record {
      done = down_turn (left_step a.w a.y) l.x _ (omega arith) (stepped i.row hop held t.written) i.done;
      row = row_stepped i.row hop held t.written;
      held = t.handed_on;
      known = keys_stay a.w a.y (l.x - 1) a.keys.now.of l.map _ (λ z q. i.known z (omega arith)) (λ z q. others-stay i.row hop held t.written z (omega arith) (omega arith));
    }

pub returns : goal.returns
unfolding leftward descend
returns c = let n : c.loop-x.x ≡ 0 = omega arith in rw n at c.loop-x.invariant.done
