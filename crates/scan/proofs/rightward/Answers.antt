use mathlib.Core.Path.{◌≡◌, refl}
use Prim.Native.Nat.{◌+◌, ◌-◌}
use native.Mathlib.Nat.{add-zero}
use native.Mathlib.Omega.{arith}
use lib.IntN.{negsuc}
use Rattle.raster.specs.Loop.{ascend}
use Rattle.raster.specs.LoopLaws.{up_turn}
use Rattle.raster.specs.Pixels.{index}
use Rattle.candidate.specs.Holding.{AtPixel, offer_given}
use Rattle.candidate.proofs.Held.{given-held}
use Rattle.scan.specs.Scan.{rightward}
use Rattle.scan.proofs.OnRow.{on_y, stepped, row_stepped, others-stay}
use Rattle.scan.proofs.Sweeps.{right_step, to_right}
use Rattle.scan.proofs.Keys.{keys_next}
use Rattle.scan.proofs.rightward.Goals as goal

pub loop-x-init : goal.loop-x-init
unfolding ascend
loop-x-init c =
    let a = c.args in
    let first : AtPixel c.read-last.result a.map.now (index a.w 0 a.y) = rw add-zero c.read-last.ensures in
    record {
      done = refl;
      row = c.requires;
      held = first;
      known = keys_next a.w a.y 0 a.keys.now.of a.map.now _ (λ z l. absurd (omega arith)) (λ z l. absurd (omega arith)) (omega arith) first;
    }

pub relax-last-requires-clause-given : goal.relax-last-requires-clause-given
relax-last-requires-clause-given c =
    let i = c.loop-x.invariant in
    (given-held i.row.sheet (c.loop-x.x - 1) c.args.y (omega arith) (on_y i.row) i.held, omega arith)

pub loop-x-preserved : goal.loop-x-preserved
loop-x-preserved c =
    let t = c.relax-last.ensures in
    let l = c.loop-x in
    let a = c.args in
    let i = l.invariant in
    let k : l.x - 1 + 1 ≡ l.x = omega arith in
    let n : l.x + 1 - 1 ≡ l.x = omega arith in
    let m : l.x + 1 - 1 ≡ l.x - 1 + 1 = omega arith in
    let hop = to_right a.w i.row.sheet.height a.y (on_y i.row) (l.x - 1) (omega arith) in
    let e : c.relax-last.new.map ≡ offer_given l.last (negsuc 0) (index a.w (l.x - 1 + 1) a.y) l.map = rw k t.written in
    record {
      done = rw m (up_turn (right_step a.w a.y) (l.x - 1) _ (stepped i.row hop i.held e) i.done);
      row = row_stepped i.row hop i.held e;
      held = rw n t.handed_on;
      known = keys_next a.w a.y l.x l.keys.of l.map _ i.known (λ z q. others-stay i.row hop i.held e z (omega arith) (omega arith)) (omega arith) t.handed_on;
    }

pub returns-clause-written : goal.returns-clause-written
unfolding rightward
returns-clause-written c = let n : c.loop-x.x ≡ c.args.w = omega arith in rw n at c.loop-x.invariant.done
