use mathlib.Core.Path.{◌≡◌, refl}
use mathlib.Core.Bool.{not}
use Prim.Native.Nat.{◌+◌}
use native.Mathlib.Omega.{arith}
use lib.Dec.{eqb}
use lib.ListN.{get_or}
use Rattle.chamfer.specs.Rows.{turn, carried}
use Rattle.chamfer.proofs.Sweeps.{carried-next, turned_none, turned_more, turned_all, swept_turns}
use Rattle.chamfer.proofs.carry.Goals as goal

pub loop-t-init : goal.loop-t-init
unfolding carried
loop-t-init g c = record { map = turned_none; kept = turned_none; handed = refl; small = omega arith }

pub loop-t-preserved : goal.loop-t-preserved
loop-t-preserved g c =
    let l = c.loop-t in
    let i = l.invariant in
    let a = c.args in
    let right = not (eqb g.row.RIGHT 0) in
    let own : get_or l.values (a.base + c.turn-x.result) 0 ≡ get_or a.values.now (a.base + turn right a.w l.t) 0 = rw c.turn-x.ensures (i.map.rest l.t (omega arith) (omega arith)) in
    let e = carried-next _ _ l.t own i.handed (rw (c.from.ensures, c.from-in-loop-t.ensures) at c.min-last.ensures) in
    record {
      map = turned_more i.map (omega arith) (omega arith) c.turn-x.ensures e;
      kept = turned_more i.kept (omega arith) (omega arith) c.turn-x.ensures e;
      handed = e;
      small = omega arith;
    }

pub returns : goal.returns
returns g c =
    let i = c.loop-t.invariant in
    let a = c.args in
    let same = swept_turns (not (eqb g.row.RIGHT 0)) a.side a.base a.w a.values.now in
    record { written = turned_all i.map (omega arith) same; kept = turned_all i.kept (omega arith) same }
