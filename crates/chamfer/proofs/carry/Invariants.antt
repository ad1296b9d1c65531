-- `chamfer::carry` meets its contract. The invariant: the first t pixels of the sweep are written, in the map and in the working row, and `last` is what the
-- sweep hands on.
use mathlib.Core.Path.{◌≡◌}
use mathlib.Core.Bool.{not}
use lib.Dec.{eqb}
use Prim.Native.Nat.{◌+◌, ◌≤◌}
use lib.ListN.{get_or}
use Rattle.chamfer.specs.Rows.{turn, carried}
use Rattle.chamfer.proofs.Sweeps.{Turned}
use Rattle.chamfer.proofs.carry.Given as goal

abbrev pub invariant-loop-t : goal.invariant-loop-t
invariant-loop-t g l =
    let f = carried l.side (λ t. get_or l.initial.values (l.base + turn (not (eqb g.row.RIGHT 0)) l.w t) 0) in
    record {
      map : Turned (not (eqb g.row.RIGHT 0)) l.base l.w (λ k. f (k + 1)) l.t l.initial.values l.values;
      kept : Turned (not (eqb g.row.RIGHT 0)) 1 l.w (λ k. f (k + 1)) l.t l.initial.row l.row;
      handed : l.last ≡ f l.t;
      small : l.last ≤ 65535;
    }
