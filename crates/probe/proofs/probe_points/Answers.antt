use mathlib.Core.Path.{refl, ap, ◌∙◌}
use Prim.Native.Nat.{ℕ, ◌<◌}
use native.Mathlib.Omega.{arith}
use lib.ListN.{length, get_or-replicate}
use Rattle.raster.specs.Distance.{true_distance}
use Rattle.raster.specs.Sheet.{copper_of}
use Rattle.raster.proofs.Writing.{write_none, write_more, write_all}
use Rattle.exact.proofs.Theorems.{exact_distance}
use Rattle.probe.specs.Points.{point_column, distances_at}
use Rattle.probe.proofs.Counting.{point_on_sheet, rows_few, counted_none, counted_reach, counted_more}
use Rattle.probe.proofs.Looking.{count_flag}
use Rattle.probe.proofs.Solving.{worked_none}
use Rattle.probe.proofs.probe_points.Goals as goal

pub loop-k-init : goal.loop-k-init
loop-k-init c =
    let n = c.new-reading.ensures in
    let few = c.args.sheet.now.sides.0 in
    let zero = λ (x : ℕ) (l : x < c.args.sheet.now.w). get_or-replicate 2048 x 0 0 (omega (arith, few, l)) in (
      rw n.none_read (counted_none _ _),
      (rw n.none_read (worked_none (λ x l. rw n.none_found.0 (zero x l)) (λ x l. rw n.none_found.1 (zero x l))), write_none _ _),
    )

pub turn_to-requires-clause-y_on_sheet : goal.turn_to-requires-clause-y_on_sheet
turn_to-requires-clause-y_on_sheet c =
    let a = c.args in
    let p = c.requires.sorted in
    let n = length a.out.now in
    let k = c.loop-k.k in
    let y = c.point_row.ensures in
    let o = point_on_sheet a.points.now a.sheet.now.w a.sheet.now.h n k p.0 c.loop-k-test.true in
    let r = counted_reach a.points.now c.loop-k.invariant.0 n p.1 c.loop-k-test.true in
    (omega (arith, r, y), (omega (arith, o.1, y), omega arith))

pub overflow_add-rows : goal.overflow_add-rows
overflow_add-rows c =
    let s = c.args.sheet.now in
    omega (
      arith,
      c.loop-k.invariant.0.count,
      rows_few c.args.points.now s.h c.loop-k.k,
      s.sides,
      c.from-rows.ensures,
      count_flag c.loop-k.rows c.turn_to.result,
    )

pub distance_at-requires : goal.distance_at-requires
distance_at-requires c =
    let a = c.args in
    let s = a.sheet.now in
    let o = point_on_sheet a.points.now s.w s.h (length a.out.now) c.loop-k.k c.requires.sorted.0 c.loop-k-test.true in
    omega (arith, c.point_column.ensures, o.0, s.sides)

pub loop-k-preserved : goal.loop-k-preserved
loop-k-preserved c =
    let a = c.args in
    let s = a.sheet.now in
    let p = c.requires.sorted in
    let n = length a.out.now in
    let k = c.loop-k.k in
    let i = c.loop-k.invariant in
    let y = c.point_row.ensures in
    let t = c.turn_to.ensures in
    let x = point_column a.points.now k in
    let copper = copper_of s.bytes.now s.w in
    -- the point lies on the sheet
    let o = point_on_sheet a.points.now s.w s.h n k p.0 c.loop-k-test.true in
    let m : c.point_row.result < s.h = omega (arith, o.1, y) in
    let d = exact_distance copper s.w s.h s.sides.0 s.sides.1 x c.point_row.result o.0 m ((t.worked.last_row c.point_row.result refl).at x o.0)
    ∙ ap (true_distance copper s.w s.h x) y in (
      rw t.is_new.1 (counted_more a.points.now i.0 n p.1 c.loop-k-test.true y m (rw (c.from-rows.ensures, (count_flag c.loop-k.rows c.turn_to.result).0, t.is_new.0))),
      (rw t.is_new.1 t.worked, write_more _ _ i.1.1 c.loop-k-test.true ((rw c.point_column.ensures at c.distance_at.ensures) ∙ d)),
    )

pub returns-clause-out_left : goal.returns-clause-out_left
unfolding distances_at
returns-clause-out_left c = write_all _ _ c.loop-k.invariant.1.1 c.loop-k-test.false
