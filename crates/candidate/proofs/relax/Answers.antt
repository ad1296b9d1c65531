-- `candidate::relax` meets its contract. Without a vector nothing changes. Otherwise either arm is what `offered` says of the candidate's key, and what stands
-- at the pixel after it is what was written there or what stood there before.
use mathlib.Core.Path.{◌≡◌, refl, sym}
use mathlib.Core.Bool.{true, false}
use lib.IntN.{ℤ, ◌+ℤ◌}
use mir.Syntax.{w32}
use mir.Val.{to_z, of_z, SFits}
use mir.ValLaws.{to_z-of_z}
use borrow.Author.Tests.{lt-ltb, le-ltb}
use Rattle.raster.specs.Vector.{UnitStep}
use Rattle.candidate.specs.declared.KeyedVector.{KeyedVector}
use Rattle.candidate.specs.Key.{key_limit}
use Rattle.candidate.specs.Holding.{Given}
use Rattle.candidate.proofs.Carried.{near_short, given-dx, given-dy, side-near, side-fits}
use Rattle.candidate.proofs.Offer.{offered, put-kept, written_first, written_next, written_last}
use Rattle.candidate.proofs.relax.Goals as goal

-- ---- the vector n is there

module _ (n : KeyedVector) (o : ℤ) (g : Given n) (fits : SFits w32 o) (u : UnitStep o) where
  sum_is : to_z w32 (of_z w32 (to_z w32 (of_z w32 n.dx) +ℤ to_z w32 (of_z w32 o))) ≡ n.dx +ℤ o
  sum_is = simp (to_z-of_z, given-dx g, fits, side-fits g o u) refl

  dy_is : to_z w32 (of_z w32 n.dy) ≡ n.dy
  dy_is = to_z-of_z w32 _ (given-dy g)

pub put_at-requires-clause-short : goal.put_at-requires-clause-short
put_at-requires-clause-short c =
    let n = c.args.n in
    let o = c.args.o in
    let u = c.requires.given.1 in
    let g = c.requires.given.0 (lt-ltb n.key key_limit c.if-n-ge-KEY_LIMIT.false) in
    (rw (sum_is n o g c.ranges.o u) (near_short (n.dx +ℤ o) (side-near g o u)), rw (dy_is n o g c.ranges.o u) (near_short n.dy g.near_dy))

pub returns-then-key-d : goal.returns-then-key-d
returns-then-key-d c =
    let n = c.args.n in
    let o = c.args.o in
    let at = c.args.at in
    let m = c.args.map.now in
    let d = c.recall-d in
    let i = c.requires.inside.0 in
    let u = c.requires.given.1 in
    let g = c.requires.given.0 (lt-ltb n.key key_limit c.if-n-ge-KEY_LIMIT.false) in
    let e = simp (to_z-of_z, c.ranges.o) at c.key_after-key.ensures in
    let s = offered d.result n o d.ensures.keyed g u c.key_after-key.result e.candidate e.none true (sym (lt-ltb _ _ c.if-key-d.true)) (sum_is n o g c.ranges.o u) (dy_is n o g c.ranges.o u) refl in
    let r = written_last at m i (written_next at m o i (written_first at m d.ensures) s) c.put_at.ensures in
    record { written = r.0; handed_on = r.1 }

pub returns : goal.returns
returns c =
    let n = c.args.n in
    let o = c.args.o in
    let at = c.args.at in
    let m = c.args.map.now in
    let d = c.recall-d in
    let i = c.requires.inside.0 in
    let u = c.requires.given.1 in
    let g = c.requires.given.0 (lt-ltb n.key key_limit c.if-n-ge-KEY_LIMIT.false) in
    let e = simp (to_z-of_z, c.ranges.o) at c.key_after-key.ensures in
    let s = offered d.result n o d.ensures.keyed g u c.key_after-key.result e.candidate e.none false (sym (le-ltb _ _ c.if-key-d.false)) refl refl refl in
    let r = written_last at m i (written_next at m o i (written_first at m d.ensures) s) (put-kept at m d.ensures.dx d.ensures.dy) in
    record { written = r.0; handed_on = r.1 }
