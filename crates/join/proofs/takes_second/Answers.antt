-- `join::takes_second` meets its contract: the sizes decide, and among equals the order of the ends.
use mathlib.Core.Path.{◌∙◌, refl}
use mir.Syntax.{w32}
use mir.Val.{SFits}
use mir.ValLaws.{to_z-of_z}
use Rattle.raster.specs.Map.{dx_at, dy_at}
use Rattle.join.specs.Joined.{precedes}
use Rattle.join.specs.JoinedLaws.{Marked, taken_by-size}
use Rattle.join.proofs.takes_second.Goals as goal

pub returns : goal.returns
unfolding precedes
returns c =
    let a = c.args in
    let s = c.size_at-s.ensures in
    let t = c.size_at-t.ensures in
    let m : Marked (dx_at a.first.now a.p) (dy_at a.first.now a.p) = rw (← s.0) s.1 in
    let n : Marked (dx_at a.second.now a.p) (dy_at a.second.now a.p) = rw (← t.0) t.1 in
    let i : SFits w32 c.dx_at.result = record { sfits = c.dx_at.type_inv } in
    let j : SFits w32 c.dy_at.result = record { sfits = c.dy_at.type_inv } in
    let k : SFits w32 c.dx_at-2.result = record { sfits = c.dx_at-2.type_inv } in
    let l : SFits w32 c.dy_at-2.result = record { sfits = c.dy_at-2.type_inv } in
    -- the order of the ends
    let ends = (simp (to_z-of_z, i, j, k, l) at c.is_left_or_above-left_or_above.ensures)
    ∙ rw (c.dx_at.ensures.0, c.dy_at.ensures.0, c.dx_at-2.ensures.0, c.dy_at-2.ensures.0) refl in
    rw (s.0, t.0, ends) (taken_by-size _ _ _ _ m n)
