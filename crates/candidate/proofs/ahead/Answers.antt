-- `candidate::ahead` meets its contract, by those of the calls. Its components are near, so the key is one that vectors have.
use mathlib.Core.Path.{◌≡◌, sym, ap, ◌∙◌}
use mathlib.Core.Bool.{true≢false}
use Prim.Native.Nat.{◌≤◌, ◌<◌}
use native.Mathlib.Omega.{arith}
use lib.IntN.{nat_abs, ◌+ℤ◌}
use mir.Syntax.{w32}
use mir.Val.{SFits}
use mir.ValLaws.{to_z-of_z}
use borrow.Author.Tests.{lt-ltb}
use Rattle.raster.specs.Limits.{max_side}
use Rattle.raster.specs.VectorLaws.{add_abs}
use Rattle.raster.specs.Map.{dy_at}
use Rattle.candidate.specs.Key.{key_limit}
use Rattle.candidate.specs.KeyLaws.{near-key}
use Rattle.candidate.proofs.ahead.Goals as goal

pub returns : goal.returns
returns c =
    let a = c.args in
    let x = c.dx_at-dx in
    let y = c.dy_at in
    let d = c.shifted-dy in
    let f : SFits w32 x.result = record { sfits = x.type_inv } in
    let g : SFits w32 y.result = record { sfits = y.type_inv } in
    let k : SFits w32 d.result = record { sfits = d.type_inv } in
    -- the second component is the pixel's, with the step
    let e : d.result ≡ dy_at a.map.now a.p +ℤ a.o = (simp (to_z-of_z, g, c.ranges.o) at d.ensures.0) ∙ ap (λ z. z +ℤ a.o) y.ensures.0 in
    let near_x : nat_abs x.result < max_side = rw x.ensures.0 c.requires.near.0 in
    let near_y : nat_abs d.result ≤ max_side = rw e (omega (arith, c.requires.near.1, c.requires.inside.1, add_abs (dy_at a.map.now a.p) a.o)) in
    let z = simp (to_z-of_z, f, k) at c.key_of.ensures in
    let n = lt-ltb c.key_of.result key_limit (rw z (near-key x.result d.result (omega arith) near_y)) in
    simp (to_z-of_z, f, k) (record {
      dx = x.ensures.0;
      dy = e;
      gives = n;
      given = record { near_dx = near_x; near_dy = near_y; own = λ e. z; absent = λ e. absurd (true≢false (sym n ∙ e)) };
    })
