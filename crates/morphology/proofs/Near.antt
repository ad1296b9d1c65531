-- The test `near` says what `Near` says; on an exact map it is the test of the size.
-- Assumes nothing.
use mathlib.Core.Path.{◌≡◌, sym, ◌∙◌}
use mathlib.Core.Bool.{true, false, false≢true}
use Prim.Native.Nat.{ℕ, ◌<◌, ◌≤◌}
use native.Mathlib.Decide.{dec_le}
use native.Mathlib.Omega.{arith}
use lib.Dec.{leb}
use lib.IntN.{ℤ}
use borrow.Author.Tests.{leb-true, le-leb, lt-leb}
use Rattle.raster.specs.Distance.{apart, Clear, Near}
use Rattle.raster.specs.Limits.{max_side, max_q}
use Rattle.raster.specs.LoopLaws.{any_found, any-true}
use Rattle.raster.specs.Map.{dx_at, dy_at}
use Rattle.raster.specs.Pixels.{Mask, index}
use Rattle.raster.specs.Tests.{and_left, and_right, same}
use Rattle.raster.specs.Vector.{size}
use Rattle.raster.specs.VectorLaws.{unlabelled-size, ends-size}
use Rattle.exact.specs.Nearest.{Exact, to_nearest, bare_sheet, exact_map}
use Rattle.exact.proofs.Theorems.{is_exact}
use Rattle.morphology.specs.Resize.{near}

module _ (copper : Mask) (w h q x y : ℕ) where
  pub near-found : near copper w h q x y ≡ true → Near copper w h x y q
  unfolding near
  near-found e =
      let c = any_found w _ e in
      let r = any_found h _ c.passes in record {
        column = c.witness;
        row = r.witness;
        copper = record { across = c.below; down = r.below; is_copper = and_left _ _ r.passes };
        within = leb-true _ q (and_right (copper c.witness r.witness) _ r.passes);
      }

  pub near-true : Near copper w h x y q → near copper w h q x y ≡ true
  unfolding near
  near-true n = any-true w _ n.column n.copper.across (any-true h _ n.row n.copper.down (simp (n.copper.is_copper, le-leb (apart x y n.column n.row) q n.within)))

  pub near_clear : near copper w h q x y ≡ false → Clear copper w h x y q
  near_clear e i j c = elim (dec_le (apart x y i j) q) [
    | yes l ↦ absurd (false≢true (sym e ∙ near-true (record { column = i; row = j; copper = c; within = l })))
    | no l ↦ omega arith
  ]

  pub near-false : (Near copper w h x y q → ⊥) → near copper w h q x y ≡ false
  near-false far = same (near copper w h q x y) false (λ e. absurd (far (near-found e))) (λ e. absurd (false≢true e))

  abbrev vx : ℤ
  vx = dx_at (exact_map copper w h) (index w x y)

  abbrev vy : ℤ
  vy = dy_at (exact_map copper w h) (index w x y)

  -- on the exact map it is the test of the size: the mark's is above every q
  pub size-near : w ≤ max_side → h ≤ max_side → x < w → y < h → q ≤ max_q
      → leb (size vx vy) q ≡ near copper w h q x y
  size-near wide tall across down small = go (is_exact copper w h wide tall x y across down)
    where
      go : Exact copper w h x y vx vy → leb (size vx vy) q ≡ near copper w h q x y
      go (to_nearest i j n e) = elim (dec_le (size vx vy) q) [
        | yes l ↦ le-leb _ q l ∙ sym (near-true (record { column = i; row = j; copper = n.on_copper; within = omega (arith, ends-size e) }))
        | no l ↦ lt-leb _ q (omega arith) ∙ sym (near-false (λ c. omega (arith, ends-size e, c.within, n.least c.column c.row c.copper)))
      ]
      go (bare_sheet bare u) =
          lt-leb _ q (omega (arith, unlabelled-size vx vy u)) ∙ sym (near-false (λ c. bare c.column c.row c.copper))
