-- After its two sweeps a row is labelled throughout or not at all. So a look at its first pixel tells whether the next row has anything to take from it.
-- Assumes nothing.
use mathlib.Core.Path.{◌≡◌, refl, sym, ◌∙◌}
use mathlib.Core.Logic.{inl, inr}
use Rattle.std.specs.Prelude.{Option, IfSome}
use mathlib.Core.Bool.{Bool, true, false, not}
use mathlib.Core.List.{List}
use Prim.Native.Nat.{ℕ, ◌+◌, ◌*◌, ◌-◌, ◌≤◌, ◌<◌}
use native.Mathlib.Decide.{ℕ_discrete}
use native.Mathlib.Omega.{arith}
use lib.IntN.{ℤ}
use borrow.Author.Tests.{not-true, not-false}
use Rattle.raster.specs.Limits.{max_side}
use Rattle.raster.specs.Loop.{any_below}
use Rattle.raster.specs.LoopLaws.{any_found, any_false}
use Rattle.raster.specs.Pixels.{Mask, index}
use Rattle.raster.specs.Distance.{gap}
use Rattle.raster.specs.DistanceLaws.{gap-zero}
use Rattle.raster.specs.Map.{size_at, unlabelled_at}
use Rattle.candidate.specs.OnSheet.{OnCopper, OnSheet}
use Rattle.scan.specs.Scan.{rightward, leftward}
use Rattle.scan.specs.Rows.{RowOf, Beside, Level, entered}
use Rattle.scan.proofs.Within.{relaxed}
use Rattle.scan.proofs.Progress.{some-within}
use Rattle.scan.proofs.Sweeps.{Settled, sweeps_nothing, rightward_moment, leftward_moment, row_within}
use Rattle.scan.proofs.OnRow.{on_y, row-later}
use Rattle.scan.proofs.Rows.{entered_moment}

module _ {copper : Mask} {w h : ℕ} (wide : w ≤ max_side) (y : ℕ) (down : y < h) {m : List ℤ} (sound : OnCopper copper w h m) where
  abbrev swept : List ℤ
  swept = leftward w y (rightward w y m)

  -- some pixel has a label: it spreads over the row
  spreads : (i : ℕ) → i < w → unlabelled_at m (index w i y) ≡ false → (x : ℕ) → x < w → unlabelled_at swept (index w x y) ≡ false
  spreads i on l x across = (row_within w h y down copper wide i on K m sound settled x across).labelled
    where
      K : ℕ → ℕ
      K u = 12 * (size_at m (index w i y) + u)

      settled : (z : ℕ) → z < w → Settled w y i K m z
      settled z a = elim (ℕ_discrete (gap z i) 0) [
        | yes e ↦ inl (rw (gap-zero z i e) (relaxed (omega arith) (some-within m (index w i y) l)))
        | no n ↦ inr (record { nearer = gap z i - 1; one = omega arith; pays = omega arith })
      ]

  pub level : Level w y swept
  level x across = go (any_below w (λ i. not (unlabelled_at m (index w i y)))) refl
    where
      go : (t : Bool) → any_below w (λ i. not (unlabelled_at m (index w i y))) ≡ t → unlabelled_at swept (index w x y) ≡ unlabelled_at swept (index w 0 y)
      go true e =
          let s = any_found w (λ i. not (unlabelled_at m (index w i y))) e in
          let all = spreads s.witness s.below (not-true _ s.passes) in
          all x across ∙ sym (all 0 (omega arith))
      go false e =
          let bare : (z : ℕ) → z < w → unlabelled_at m (index w z y) ≡ true = λ z l. not-false _ (any_false w (λ i. not (unlabelled_at m (index w i y))) z e l) in
          rw (sweeps_nothing w h y m bare) (bare x across ∙ sym (bare 0 (omega arith)))

-- row y of a scan
module _ (w : ℕ) (corners : Bool) (y : ℕ) (before : Option ℕ) (o : ℤ) {m : List ℤ} (row : RowOf w y m) (rows : IfSome before (λ b. Beside w y b o m × Level w b m)) where
  entered-row : RowOf w y (entered w corners y before o m)
  entered-row = row-later row (entered_moment w corners y o m row before rows)

  pub right-row : RowOf w y (rightward w y (entered w corners y before o m))
  right-row = row-later entered-row (rightward_moment w entered-row.sheet.height y (on_y entered-row) _)

  pub swept_sheet : OnSheet w (leftward w y (rightward w y (entered w corners y before o m)))
  swept_sheet = (row-later right-row (leftward_moment w right-row.sheet.height y (on_y right-row) _)).sheet

  pub swept_level : Level w y (leftward w y (rightward w y (entered w corners y before o m)))
  swept_level = level entered-row.sheet.wide y (on_y entered-row) entered-row.sheet.ends
