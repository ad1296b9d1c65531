-- The map that a scan starts with: copper at (0, 0), the rest unlabelled. Its labelled vectors end on copper.
-- Assumes nothing.
use mathlib.Core.Path.{◌≡◌, refl, ap, ◌∙◌}
use mathlib.Core.Bool.{Bool, true, false, cond, true≢false}
use mathlib.Core.List.{List, [], ◌∷◌}
use Prim.Native.Nat.{ℕ, zero, suc, ◌+◌, ◌*◌, ◌≤◌, ◌<◌}
use native.Mathlib.Nat.{le_of_suc-le-suc, not-suc-le-zero}
use native.Mathlib.Omega.{arith}
use lib.Dec.{eqb}
use lib.IntN.{ℤ, pos}
use lib.ListN.{length, get_or}
use borrow.Author.Tests.{not-true}
use Rattle.raster.specs.Limits.{max_side}
use Rattle.raster.specs.Pixels.{index}
use Rattle.raster.specs.PixelsLaws.{index-inside}
use Rattle.raster.specs.Sheet.{copper_of}
use Rattle.raster.specs.Vector.{mark, size, unlabelled, Target}
use Rattle.raster.specs.VectorLaws.{ends-here}
use Rattle.raster.specs.Map.{dx_at, dy_at, unlabelled_at}
use Rattle.candidate.specs.OnSheet.{OnCopper}
use Rattle.candidate.proofs.OnCopper.{ends-on_sheet}
use Rattle.scan.specs.Scan.{seed, seeds}
use Rattle.scan.specs.Rows.{RowsOf}
use Rattle.scan.proofs.Within.{Within}

pub seeds-length : (s : List ℕ) → length (seeds s) ≡ 2 * length s
unfolding seeds
seeds-length [] = refl
seeds-length (b ∷ s) = let e = seeds-length s in omega arith

pub seeds-at : (s : List ℕ) (p : ℕ) → p < length s → (dx_at (seeds s) p ≡ seed (get_or s p 0)) × (dy_at (seeds s) p ≡ seed (get_or s p 0))
unfolding seeds
seeds-at [] p l = absurd (not-suc-le-zero l)
seeds-at (b ∷ s) zero l = (refl, refl)
seeds-at (b ∷ s) (suc p) l =
    let e : 2 * suc p ≡ suc (suc (2 * p)) = omega arith in
    let f : suc (suc (2 * p)) + 1 ≡ suc (suc (2 * p + 1)) = omega arith in
    rw (e, f) (seeds-at s p (le_of_suc-le-suc l))

module _ (w h : ℕ) (sheet : List ℕ) (whole : length sheet ≡ h * w) where
  module _ (x y : ℕ) (across : x < w) (down : y < h) where
    begins : (dx_at (seeds sheet) (index w x y) ≡ seed (get_or sheet (index w x y) 0)) × (dy_at (seeds sheet) (index w x y) ≡ seed (get_or sheet (index w x y) 0))
    begins = seeds-at sheet (index w x y) (omega (arith, index-inside w x y across h down))

    seed_target : unlabelled_at (seeds sheet) (index w x y) ≡ false
        → Target (copper_of sheet w) w h x y (dx_at (seeds sheet) (index w x y)) (dy_at (seeds sheet) (index w x y))
    unfolding copper_of
    seed_target u = rw (begins.0, begins.1) (go (eqb (get_or sheet (index w x y) 0) 0) refl (rw (begins.0, begins.1) at u))
      where
        go : (t : Bool) → eqb (get_or sheet (index w x y) 0) 0 ≡ t → unlabelled (cond t mark (pos 0)) (cond t mark (pos 0)) ≡ false
            → Target (copper_of sheet w) w h x y (cond t mark (pos 0)) (cond t mark (pos 0))
        go true e l = absurd (true≢false l)
        go false e l = record { column = x; row = y; on_copper = record { across = across; down = down; is_copper = rw e }; ends = ends-here x y }

    -- copper has size 0
    pub seed-within : copper_of sheet w x y ≡ true → Within (seeds sheet) (index w x y) 0
    unfolding copper_of size
    seed-within c = let e = not-true (eqb (get_or sheet (index w x y) 0) 0) c in rw (begins.0, begins.1, e) (record { labelled = refl; near = omega arith })

  pub seeds-on-copper : OnCopper (copper_of sheet w) w h (seeds sheet)
  seeds-on-copper = record { long = seeds-length sheet ∙ ap (λ (n : ℕ). 2 * n) whole; target = seed_target }

  pub seeds_rows : 0 < w → w ≤ max_side → h ≤ max_side → {m : List ℤ} → length m ≡ 2 * (h * w) → m ≡ seeds sheet → RowsOf w h m
  seeds_rows some wide tall long e = record { some = some; inside = omega arith; sheet = rw e (ends-on_sheet wide tall seeds-on-copper) }
