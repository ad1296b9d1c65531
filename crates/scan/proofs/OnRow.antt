-- The row at hand and the row before lie on the sheet. One candidate within the row keeps that, and leaves the other pixels of the row.
-- Assumes nothing.
use mathlib.Core.Path.{◌≡◌, sym, ◌∙◌}
use mathlib.Core.Logic.{◌≢◌}
use mathlib.Core.List.{List}
use Prim.Native.Nat.{ℕ, ◌<◌}
use lib.IntN.{ℤ, pos}
use lib.ListN.{length}
use Rattle.raster.specs.Pixels.{index}
use Rattle.raster.specs.PixelsLaws.{index-one}
use Rattle.candidate.specs.declared.KeyedVector.{KeyedVector}
use Rattle.candidate.specs.Candidate.{relax}
use Rattle.candidate.specs.OnSheet.{Hop, Moment}
use Rattle.candidate.specs.Holding.{AtPixel, offer_given}
use Rattle.candidate.proofs.Neighbours.{Unchanged, elsewhere}
use Rattle.candidate.proofs.OnCopper.{on_sheet-later, row_on_sheet}
use Rattle.candidate.proofs.Held.{held-relax}
use Rattle.scan.specs.Rows.{RowOf, Beside}
use Rattle.scan.proofs.Progress.{next}

module _ {w y : ℕ} {m : List ℤ} (row : RowOf w y m) where
  pub on_y : y < row.sheet.height
  on_y = row_on_sheet row.sheet y row.some row.inside

  pub on_b : {b : ℕ} {o : ℤ} → Beside w y b o m → b < row.sheet.height
  on_b {b} rows = row_on_sheet row.sheet b row.some rows.inside

  -- at a later moment
  module _ {n : List ℤ} (t : Moment w row.sheet.height m n) where
    same_length : length n ≡ length m
    same_length = (on_sheet-later row.sheet t).ends.long ∙ sym row.sheet.ends.long

    pub row-later : RowOf w y n
    row-later = record { some = row.some; inside = rw same_length row.inside; sheet = on_sheet-later row.sheet t }

    pub rows-later : {b : ℕ} {o : ℤ} → Beside w y b o m → Beside w y b o n
    rows-later rows = record { other = rows.other; inside = rw same_length rows.inside; unit = rows.unit; step = rows.step }

  -- a candidate of the vector in the hand, which is that of a pixel beside it
  module _ {x z : ℕ} {o : ℤ} (hop : Hop w row.sheet.height x y z y o (pos 0)) {last : KeyedVector} (held : AtPixel last m (index w z y))
      {n : List ℤ} (written : n ≡ offer_given last o (index w x y) m) where
    pub stepped : n ≡ relax (index w x y) (index w z y) o (pos 0) m
    stepped = written ∙ held-relax row.sheet z y hop.across' on_y held (index w x y) o

    pub row_stepped : RowOf w y n
    row_stepped = rw stepped (row-later (next hop))

    pub others-stay : (u : ℕ) → u < w → u ≢ x → Unchanged m n (index w u y)
    others-stay u l other = rw stepped (elsewhere (index w x y) (index w z y) o (pos 0) m (index w u y) (λ e. other (index-one w u y x y l hop.across e).0))
