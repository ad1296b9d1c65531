-- The scans 4SED and 8SED: document 01, "Engines". Scan two is scan one with the rows from the bottom and the row below; within a row both go alike.
-- Assumes nothing.
use Rattle.std.specs.Prelude.{ℕ, ◌+◌, ◌-◌, Bool, true, false, cond, ◌&&◌, List, [], ◌∷◌, eqb, ltb, ℤ, pos, negsuc}
use Rattle.raster.specs.Gate.{Gate}
use Rattle.raster.specs.Loop.{ascend, descend}
use Rattle.raster.specs.Pixels.{index}
use Rattle.raster.specs.Vector.{mark}
use Rattle.candidate.specs.Candidate.{relax}

-- copper starts at (0, 0), the rest unlabelled
abbrev pub seed : ℕ → ℤ
seed byte = cond (eqb byte 0) mark (pos 0)

unfoldable pub seeds : List ℕ → List ℤ
seeds [] = []
seeds (byte ∷ sheet) = seed byte ∷ seed byte ∷ seeds sheet

module _ (w : ℕ) where
  -- ---- one row

  -- left to right, each from its left neighbour; right to left, each from its right neighbour
  unfoldable pub rightward : (y : ℕ) → List ℤ → List ℤ
  rightward y = ascend (λ x. relax (index w (x + 1) y) (index w x y) (negsuc 0) (pos 0)) (w - 1)

  unfoldable pub leftward : (y : ℕ) → List ℤ → List ℤ
  leftward y = descend (λ x. relax (index w x y) (index w (x + 1) y) (pos 1) (pos 0)) (w - 1)

  -- ---- from row to row: `corners` says 8SED; o is −1 from the row above, 1 from the row below

  module _ (corners : Bool) (y before : ℕ) (o : ℤ) where
    -- a neighbour that is off the sheet, or that the engine does not look at, is passed over
    abbrev pub from_left : (x : ℕ) → List ℤ → List ℤ
    from_left x m = cond (corners && ltb 0 x) (relax (index w x y) (index w (x - 1) before) (negsuc 0) o m) m

    abbrev pub from_right : (x : ℕ) → List ℤ → List ℤ
    from_right x m = cond (corners && ltb (x + 1) w) (relax (index w x y) (index w (x + 1) before) (pos 1) o m) m

    -- the pixel (x, y): upper left, above, upper right
    unfoldable pub from_three : (x : ℕ) → List ℤ → List ℤ
    from_three x m = from_right x (relax (index w x y) (index w x before) (pos 0) o (from_left x m))

    unfoldable pub from_row : List ℤ → List ℤ
    from_row = ascend from_three w

  -- ---- the scans: every row is swept, also the first, which has no row before it

  module _ (corners : Bool) where
    -- from the row above or below, if there is one
    abbrev pub from_above : (y : ℕ) → List ℤ → List ℤ
    from_above y m = cond (ltb 0 y) (from_row corners y (y - 1) (negsuc 0) m) m

    abbrev pub from_below : (h y : ℕ) → List ℤ → List ℤ
    from_below h y m = cond (ltb (y + 1) h) (from_row corners y (y + 1) (pos 1) m) m

    -- a row of scan one, and one of scan two
    abbrev pub down_row : (y : ℕ) → List ℤ → List ℤ
    down_row y m = leftward y (rightward y (from_above y m))

    abbrev pub up_row : (h y : ℕ) → List ℤ → List ℤ
    up_row h y m = leftward y (rightward y (from_below h y m))

    -- scan one, top to bottom, then scan two, bottom to top
    unfoldable pub scanned : (h : ℕ) → List ℕ → List ℤ
    scanned h sheet = descend (up_row h) h (ascend down_row h (seeds sheet))

-- the gate at a pixel of size a: 144 × a > 169 × q by 8SED, a > 2 × q by 4SED
abbrev pub gate : (corners : Bool) → Gate
gate true = record { den = 144; num = 169 }
gate false = record { den = 1; num = 2 }
