-- What is left in scratch, whose first w numbers hold a working row.
-- Assumes nothing.
use mathlib.Core.Path.{◌≡◌, ap, ◌∙◌}
use mathlib.Core.List.{List, ◌++◌}
use Prim.Native.Nat.{ℕ, ◌+◌, ◌*◌}
use native.Mathlib.Omega.{arith}
use lib.IntN.{ℤ}
use lib.ListN.{length, drop}
use lib.Seq.{drop-append-add, drop-drop}
use Rattle.exact.specs.Nearest.{scratch_left}

-- it does not depend on what these became
pub row_cleared : (w : ℕ) (row scratch : List ℤ) → length row ≡ w → scratch_left w (row ++ drop w scratch) ≡ scratch_left w scratch
row_cleared w row scratch e =
    let n : 4 * w ≡ length row + 3 * w = omega arith in
    let m : w + 3 * w ≡ 4 * w = omega arith in
    rw (ap (λ (k : ℕ). drop k (row ++ drop w scratch)) n ∙ drop-append-add row (drop w scratch) (3 * w) ∙ drop-drop (3 * w) w scratch, m)
