-- The working row: keys of pixels that stay as they were are still theirs, and one more key may be written.
-- Assumes nothing.
use mathlib.Core.Path.{◌≡◌, ◌∙◌}
use mathlib.Core.List.{List}
use Prim.Native.Nat.{ℕ, ◌+◌, ◌<◌}
use native.Mathlib.Decide.{dec_lt}
use native.Mathlib.Omega.{arith}
use lib.IntN.{ℤ}
use lib.ListN.{length, set}
use lib.Seq.{get_or-set_same, get_or-set_other}
use Rattle.raster.specs.Pixels.{index}
use Rattle.candidate.specs.declared.KeyedVector.{KeyedVector}
use Rattle.candidate.specs.Holding.{AtPixel}
use Rattle.candidate.proofs.Neighbours.{Unchanged}
use Rattle.candidate.proofs.Held.{held-key}
use Rattle.scan.specs.Rows.{Keys}

module _ (w y k : ℕ) (keys : List ℕ) (m n : List ℤ) (known : Keys w y k keys m) (same : (z : ℕ) → z < k → Unchanged m n (index w z y)) where
  pub keys_stay : Keys w y k keys n
  keys_stay z l = rw ((same z l).0, (same z l).1) (known z l)

  pub keys_next : {r : KeyedVector} → k < length keys → AtPixel r n (index w k y) → Keys w y (k + 1) (set keys k r.key) n
  keys_next {r} inside held z l = elim (dec_lt z k) [
    | yes q ↦ get_or-set_other keys k z r.key 0 (omega arith) ∙ keys_stay z q
    | no q ↦ let e : z ≡ k = omega arith in
        rw e (get_or-set_same keys k r.key 0 inside ∙ held-key held)
  ]
