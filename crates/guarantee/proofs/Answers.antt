-- Answers: a number that no row of a call's table has is never given.
-- Assumes nothing.
use mathlib.Core.Path.{◌≡◌}
use mathlib.Core.Bool.{Bool, true, not}
use Prim.Native.Nat.{ℕ}
use lib.Dec.{eqb}
use borrow.Author.Tests.{eqb-false, not-true}
use Rattle.raster.specs.Refusal.{Table, first_of}
use Rattle.raster.specs.RefusalLaws.{every, first-every}

-- no row of the table has the number k
abbrev pub without : (k : ℕ) → Table → Bool
without k table = every (λ n. not (eqb n k)) table

pub never : (k : ℕ) (table : Table) → not (eqb 0 k) ≡ true → without k table ≡ true → first_of table ≡ k → ⊥
never k table some e = eqb-false (first_of table) k (not-true _ (first-every (λ n. not (eqb n k)) table some e))
