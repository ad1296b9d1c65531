-- Tables of refusals: what one that answers 0 says, what holds of every number holds of the answer, and a table with one row more.
-- Assumes nothing.
use Rattle.std.specs.Prelude.{◌≡◌, Bool, not, ◌&&◌, ℕ, zero, suc, ◌<◌, eqb, ltb, get_or}
use Rattle.std.proofs.Math.Path.{refl}
use Rattle.std.proofs.Math.Bool.{true, false, cond}
use mathlib.Core.List.{[], ◌∷◌, ◌++◌}
use Rattle.std.proofs.Common.{arith}
use borrow.Author.Tests.{ltb-true, eqb-false, not-true}
use Rattle.raster.specs.declared.refusal.Refusal.{Refusal}
use Rattle.raster.specs.Refusal.{Table, first_of, number_of}
use Rattle.raster.specs.Tests.{and_left, and_right}

-- it answers 0: its first condition fails, and the rest of it answers 0
pub passed : (when : Bool) (number : ℕ) (rest : Table) → 0 < number → first_of ((when, number) ∷ rest) ≡ 0 → (when ≡ false) × (first_of rest ≡ 0)
unfolding first_of
passed true number rest some e = absurd (omega arith)
passed false number rest some e = (refl, e)

-- every number of the table passes the test f
abbrev pub every : (f : ℕ → Bool) → Table → Bool
every f [] = true
every f ((when, number) ∷ rest) = f number && every f rest

-- what holds of 0 and of every number of a table holds of its answer
pub first-every : (f : ℕ → Bool) (table : Table) → f 0 ≡ true → every f table ≡ true → f (first_of table) ≡ true
unfolding first_of
first-every f [] none e = none
first-every f ((true, number) ∷ rest) none e = and_left (f number) _ e
first-every f ((false, number) ∷ rest) none e = first-every f rest none (and_right (f number) _ e)

-- it answers 0, and no number of it is 0: no condition of it holds
pub none-holds : (table : Table) → every (ltb 0) table ≡ true → first_of table ≡ 0 → (row : ℕ) → (get_or table row (false, 0)).0 ≡ false
unfolding first_of
none-holds [] n e row = refl
none-holds ((true, number) ∷ rest) n e row = absurd (omega (arith, ltb-true 0 number (and_left (ltb 0 number) _ n)))
none-holds ((false, number) ∷ rest) n e zero = refl
none-holds ((false, number) ∷ rest) n e (suc row) = none-holds rest (and_right (ltb 0 number) _ n) e row

-- no reason has the number 0
pub number_some : (refusal : Refusal) → number_of refusal ≡ 0 → ⊥
number_some refusal = grind arith

-- ---- a table with one row more

module _ (when : Bool) (number : ℕ) where
  -- where no row before it holds, it decides
  pub last_decides : (rows : Table) → every (ltb 0) rows ≡ true → first_of rows ≡ 0 → first_of (rows ++ ((when, number) ∷ [])) ≡ cond when number 0
  unfolding first_of
  last_decides [] n e = refl
  last_decides ((true, k) ∷ rows) n e = absurd (omega (arith, ltb-true 0 k (and_left (ltb 0 k) _ n)))
  last_decides ((false, k) ∷ rows) n e = last_decides rows (and_right (ltb 0 k) _ n) e

  -- where one does, its number stands
  pub earlier_decides : (rows : Table) {a : ℕ} → a ≡ first_of rows → (a ≡ 0 → ⊥) → a ≡ first_of (rows ++ ((when, number) ∷ []))
  unfolding first_of
  earlier_decides [] is some = absurd (some is)
  earlier_decides ((true, k) ∷ rows) is some = is
  earlier_decides ((false, k) ∷ rows) is some = earlier_decides rows is some

  -- it answers 0: no row before it holds, nor does it
  pub last-fails : 0 < number → (rows : Table) → every (ltb 0) rows ≡ true → first_of (rows ++ ((when, number) ∷ [])) ≡ 0 → (first_of rows ≡ 0) × (when ≡ false)
  unfolding first_of
  last-fails some [] n e = (refl, (passed when number [] some e).0)
  last-fails some ((true, k) ∷ rows) n e = absurd (omega (arith, ltb-true 0 k (and_left (ltb 0 k) _ n)))
  last-fails some ((false, k) ∷ rows) n e = last-fails some rows (and_right (ltb 0 k) _ n) e

  -- it answers the last number, which no row before has: no row before it holds, and it does
  pub last-holds : 0 < number → (rows : Table) → every (λ k. not (eqb k number)) rows ≡ true
      → first_of (rows ++ ((when, number) ∷ [])) ≡ number → (first_of rows ≡ 0) × (when ≡ true)
  unfolding first_of
  last-holds some [] n e = (refl, alone when e)
    where
      alone : (t : Bool) → cond t number 0 ≡ number → t ≡ true
      alone true f = refl
      alone false f = absurd (omega arith)
  last-holds some ((true, k) ∷ rows) n e = absurd (eqb-false k number (not-true _ (and_left (not (eqb k number)) _ n)) e)
  last-holds some ((false, k) ∷ rows) n e = last-holds some rows (and_right (not (eqb k number)) _ n) e
