-- Columns raised: one number by a loop, a run of columns, and two runs that meet.
-- Assumes nothing.
use mathlib.Core.Path.{◌≡◌, refl, sym, ◌∙◌}
use mathlib.Core.Bool.{Bool, false, ◌||◌, or-true}
use mathlib.Core.List.{List}
use Prim.Native.Nat.{ℕ, ◌+◌, ◌-◌, ◌*◌, ◌<◌, ◌≤◌}
use native.Mathlib.Decide.{dec_lt}
use native.Mathlib.Omega.{arith}
use lib.Dec.{ltb}
use borrow.Author.Tests.{lt-ltb, le-ltb}
use Rattle.rebuild.specs.Passes.{Raised, RowRaised}

-- ---- one number

-- the rows from the t-th and the r₀-th on, up to the r-th, are covered
pub record Raising (t price r₀ r : ℕ) : Type 0 where
  pub after : t ≤ r
  pub more : r₀ ≤ r
  pub held : (k : ℕ) → t ≤ k → r₀ ≤ k → k < r → (k - t) * (k - t) + price < 2147483648

module _ {t price r₀ : ℕ} where
  pub raising_none : {r : ℕ} → r ≡ t + (r₀ - t) → Raising t price r₀ r
  raising_none e = record { after = omega arith; more = omega arith; held = λ k a b l. absurd (omega arith) }

  pub raising_more : {r : ℕ} → Raising t price r₀ r → (r - t) * (r - t) + price < 2147483648 → Raising t price r₀ (r + 1)
  raising_more {r} g l = record {
    after = omega (arith, g.after);
    more = omega (arith, g.more);
    held = λ k a b m. elim (dec_lt k r) [
      | yes q ↦ g.held k a b q
      | no q ↦ let e : k ≡ r = omega arith in rw e l
    ];
  }

  -- the loop stops where the test fails, or at the last row
  pub raising_end : {h r : ℕ} → Raising t price r₀ r → ((k : ℕ) → r ≤ k → k < h → 2147483648 ≤ (k - t) * (k - t) + price)
      → Raised t h (λ k. ltb ((k - t) * (k - t) + price) 2147483648) r₀ r
  raising_end {h} {r} g stop = record { says = λ k a b. go k a b (dec_lt k r) (dec_lt k r₀) }
    where
      go : (k : ℕ) → t ≤ k → k < h → Dec (k < r) → Dec (k < r₀) → ltb k r ≡ ltb ((k - t) * (k - t) + price) 2147483648 || ltb k r₀
      go k a b (no p) q = rw (le-ltb k r (omega arith), le-ltb ((k - t) * (k - t) + price) 2147483648 (stop k (omega arith) b), le-ltb k r₀ (omega (arith, g.more)))
      go k a b (yes p) (yes q) = rw (lt-ltb k r p, lt-ltb k r₀ q) (sym (or-true (ltb ((k - t) * (k - t) + price) 2147483648)))
      go k a b (yes p) (no q) = rw (lt-ltb k r p, lt-ltb ((k - t) * (k - t) + price) 2147483648 (g.held k a (omega arith) p))

-- tests that agree from the t-th row on
pub raised-same : {t h : ℕ} {f g : ℕ → Bool} {r₀ r : ℕ} → ((k : ℕ) → t ≤ k → k < h → g k ≡ f k) → Raised t h f r₀ r → Raised t h g r₀ r
raised-same {t} {h} {f} {g} {r₀} {r} e s = record { says = λ k a b. rw (e k a b) (s.says k a b) }

-- ---- a run of columns

-- a run that raises nothing
pub lift_bare : {t h from to : ℕ} {before : List ℕ} → RowRaised t h from to (λ x k. false) before before
lift_bare = record { long = refl; here = λ x a b. record { says = λ k e f. refl }; low_kept = λ x l. refl; high_kept = λ x l. refl }

-- two runs that meet: the later one was raised first, and the earlier one as it should be
pub lift_join : {t h a b n : ℕ} {hit run : ℕ → ℕ → Bool} {before o after : List ℕ} → a ≤ b → b ≤ n → RowRaised t h b n hit before o → RowRaised t h a b run o after
    → ((x : ℕ) → a ≤ x → x < b → (k : ℕ) → hit x k ≡ run x k) → RowRaised t h a n hit before after
lift_join {t} {h} {a} {b} {n} {hit} {run} {before} {o} {after} l m later earlier same = record {
  long = earlier.long ∙ later.long;
  here = λ x i j. elim (dec_lt x b) [
    | yes e ↦ rw (← later.low_kept x e) (raised-same (λ k p q. same x i e k) (earlier.here x i e))
    | no e ↦ rw (earlier.high_kept x (omega arith)) (later.here x (omega arith) j)
  ];
  low_kept = λ x i. earlier.low_kept x i ∙ later.low_kept x (omega arith);
  high_kept = λ x i. earlier.high_kept x (omega arith) ∙ later.high_kept x i;
}
