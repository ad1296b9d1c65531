-- Laws of `price`, `better` and `best_site`.
-- Assumes nothing.
use Rattle.std.specs.Prelude.{ℕ, zero, suc, ◌+◌, ◌*◌, ◌<◌, ◌≤◌, ◌≡◌, refl, ◌⊎◌, List, get_or}
use Rattle.std.proofs.Common.{arith, mul-le-mul, ap, inl, inr, ⊎_elim}
use Rattle.std.proofs.Math.Decide.{dec_lt, ℕ_discrete}
use borrow.Author.Tests.{lt-ltb, le-ltb, eq-eqb, ne_eqb}
use Rattle.raster.specs.DistanceLaws.{gap-square}
use Rattle.envelope.specs.Best.{no_cost, no_site, price_of, price, Site, better, best_site}

-- one of two numbers is less, or not
pub order : (a b : ℕ) → (a < b) ⊎ (b ≤ a)
order a b = elim (dec_lt a b) [ yes h ↦ inl h | no h ↦ inr (omega arith) ]

-- a product of two places
pub area : (a b : ℕ) → a < 2048 → b < 2048 → a * b < 4194304
area a b h k = omega (arith, mul-le-mul {n₁ = a} {m₁ = b} {n₂ = 2047} {m₂ = 2047} (omega arith) (omega arith))

-- a price without the gap
pub price_sum : (x k g : ℕ) → price_of x k g + 2 * (x * k) ≡ x * x + k * k + g
unfolding price_of
price_sum x k g = omega (arith, gap-square x k)

-- `better` by cases
module _ (G : List ℕ) (x b k : ℕ) where
  pub better-none : no_cost ≤ get_or G k 0 → better G x b k ≡ b
  unfolding better
  better-none h = simp (le-ltb _ _ h)

  pub better-first : Site G k → b ≡ no_site → better G x b k ≡ k
  unfolding better
  better-first h e = simp (lt-ltb _ _ h, eq-eqb _ _ e)

  pub better-new : Site G k → price G x k < price G x b → better G x b k ≡ k
  unfolding better
  better-new h e = elim (ℕ_discrete b no_site) [ yes i ↦ better-first h i | no i ↦ simp (lt-ltb _ _ h, ne_eqb _ _ i, lt-ltb _ _ e) ]

  pub better-old : Site G k → (b ≡ no_site → ⊥) → price G x b ≤ price G x k → better G x b k ≡ b
  unfolding better
  better-old h i e = simp (lt-ltb _ _ h, ne_eqb _ _ i, le-ltb _ _ e)

-- b is the least site of least cost at x among the places below k
pub record Least (G : List ℕ) (k x b : ℕ) : Type 0 where
  pub below : b < k
  pub site : Site G b
  pub least : (s : ℕ) → s < k → Site G s → price G x b ≤ price G x s
  pub first : (s : ℕ) → s < b → Site G s → price G x b < price G x s

-- what `best_site` finds: no site and `no_site`, or the least site of least cost
abbrev pub Found : List ℕ → ℕ → ℕ → ℕ → Type 0
Found G k x b = ((b ≡ no_site) × ((s : ℕ) → s < k → Site G s → ⊥)) ⊎ Least G k x b

below_suc : (s k : ℕ) → s < suc k → (s < k) ⊎ (s ≡ k)
below_suc s k h = ⊎_elim (λ l. inl l) (λ l. inr (omega arith)) (order s k)

-- the place k is no site: nothing changes
skip : (G : List ℕ) (k x b : ℕ) → no_cost ≤ get_or G k 0 → Found G k x b → Found G (suc k) x b
skip G k x b h (inl e) = inl (e.0, λ s l i. ⊎_elim (λ m. e.1 s m i) (λ m. omega (arith, ap (λ (t : ℕ). get_or G t 0) m)) (below_suc s k l))
skip G k x b h (inr e) =
    inr (record {
      below = omega arith;
      site = e.site;
      least = λ s l i. ⊎_elim (λ m. e.least s m i) (λ m. absurd (no s i m)) (below_suc s k l);
      first = e.first;
    })
  where
    no : (s : ℕ) → Site G s → s ≡ k → ⊥
    no s i m = omega (arith, ap (λ (t : ℕ). get_or G t 0) m)

-- the site k beats all before it
take-new : (G : List ℕ) (k x : ℕ) → Site G k → ((s : ℕ) → s < k → Site G s → price G x k < price G x s) → Least G (suc k) x k
take-new G k x h w =
    record {
      below = omega arith;
      site = h;
      least = λ s l i. ⊎_elim (λ m. omega (arith, w s m i)) (λ m. omega (arith, ap (λ (t : ℕ). price G x t) m)) (below_suc s k l);
      first = w;
    }

-- the site k does not beat b
keep_old : (G : List ℕ) (k x b : ℕ) → Least G k x b → price G x b ≤ price G x k → Least G (suc k) x b
keep_old G k x b e h =
    record {
      below = omega arith;
      site = e.site;
      least = λ s l i. ⊎_elim (λ m. e.least s m i) (λ m. omega (arith, ap (λ (t : ℕ). price G x t) m)) (below_suc s k l);
      first = e.first;
    }

next : (G : List ℕ) (k x b : ℕ) → k < no_site → Found G k x b → Found G (suc k) x (better G x b k)
next G k x b n f = ⊎_elim (λ h. go h f) (λ h. rw (better-none G x b k h) (skip G k x b h f)) (order (get_or G k 0) no_cost)
  where
    go : Site G k → Found G k x b → Found G (suc k) x (better G x b k)
    go h (inl e) = rw (better-first G x b k h e.0) (inr (take-new G k x h (λ s l i. absurd (e.1 s l i))))
    go h (inr e) =
        ⊎_elim
        (λ l. rw (better-new G x b k h l) (inr (take-new G k x h (λ s m i. omega (arith, e.least s m i)))))
        (λ l. rw (better-old G x b k h (omega (arith, e.below)) l) (inr (keep_old G k x b e l)))
        (order (price G x k) (price G x b))

-- the law: `best_site` finds the least site of least cost, or `no_site` where there is none
pub best-found : (G : List ℕ) (k x : ℕ) → k ≤ no_site → Found G k x (best_site G k x)
unfolding best_site
best-found G zero x n = inl (refl, λ s l i. omega arith)
best-found G (suc k) x n = next G k x (best_site G k x) n (best-found G k x (omega arith))
