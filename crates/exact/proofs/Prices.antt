-- The working rows of ways and costs, and the best column, which goes by the row's costs alone.
-- Assumes nothing.
use mathlib.Core.Path.{◌≡◌, refl, sym, ap, ◌∙◌}
use mathlib.Core.Logic.{⊎_elim}
use mathlib.Core.List.{List, ◌++◌}
use Prim.Native.Nat.{ℕ, zero, suc, ◌<◌, ◌≤◌}
use native.Mathlib.Omega.{arith}
use lib.IntN.{ℤ, pos}
use lib.ListN.{get_or, get_or-append}
use Rattle.raster.specs.Pixels.{tabulate}
use Rattle.raster.specs.PixelsLaws.{tabulate-at, tabulate-length}
use Rattle.envelope.specs.Best.{no_site, better, best_site}
use Rattle.envelope.specs.BestLaws.{best-found}
use Rattle.exact.specs.Rows.{way_cost, site_way, way_at, row_costs, costs_of, Written}
use Rattle.exact.proofs.Runs.{run_same}

-- what stands in a working row whose first n numbers were written
pub tabulated : {A : Type 0} (d : A) (n : ℕ) (f : ℕ → A) (rest s : List A) → s ≡ tabulate n f ++ rest → (k : ℕ) → k < n → get_or s k d ≡ f k
tabulated d n f rest s e k l =
    ap (λ (t : List _). get_or t k d) e
    ∙ get_or-append (tabulate n f) rest d k (omega (arith, tabulate-length n f))
    ∙ tabulate-at n f k d l

-- ---- the best column goes by the costs of the row alone

module _ (G H : List ℕ) (x : ℕ) where
  pub best-same : (k : ℕ) → k ≤ no_site → ((j : ℕ) → j < k → get_or G j 0 ≡ get_or H j 0) → best_site G k x ≡ best_site H k x
  unfolding best_site better
  best-same zero small same = refl
  best-same (suc k) small same =
      let e = best-same k (omega arith) (λ j l. same j (omega arith)) in
      let f = same k (omega arith) in
      rw (← e) (⊎_elim
      (λ n. rw (n.0, f))
      (λ b. rw (f, same (best_site G k x) (omega (arith, b.below))))
      (best-found G k x (omega arith)))

pub row_cost : (m : List ℤ) (base w j : ℕ) → j < w → get_or (row_costs m base w) j 0 ≡ way_cost (way_at m base j)
unfolding row_costs
row_cost m base w j l = tabulate-at w _ j 0 l

pub costs-at : (ways : List ℤ) (w j : ℕ) → j < w → get_or (costs_of ways w) j 0 ≡ way_cost (get_or ways j (pos 0))
unfolding costs_of
costs-at ways w j l = tabulate-at w _ j 0 l

pub priced-at : (ways : List ℤ) (n : ℕ) (rest cost : List ℕ) → cost ≡ costs_of ways n ++ rest → (k : ℕ) → k < n → get_or cost k 0 ≡ way_cost (get_or ways k (pos 0))
unfolding costs_of
priced-at ways n rest cost e = tabulated 0 n _ rest cost e

-- costs that stand in a working row are as good as the list of them
pub priced-best : (ways : List ℤ) (cost : List ℕ) (w x : ℕ) → w ≤ 2048 → ((k : ℕ) → k < w → get_or cost k 0 ≡ way_cost (get_or ways k (pos 0)))
    → best_site (costs_of ways w) w x ≡ best_site cost w x
priced-best ways cost w x few p = best-same (costs_of ways w) cost x w (omega arith) (λ j k. costs-at ways w j k ∙ sym (p j k))

-- a row that is written by the ways in the working row goes to the best columns
pub row_solved : (ways : List ℤ) {m : List ℤ} {base w : ℕ} {o : List ℤ} → w ≤ 2048 → ((k : ℕ) → k < w → get_or ways k (pos 0) ≡ way_at m base k)
    → Written base 0 w (λ b. get_or ways b (pos 0)) (best_site (costs_of ways w) w) m o → Written base 0 w (way_at m base) (best_site (row_costs m base w) w) m o
row_solved ways {m} {base} {w} few p r = run_same r (λ x h l. (best x, way x))
  where
    best : (x : ℕ) → best_site (row_costs m base w) w x ≡ best_site (costs_of ways w) w x
    best x = best-same (row_costs m base w) (costs_of ways w) x w (omega arith) (λ j k. row_cost m base w j k ∙ ap way_cost (sym (p j k)) ∙ sym (costs-at ways w j k))

    way : (x : ℕ) → site_way (λ k. get_or ways k (pos 0)) (best_site (costs_of ways w) w x) ≡ site_way (way_at m base) (best_site (costs_of ways w) w x)
    way x = ⊎_elim (λ n. rw n.0) (λ s. rw (p _ s.below)) (best-found (costs_of ways w) w x (omega arith))
