-- The rows that are worked out from the last to the first: how it starts, one row more, how it ends. A row is worked out from what the map held before,
-- for the rows below it, whose vectors stand behind its ways, change nothing of it.
-- Assumes nothing.
use mathlib.Core.Path.{◌≡◌, refl, sym, ap, ◌∙◌}
use mathlib.Core.Logic.{⊎_elim}
use mathlib.Core.List.{List}
use Prim.Native.Nat.{ℕ, suc, ◌+◌, ◌-◌, ◌*◌, ◌/◌, ◌%◌, ◌<◌, ◌≤◌}
use native.Mathlib.Decide.{dec_lt, ℕ_discrete}
use native.Mathlib.Nat.{mul-le-mul_right}
use native.Mathlib.Omega.{arith}
use lib.IntN.{ℤ, pos}
use lib.ListN.{length, get_or}
use Rattle.raster.specs.Map.{dx_at, dy_at}
use Rattle.raster.specs.Pixels.{index}
use Rattle.envelope.specs.Best.{best_site}
use Rattle.envelope.specs.BestLaws.{best-found}
use Rattle.exact.specs.Rows.{way_cost, way_at, row_costs, across, site_way, Written, Solved}
use Rattle.exact.proofs.Prices.{best-same, row_cost}

-- pixels that are left alone, number by number
numbers : (n : ℕ) (m o : List ℤ) → ((p : ℕ) → p < n → (dx_at o p ≡ dx_at m p) × (dy_at o p ≡ dy_at m p)) → (i : ℕ) → i < 2 * n
    → get_or o i (pos 0) ≡ get_or m i (pos 0)
numbers n m o same i l = elim (ℕ_discrete (i % 2) 0) [
  | yes e ↦ let f : 2 * (i / 2) ≡ i = omega arith in rw f at (same (i / 2) (omega arith)).0
  | no e ↦ let f : 2 * (i / 2) + 1 ≡ i = omega arith in rw f at (same (i / 2) (omega arith)).1
]

-- the rows from y on are worked out, and what stands before them is as it was
pub record SolvedFrom (w h : ℕ) (before : List ℤ) (y : ℕ) (after : List ℤ) : Type 0 where
  pub on : y ≤ h
  pub long : length after ≡ length before
  pub dx : (x z : ℕ) → x < w → y ≤ z → z < h → dx_at after (index w x z) ≡ across (best_site (row_costs before (z * w) w) w x) x
  pub dy : (x z : ℕ) → x < w → y ≤ z → z < h → dy_at after (index w x z) ≡ site_way (way_at before (z * w)) (best_site (row_costs before (z * w) w) w x)
  pub low_kept : (i : ℕ) → i < 2 * (y * w) → get_or after i (pos 0) ≡ get_or before i (pos 0)

-- the row before row y ends where row y begins, on the sheet
pub row_before : (w h y : ℕ) → 0 < y → y ≤ h → (y - 1) * w + w ≤ h * w
row_before w h y l m = let e : suc (y - 1) ≤ h = omega arith in omega (arith, mul-le-mul_right w e)

module _ {w h : ℕ} {m : List ℤ} where
  pub solved_none : SolvedFrom w h m h m
  solved_none = record {
    on = omega arith;
    long = refl;
    dx = λ x z a b c. absurd (omega arith);
    dy = λ x z a b c. absurd (omega arith);
    low_kept = λ i l. refl;
  }

  module _ {y : ℕ} {n : List ℤ} (s : SolvedFrom w h m y n) where
    pub solved_all : y ≡ 0 → Solved w h m n
    solved_all e = record { long = s.long; dx = λ x z a b. s.dx x z a (omega arith) b; dy = λ x z a b. s.dy x z a (omega arith) b }

    pub solved_more : (z : ℕ) {o : List ℤ} → w ≤ 2048 → y ≡ z + 1
        → Written (z * w) 0 w (way_at n (z * w)) (best_site (row_costs n (z * w) w) w) n o → SolvedFrom w h m z o
    solved_more z {o} few next r = record {
      on = omega (arith, s.on);
      long = r.long ∙ s.long;
      dx = λ x a i j k. elim (dec_lt z a) [
        | yes l ↦ (r.high_kept (index w x a) (omega (arith, mul-le-mul_right w l))).0 ∙ s.dx x a i (omega arith) k
        | no l ↦ let e : a ≡ z = omega arith in rw e (r.dx x (omega arith) i ∙ ap (λ (b : ℕ). across b x) (best x))
      ];
      dy = λ x a i j k. elim (dec_lt z a) [
        | yes l ↦ (r.high_kept (index w x a) (omega (arith, mul-le-mul_right w l))).1 ∙ s.dy x a i (omega arith) k
        | no l ↦ let e : a ≡ z = omega arith in rw e (r.dy x (omega arith) i ∙ ap (site_way (way_at n (z * w))) (best x) ∙ ways x)
      ];
      low_kept = λ i l. numbers (z * w) n o (λ p k. r.low_kept p (omega arith)) i l ∙ s.low_kept i (omega (arith, rows));
    }
      where
        rows : y * w ≡ z * w + w
        rows = rw next (omega arith)

        way : (k : ℕ) → k < w → way_at n (z * w) k ≡ way_at m (z * w) k
        way k l = s.low_kept (z * w + k) (omega (arith, rows))

        best : (x : ℕ) → best_site (row_costs n (z * w) w) w x ≡ best_site (row_costs m (z * w) w) w x
        best x =
            best-same (row_costs n (z * w) w) (row_costs m (z * w) w) x w (omega arith)
            (λ j l. row_cost n (z * w) w j l ∙ ap way_cost (way j l) ∙ sym (row_cost m (z * w) w j l))

        ways : (x : ℕ) → site_way (way_at n (z * w)) (best_site (row_costs m (z * w) w) w x) ≡ site_way (way_at m (z * w)) (best_site (row_costs m (z * w) w) w x)
        ways x = ⊎_elim (λ b. rw b.0) (λ b. rw (way _ b.below)) (best-found (row_costs m (z * w) w) w x (omega arith))
