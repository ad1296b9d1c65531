-- A row that is written by its parts: one part, the copper after it, and the loop over them: how it starts, one part more, how it ends.
-- Assumes nothing.
use mathlib.Core.Path.{◌≡◌, refl, sym, ap, ◌∙◌}
use mathlib.Core.Logic.{inl, inr}
use mathlib.Core.List.{List}
use Prim.Native.Nat.{ℕ, ◌+◌, ◌-◌, ◌<◌, ◌≤◌, min}
use native.Mathlib.Decide.{dec_lt}
use native.Mathlib.Omega.{arith}
use lib.IntN.{ℤ, pos, neg_ℤ, ◌+ℤ◌, ◌-ℤ◌, +ℤ_assoc, neg_ℤ-+ℤ, +ℤ-neg_ℤ_cancel}
use lib.ListN.{get_or}
use Rattle.raster.specs.Map.{dx_at, dy_at}
use Rattle.envelope.specs.Best.{best_site}
use Rattle.exact.specs.Rows.{way_cost, costs_of, across, site_way, Written, part, CopperRun, CopperEnd, Next}
use Rattle.exact.proofs.Prices.{costs-at, priced-best}
use Rattle.exact.proofs.Runs.{across_site, along_site, run_none, run_same, run_over}
use Rattle.exact.proofs.Split.{copper-each, Part, part_at, Same, best_part, best-copper}

-- ---- a part

-- the way from column to column is the same in the part and in the row
way_same : (lo b x : ℕ) → pos (lo + b) -ℤ pos (lo + x) ≡ pos b -ℤ pos x
way_same lo b x =
    let e : lo + b ≡ b + lo = omega arith in
    ap (λ (t : ℕ). pos t -ℤ pos (lo + x)) e
    ∙ ap (λ (t : ℤ). pos (b + lo) +ℤ t) (neg_ℤ-+ℤ (pos lo) (pos x))
    ∙ sym (+ℤ_assoc (pos (b + lo)) (neg_ℤ (pos lo)) (neg_ℤ (pos x)))
    ∙ ap (λ (t : ℤ). t -ℤ pos x) (+ℤ-neg_ℤ_cancel (pos b) (pos lo))

-- copper costs nothing
copper-cost : (ways : List ℤ) (w k : ℕ) → k < w → get_or ways k (pos 0) ≡ pos 0 → get_or (costs_of ways w) k 0 ≡ 0
copper-cost ways w k l e = costs-at ways w k l ∙ ap way_cost e

-- a part that is written as a row of its own is written as the row asks
part_solved : {base w lo hi : ℕ} (ways : List ℤ) {m o : List ℤ} → w ≤ 2048 → lo ≤ hi → Part (costs_of ways w) w lo hi
    → Written (base + lo) 0 (hi - lo) (λ b. get_or (part lo hi ways) b (pos 0)) (best_site (costs_of (part lo hi ways) (hi - lo)) (hi - lo)) m o
    → Written base lo hi (λ b. get_or ways b (pos 0)) (best_site (costs_of ways w) w) m o
part_solved {base} {w} {lo} {hi} ways {m} {o} few order p r = record {
  long = r.long;
  dx = λ x i l. (at x i l).0;
  dy = λ x i l. (at x i l).1;
  low_kept = λ q i. r.low_kept q (omega arith);
  high_kept = λ q i. r.high_kept q (omega arith);
}
  where
    -- the vector to the best site of the part is the one to that of the row
    vector : (j : ℕ) {b c : ℕ} → Same lo hi b c
        → (across b j ≡ across c (lo + j)) × (site_way (λ k. get_or (part lo hi ways) k (pos 0)) b ≡ site_way (λ k. get_or ways k (pos 0)) c)
    vector j (inl (e, f)) = rw (e, f) (refl, refl)
    vector j {b} (inr (l, e)) =
        let i : b < 2048 = omega (arith, p.on) in
        let k : lo + b < 2048 = omega (arith, p.on) in
        rw e (
          sym (across_site b i j) ∙ sym (way_same lo b j) ∙ across_site (lo + b) k (lo + j),
          sym (along_site b i (λ t. get_or (part lo hi ways) t (pos 0))) ∙ part_at lo hi ways b (pos 0) l ∙ along_site (lo + b) k (λ t. get_or ways t (pos 0)),
        )

    -- the part's own costs are those of the row
    own : (j : ℕ) → best_site (costs_of (part lo hi ways) (hi - lo)) (hi - lo) j ≡ best_site (part lo hi (costs_of ways w)) (hi - lo) j
    own j =
        priced-best (part lo hi ways) (part lo hi (costs_of ways w)) (hi - lo) j (omega (arith, p.on))
        (λ k l. part_at lo hi (costs_of ways w) k 0 l ∙ costs-at ways w (lo + k) (omega (arith, p.on)) ∙ ap way_cost (sym (part_at lo hi ways k (pos 0) l)))

    pixel : (j : ℕ) → j < hi - lo
        → (dx_at o (base + lo + j) ≡ across (best_site (costs_of ways w) w (lo + j)) (lo + j))
        × (dy_at o (base + lo + j) ≡ site_way (λ b. get_or ways b (pos 0)) (best_site (costs_of ways w) w (lo + j)))
    pixel j l =
        let v = rw (← own j) at (vector j (best_part (costs_of ways w) w lo hi few p j l)) in
        (r.dx j (omega arith) l ∙ v.0, r.dy j (omega arith) l ∙ v.1)

    at : (x : ℕ) → lo ≤ x → x < hi → (dx_at o (base + x) ≡ across (best_site (costs_of ways w) w x) x) × (dy_at o (base + x) ≡ site_way (λ b. get_or ways b (pos 0)) (best_site (costs_of ways w) w x))
    at x i l =
        let e : lo + (x - lo) ≡ x = omega arith in
        let f : base + lo + (x - lo) ≡ base + x = omega arith in
        rw (e, f) at (pixel (x - lo) (omega arith))

-- ---- copper

-- copper that goes to itself goes to its best column
copper_solved : {base w from to : ℕ} (ways : List ℤ) {m o : List ℤ} → w ≤ 2048 → CopperEnd ways from w to
    → Written base from to (λ b. pos 0) (λ x. x) m o → Written base from to (λ b. get_or ways b (pos 0)) (best_site (costs_of ways w) w) m o
copper_solved {w = w} ways few c r = run_same r (λ x i j.
    let z = c.copper x i j in
    let l : x < w = omega (arith, c.on) in
    (best-copper (costs_of ways w) w x few l (copper-cost ways w x l z), ap (λ (t : ℤ). site_way (λ _. t) x) (sym z)))

-- a part, and the copper after it
pub next_solved : {base w lo done x hi e : ℕ} (ways : List ℤ) {m n o : List ℤ} → w ≤ 2048
    → lo ≤ done → done < w → (0 < lo → get_or ways lo (pos 0) ≡ pos 0)
    → CopperRun ways done w x → hi ≡ min (x + 1) w
    → Written (base + lo) 0 (hi - lo) (λ b. get_or (part lo hi ways) b (pos 0)) (best_site (costs_of (part lo hi ways) (hi - lo)) (hi - lo)) m n
    → CopperEnd ways x w e → Written base x e (λ b. pos 0) (λ z. z) n o → Next base w lo done ways m e o
next_solved {base} {w} {lo} {done} {x} {hi} {e} ways few behind more left run ends part c copper = record {
  more = omega (arith, run.after, reached);
  on = c.on;
  copper = λ l. c.copper (e - 1) (omega (arith, reached)) (omega (arith, reached));
  written = run_over (omega (arith, run.after)) (omega (arith, run.on)) reached
      (part_solved ways few (omega (arith, run.after)) (record { on = omega (arith, run.on); left = λ l. copper-cost ways w lo (omega arith) (left l); right = right }) part)
      (copper_solved ways few c copper);
}
  where
    right : hi < w → get_or (costs_of ways w) (hi - 1) 0 ≡ 0
    right l = let s : hi - 1 ≡ x = omega arith in rw s (copper-cost ways w x (omega arith) (copper-each ways x 8 (run.copper (omega arith)) x (omega arith) (omega arith)))

    reached : hi ≤ e
    reached = elim (dec_lt x w) [ yes l ↦ omega (arith, c.some (run.room l) (run.copper l)) | no l ↦ omega (arith, run.on, c.after) ]

-- ---- all parts

-- the first `done` pixels are written, and the next part starts at lo, with copper
pub record Parted (base w : ℕ) (ways : List ℤ) (m : List ℤ) (lo done : ℕ) (o : List ℤ) : Type 0 where
  pub on : done ≤ w
  pub behind : lo ≤ done
  pub copper : done < w → 0 < lo → get_or ways lo (pos 0) ≡ pos 0
  pub written : Written base 0 done (λ b. get_or ways b (pos 0)) (best_site (costs_of ways w) w) m o

module _ {base w : ℕ} {ways m : List ℤ} where
  pub parted_none : Parted base w ways m 0 0 m
  parted_none = record { on = omega arith; behind = omega arith; copper = λ l i. absurd (omega arith); written = run_none }

  pub parted_more : {lo done e : ℕ} {o q : List ℤ} → Parted base w ways m lo done o → Next base w lo done ways o e q
      → Parted base w ways m (e - 1) e q
  parted_more p n = record {
    on = n.on;
    behind = omega arith;
    copper = λ l i. n.copper l;
    written = run_over (omega arith) p.behind (omega (arith, n.more)) p.written n.written;
  }

  pub parted_all : {lo done : ℕ} {o : List ℤ} → Parted base w ways m lo done o → w ≤ done
      → Written base 0 w (λ b. get_or ways b (pos 0)) (best_site (costs_of ways w) w) m o
  parted_all {lo} {done} p h = let e : done ≡ w = omega (arith, p.on) in rw e at p.written
