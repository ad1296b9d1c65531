-- The runs of a row: how one starts, one pixel more, one that is a fill of the map, and two that meet or overlap.
-- Assumes nothing.
use mathlib.Core.Path.{◌≡◌, refl, sym, ap, ◌∙◌}
use mathlib.Core.Logic.{◌≢◌}
use mathlib.Core.List.{List, ◌++◌}
use Prim.Native.Nat.{ℕ, ◌+◌, ◌-◌, ◌*◌, ◌<◌, ◌≤◌}
use native.Mathlib.Decide.{dec_lt, ℕ_discrete}
use native.Mathlib.Omega.{arith}
use lib.IntN.{ℤ, pos, ◌-ℤ◌, +ℤ_invr}
use lib.ListN.{length, get_or, take, drop, replicate, get_or-append, length-append, length-drop, length-replicate}
use lib.Seq.{get_or-take, get_or-drop, get_or-append-add, length-take-le}
use borrow.Rule.Slice.PartMut.{put_mid}
use Rattle.std.proofs.lemmas.List.{get_or-replicate}
use borrow.Author.Tests.{ne_eqb}
use Rattle.raster.specs.Map.{Inside, dx_at, dy_at, put}
use Rattle.raster.specs.MapLaws.{put-length, put-dx, put-dy, put-dx-other, put-dy-other}
use Rattle.envelope.specs.Best.{no_site}
use Rattle.exact.specs.Rows.{across, site_way, Written}

-- a column below 2,048 is one, not none
module _ (s : ℕ) (few : s < 2048) where
  pub across_site : (x : ℕ) → pos s -ℤ pos x ≡ across s x
  across_site x = rw (ne_eqb s no_site (omega arith))

  pub along_site : (v : ℕ → ℤ) → v s ≡ site_way v s
  along_site v = rw (ne_eqb s no_site (omega arith))

-- the vector from a copper pixel to itself is (0, 0)
pub across-self : (x : ℕ) → x < 2048 → (pos 0 ≡ across x x) × (pos 0 ≡ site_way (λ b. pos 0) x)
across-self x few = (sym (+ℤ_invr (pos x)) ∙ across_site x few x, along_site x few (λ b. pos 0))

-- what a write and the next one leave alone, both together do
chain : {a b c d e f : ℤ} → (a ≡ b) × (d ≡ e) → (b ≡ c) × (e ≡ f) → (a ≡ c) × (d ≡ f)
chain p q = (p.0 ∙ q.0, p.1 ∙ q.1)

-- one pixel is written, and the others are left alone
put_other : (p : ℕ) (dx dy : ℤ) (m : List ℤ) (q : ℕ) → q ≢ p → (dx_at (put p dx dy m) q ≡ dx_at m q) × (dy_at (put p dx dy m) q ≡ dy_at m q)
put_other p dx dy m q n = (put-dx-other p dx dy m q n, put-dy-other p dx dy m q n)

-- ---- a list, k of whose numbers from a on are set to z

module _ (a k : ℕ) (z : ℤ) (m : List ℤ) (room : a + k ≤ length m) where
  abbrev spread : List ℤ
  spread = take a m ++ (replicate k z ++ drop k (drop a m))

  front : length (take a m) ≡ a
  front = length-take-le a m (omega arith)

  spread-long : length spread ≡ length m
  spread-long = simp (length-append, length-replicate, length-drop) (omega (arith, front))

  before : (i : ℕ) → i < a → get_or spread i (pos 0) ≡ get_or m i (pos 0)
  before i l = get_or-append (take a m) _ (pos 0) i (omega (arith, front)) ∙ get_or-take a m i (pos 0) l

  past : (j : ℕ) → get_or spread (a + j) (pos 0) ≡ get_or (replicate k z ++ drop k (drop a m)) j (pos 0)
  past j = ap (λ (t : ℕ). get_or spread (t + j) (pos 0)) (sym front) ∙ get_or-append-add (take a m) _ j (pos 0)

  inside : (i : ℕ) → a ≤ i → i < a + k → get_or spread i (pos 0) ≡ z
  inside i h l =
      let e : a + (i - a) ≡ i = omega arith in
      ap (λ (t : ℕ). get_or spread t (pos 0)) (sym e)
      ∙ past (i - a)
      ∙ get_or-append (replicate k z) _ (pos 0) (i - a) (simp length-replicate (omega arith))
      ∙ get_or-replicate k (i - a) z (pos 0) (omega arith)

  after : (i : ℕ) → a + k ≤ i → get_or spread i (pos 0) ≡ get_or m i (pos 0)
  after i h =
      let e : a + (k + (i - (a + k))) ≡ i = omega arith in
      ap (λ (t : ℕ). get_or spread t (pos 0)) (sym e)
      ∙ past (k + (i - (a + k)))
      ∙ ap (λ (t : ℕ). get_or (replicate k z ++ drop k (drop a m)) (t + (i - (a + k))) (pos 0)) (sym (length-replicate k z))
      ∙ get_or-append-add (replicate k z) _ (i - (a + k)) (pos 0)
      ∙ get_or-drop k (drop a m) (i - (a + k)) (pos 0)
      ∙ get_or-drop a m (k + (i - (a + k))) (pos 0)
      ∙ ap (λ (t : ℕ). get_or m t (pos 0)) e

-- ---- one run

module _ {base from : ℕ} {v : ℕ → ℤ} {best : ℕ → ℕ} {m : List ℤ} where
  pub run_none : Written base from from v best m m
  run_none = record {
    long = refl;
    dx = λ x h l. absurd (omega arith);
    dy = λ x h l. absurd (omega arith);
    low_kept = λ p l. (refl, refl);
    high_kept = λ p l. (refl, refl);
  }

  pub run_more : {x : ℕ} {dx dy : ℤ} {n o : List ℤ} → Written base from x v best m n → from ≤ x → Inside (base + x) n
      → dx ≡ across (best x) x → dy ≡ site_way v (best x) → o ≡ put (base + x) dx dy n → Written base from (x + 1) v best m o
  run_more {x} {n = n} w h i f g e = rw (e, f, g) (record {
    long = put-length (base + x) _ _ n ∙ w.long;
    dx = λ z l k. elim (ℕ_discrete z x) [
      | yes q ↦ rw q (put-dx (base + x) _ _ n i)
      | no q ↦ (put_other (base + x) _ _ n (base + z) (omega arith)).0 ∙ w.dx z l (omega arith)
    ];
    dy = λ z l k. elim (ℕ_discrete z x) [
      | yes q ↦ rw q (put-dy (base + x) _ _ n i)
      | no q ↦ (put_other (base + x) _ _ n (base + z) (omega arith)).1 ∙ w.dy z l (omega arith)
    ];
    low_kept = λ p l. chain (put_other (base + x) _ _ n p (omega arith)) (w.low_kept p l);
    high_kept = λ p l. chain (put_other (base + x) _ _ n p (omega arith)) (w.high_kept p (omega arith));
  })

  -- a run whose components are all z
  pub run_filled : {to a : ℕ} (z : ℤ) {ys : List ℤ} → from ≤ to → 2 * (base + to) ≤ length m → a ≡ 2 * (base + from)
      → ys ≡ replicate (length (take (2 * (base + to) - a) (drop a m))) z
      → ((x : ℕ) → from ≤ x → x < to → (z ≡ across (best x) x) × (z ≡ site_way v (best x)))
      → Written base from to v best m (put_mid a (2 * (base + to) - a) m ys)
  run_filled {to} {a} z h room f e same =
      let k = 2 * (base + to) - a in
      let r : a + k ≤ length m = omega arith in
      let n : length (take k (drop a m)) ≡ k = length-take-le k (drop a m) (simp length-drop (omega arith)) in
      rw (e, n) (record {
        long = spread-long a k z m r;
        dx = λ x i l. inside a k z m r (2 * (base + x)) (omega arith) (omega arith) ∙ (same x i l).0;
        dy = λ x i l. inside a k z m r (2 * (base + x) + 1) (omega arith) (omega arith) ∙ (same x i l).1;
        low_kept = λ p l. (before a k z m r (2 * p) (omega arith), before a k z m r (2 * p + 1) (omega arith));
        high_kept = λ p l. (after a k z m r (2 * p) (omega arith), after a k z m r (2 * p + 1) (omega arith));
      })

-- a run that goes to the columns that it should
pub run_same : {base a b : ℕ} {u v : ℕ → ℤ} {way best : ℕ → ℕ} {m o : List ℤ} → Written base a b u way m o
    → ((x : ℕ) → a ≤ x → x < b → (best x ≡ way x) × (site_way u (way x) ≡ site_way v (way x))) → Written base a b v best m o
run_same w same = record {
  long = w.long;
  dx = λ x i j. rw (same x i j).0 (w.dx x i j);
  dy = λ x i j. rw ((same x i j).0, ← (same x i j).1) (w.dy x i j);
  low_kept = w.low_kept;
  high_kept = w.high_kept;
}

-- two runs, the later one over the end of the earlier one
pub run_over : {base a b c d : ℕ} {v : ℕ → ℤ} {best : ℕ → ℕ} {m o q : List ℤ} → a ≤ b → b ≤ c → c ≤ d
    → Written base a c v best m o → Written base b d v best o q → Written base a d v best m q
run_over {base} {a} {b} {c} {d} h k l earlier later = record {
  long = later.long ∙ earlier.long;
  dx = λ x i j. elim (dec_lt x b) [
    | yes e ↦ (later.low_kept (base + x) (omega arith)).0 ∙ earlier.dx x i (omega arith)
    | no e ↦ later.dx x (omega arith) j
  ];
  dy = λ x i j. elim (dec_lt x b) [
    | yes e ↦ (later.low_kept (base + x) (omega arith)).1 ∙ earlier.dy x i (omega arith)
    | no e ↦ later.dy x (omega arith) j
  ];
  low_kept = λ p i. chain (later.low_kept p (omega arith)) (earlier.low_kept p i);
  high_kept = λ p i. chain (later.high_kept p i) (earlier.high_kept p (omega arith));
}

-- two runs that meet: the later one was written first, and the earlier one says what it should
pub run_join : {base a b n : ℕ} {u v : ℕ → ℤ} {way best : ℕ → ℕ} {m o q : List ℤ} → a ≤ b → b ≤ n
    → Written base b n v best m o → Written base a b u way o q
    → ((x : ℕ) → a ≤ x → x < b → (best x ≡ way x) × (site_way u (way x) ≡ site_way v (way x))) → Written base a n v best m q
run_join {base} {a} {b} {n} {u} {v} {way} {best} {m} {o} {q} h k later earlier same = record {
  long = earlier.long ∙ later.long;
  dx = λ x i j. elim (dec_lt x b) [
    | yes l ↦ rw (same x i l).0 (earlier.dx x i l)
    | no l ↦ (earlier.high_kept (base + x) (omega arith)).0 ∙ later.dx x (omega arith) j
  ];
  dy = λ x i j. elim (dec_lt x b) [
    | yes l ↦ rw ((same x i l).0, ← (same x i l).1) (earlier.dy x i l)
    | no l ↦ (earlier.high_kept (base + x) (omega arith)).1 ∙ later.dy x (omega arith) j
  ];
  low_kept = λ p i. chain (earlier.low_kept p i) (later.low_kept p (omega arith));
  high_kept = λ p i. chain (earlier.high_kept p (omega arith)) (later.high_kept p i);
}
