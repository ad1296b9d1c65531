-- Laws of the hull: which entries a new site makes superfluous, and why the entries that are left, with their starts, are the envelope.
-- Assumes nothing.
use Prim.Native.Nat.{ℕ, zero, suc, ◌+◌, ◌-◌, ◌*◌, ◌/◌, ◌<◌, ◌≤◌}
use native.Mathlib.Omega.{arith}
use native.Mathlib.Numerals.{add-one}
use native.Mathlib.Nat.{div-lt_iff_lt-mul, mul-le-mul_right, mul-le-mul_left}
use native.Mathlib.Decide.{ℕ_discrete}
use mathlib.Core.Path.{◌≡◌, refl, sym, ap, ◌∙◌}
use mathlib.Core.Bool.{true, false}
use mathlib.Core.Logic.{◌⊎◌, inl, inr, ⊎_elim}
use mathlib.Core.List.{List}
use lib.ListN.{get_or, set, length}
use lib.Seq.{get_or-set_same, get_or-set_other}
use borrow.Author.Tests.{leb-true, leb-false, le-leb, lt-leb}
use Rattle.envelope.specs.Best.{no_cost, no_site, price, Site, better, best_site}
use Rattle.envelope.specs.BestLaws.{order, price_sum, better-none, better-first, better-new, better-old, Least, best-found}
use Rattle.envelope.specs.Stack.{holder, Envelope}
use Rattle.envelope.specs.Hull.{height_of, above_chord, crossing, Among, Hull, Half, Popped, Started}

-- a price by the point's height
price_height : (G : List ℕ) (x k : ℕ) → price G x k + 2 * (x * k) ≡ x * x + height_of G k
unfolding height_of
price_height G x k = omega (arith, price_sum x k (get_or G k 0))

-- three sites a, b and k, where b lies d to the right of a and k lies e to the right of b: how their prices A, B, K at x go with their heights u, v, w
chord : (x a d e b k A B K u v w : ℕ) → a + d ≡ b → b + e ≡ k → A + 2 * (x * a) ≡ x * x + u → B + 2 * (x * b) ≡ x * x + v → K + 2 * (x * k) ≡ x * x + w
    → K * d + A * e + v * (d + e) ≡ B * (d + e) + w * d + u * e
chord x a d e b k A B K u v w p q hA hB hK =
    omega (arith, ap (λ (t : ℕ). t * e) hA, ap (λ (t : ℕ). t * (d + e)) hB, ap (λ (t : ℕ). t * d) hK, ap (λ (t : ℕ). x * d * t) p, ap (λ (t : ℕ). x * e * t) p, ap (λ (t : ℕ). x * d * t) q)

-- three places from the left, at x
module _ (G : List ℕ) (x a b k : ℕ) (l : a < b) (m : b < k) where
  prices : price G x k * (b - a) + price G x a * (k - b) + height_of G b * ((b - a) + (k - b)) ≡ price G x b * ((b - a) + (k - b)) + height_of G k * (b - a) + height_of G a * (k - b)
  prices = chord x a (b - a) (k - b) b k _ _ _ _ _ _ (omega arith) (omega arith) (price_height G x a) (price_height G x b) (price_height G x k)

  -- `above_chord`, written with the sums of `prices`
  on_or_above : above_chord G a b k ≡ true → height_of G k * (b - a) + height_of G a * (k - b) ≤ height_of G b * ((b - a) + (k - b))
  unfolding above_chord
  on_or_above e = let d : (b - a) + (k - b) ≡ k - a = omega arith in rw d (leb-true _ _ e)

  below : above_chord G a b k ≡ false → height_of G b * ((b - a) + (k - b)) < height_of G k * (b - a) + height_of G a * (k - b)
  unfolding above_chord
  below e = let d : (b - a) + (k - b) ≡ k - a = omega arith in rw d (leb-false _ _ e)

  -- if b lies on or above the line, it costs no less than a, or more than k
  above_loses : above_chord G a b k ≡ true → (price G x a ≤ price G x b) ⊎ (price G x k < price G x b)
  above_loses e = ⊎_elim (λ h. inr (⊎_elim (λ i. i) (λ i. absurd (no h i)) (order (price G x k) (price G x b)))) (λ h. inl h) (order (price G x b) (price G x a))
    where
      no : price G x b < price G x a → price G x b ≤ price G x k → ⊥
      no h i = omega (arith, prices, on_or_above e, mul-le-mul_right (k - b) h, mul-le-mul_right (b - a) i)

  -- if b lies below the line, it costs less than a wherever k costs less than b
  under-wins : above_chord G a b k ≡ false → price G x k < price G x b → price G x b < price G x a
  under-wins e h = ⊎_elim (λ i. i) (λ i. absurd (no i)) (order (price G x b) (price G x a))
    where
      no : price G x a ≤ price G x b → ⊥
      no i = omega (arith, prices, below e, mul-le-mul_right (k - b) i, mul-le-mul_right (b - a) h)

  -- if b lies below the line and no lower than a, then k is no lower than b
  pub under-upward : above_chord G a b k ≡ false → height_of G a ≤ height_of G b → height_of G b ≤ height_of G k
  under-upward e h = ⊎_elim (λ i. absurd (no i)) (λ i. i) (order (height_of G k) (height_of G b))
    where
      no : height_of G k < height_of G b → ⊥
      no i = omega (arith, below e, mul-le-mul_right (k - b) h, mul-le-mul_right (b - a) i)

-- two places from the left
module _ (G : List ℕ) (x s k : ℕ) (l : s < k) where
  -- a lower point costs less everywhere
  lower_wins : height_of G k < height_of G s → price G x k < price G x s
  lower_wins h = omega (arith, price_height G x s, price_height G x k, mul-le-mul_left x l)

  module _ (p : height_of G s ≤ height_of G k) where
    -- from the crossing on the later site costs less, and before it not
    crossed : crossing G s k ≤ x → price G x k < price G x s
    unfolding crossing
    crossed a =
        let pos : 0 < 2 * (k - s) = omega arith in
        let q : height_of G k - height_of G s < x * (2 * (k - s)) = (div-lt_iff_lt-mul pos).0 (omega arith) in
        let d : s + (k - s) ≡ k = omega arith in
        omega (arith, price_height G x k, price_height G x s, ap (λ (t : ℕ). x * t) d)

    uncrossed : x < crossing G s k → price G x s ≤ price G x k
    unfolding crossing
    uncrossed a = ⊎_elim (λ b. absurd (no b)) (λ b. b) (order (price G x k) (price G x s))
      where
        no : price G x k < price G x s → ⊥
        no b =
            let pos : 0 < 2 * (k - s) = omega arith in
            let d : s + (k - s) ≡ k = omega arith in
            let q : height_of G k - height_of G s < x * (2 * (k - s)) = omega (arith, price_height G x k, price_height G x s, ap (λ (t : ℕ). x * t) d) in
            let r : (height_of G k - height_of G s) / (2 * (k - s)) < x = (div-lt_iff_lt-mul pos).1 q in
            omega arith

-- a site that another beats at x is not the best there
beaten : (G : List ℕ) (k x s t : ℕ) → k ≤ no_site → t < k → Site G t → ((t < s) × (price G x t ≤ price G x s)) ⊎ (price G x t < price G x s) → best_site G k x ≡ s → ⊥
beaten G k x s t n l i h e = ⊎_elim (λ f. f.1 t l i) (λ f. against f h) (best-found G k x n)
  where
    against : Least G k x (best_site G k x) → ((t < s) × (price G x t ≤ price G x s)) ⊎ (price G x t < price G x s) → ⊥
    against f (inl p) = omega (arith, (rw e at f).first t p.0 i, p.1)
    against f (inr p) = omega (arith, (rw e at f).least t l i, p)

-- an entry that is not the last is one of those below it
among-less : (site : List ℕ) (c b : ℕ) → 0 < c → Among site c b → (b ≡ get_or site (c - 1) 0 → ⊥) → Among site (c - 1) b
among-less site c b p m never = elim (ℕ_discrete m.entry (c - 1)) [ yes e ↦ absurd (never (m.is ∙ ap (λ (t : ℕ). get_or site t 0) e)) | no e ↦ record { entry = m.entry; below = omega (arith, m.below); is = m.is } ]

-- the last entry is taken off where it is never the best
half-less : (G : List ℕ) (k : ℕ) (site : List ℕ) (c : ℕ) → 0 < c → ((x : ℕ) → best_site G (k + 1) x ≡ get_or site (c - 1) 0 → ⊥) → Half G k site c → Half G k site (c - 1)
half-less G k site c p never half x = ⊎_elim (λ e. inl e) (λ m. inr (among-less site c _ p m (never x))) (half x)

module _ (G : List ℕ) (k : ℕ) (site : List ℕ) (c : ℕ) (h : Hull G k site c) (small : k < no_site) where
  -- the place k is no site
  pub hull_skip : no_cost ≤ get_or G k 0 → Hull G (k + 1) site c
  unfolding best_site
  hull_skip i =
      record {
        few = omega (arith, h.few);
        seen = λ j l. omega (arith, h.seen j l);
        real = h.real;
        rising = h.rising;
        upward = h.upward;
        convex = h.convex;
        holds = λ x. rw (add-one k, better-none G x (best_site G k x) k i) (h.holds x);
      }

  -- the place k is a site
  module _ (i : Site G k) where
    pub half-all : Half G k site c
    unfolding best_site
    half-all x = rw (add-one k) (⊎_elim first among (h.holds x))
      where
        first : best_site G k x ≡ no_site → (better G x (best_site G k x) k ≡ k) ⊎ Among site c (better G x (best_site G k x) k)
        first e = inl (better-first G x (best_site G k x) k i e)

        among : Among site c (best_site G k x) → (better G x (best_site G k x) k ≡ k) ⊎ Among site c (better G x (best_site G k x) k)
        among m =
            ⊎_elim
            (λ l. inl (better-new G x (best_site G k x) k i l))
            (λ l. inr (rw (better-old G x (best_site G k x) k i (omega (arith, m.is, h.seen m.entry m.below)) l) m))
            (order (price G x k) (price G x (best_site G k x)))

    -- the last of the first d entries is no corner once k has come
    pub half_over : (d : ℕ) → d ≤ c → 1 < d → above_chord G (get_or site (d - 2) 0) (get_or site (d - 1) 0) k ≡ true → Half G k site d → Half G k site (d - 1)
    half_over d l m e = half-less G k site d (omega arith) never
      where
        before : get_or site (d - 2) 0 < get_or site (d - 1) 0
        before = let q : suc (d - 2) ≡ d - 1 = omega arith in rw q at (h.rising (d - 2) (omega arith))

        never : (x : ℕ) → best_site G (k + 1) x ≡ get_or site (d - 1) 0 → ⊥
        never x =
            let b = h.seen (d - 1) (omega arith) in
            ⊎_elim
            (λ p. beaten G (k + 1) x _ (get_or site (d - 2) 0) (omega arith) (omega (arith, before, b)) (h.real (d - 2) (omega arith)) (inl (before, p)))
            (λ p. beaten G (k + 1) x _ k (omega arith) (omega arith) i (inr p))
            (above_loses G x (get_or site (d - 2) 0) (get_or site (d - 1) 0) k before b e)

    -- the first entry lies above k
    pub half_lower : 0 < c → height_of G k < height_of G (get_or site 0 0) → Half G k site 1 → Half G k site 0
    half_lower p l = half-less G k site 1 (omega arith) (λ x. beaten G (k + 1) x _ k (omega arith) (omega arith) i (inr (lower_wins G x (get_or site 0 0) k (h.seen 0 p) l)))

-- the site k on top of the entries that it leaves
module _ (G : List ℕ) (k : ℕ) (site : List ℕ) (count c : ℕ) (h : Hull G k site count) (p : Popped G k site count c) (i : Site G k) (room : c < length site) where
  site' : List ℕ
  site' = set site c k

  old : (j : ℕ) → j < c → get_or site' j 0 ≡ get_or site j 0
  unfolding site'
  old j l = get_or-set_other site c j k 0 (omega arith)

  new : (j : ℕ) → j ≡ c → get_or site' j 0 ≡ k
  unfolding site'
  new j e = rw e (get_or-set_same site c k 0 room)

  -- what holds of the old entries, and of the new one by what stands below it, holds of all
  each : (P : ℕ → Type 0) → ((j : ℕ) → j < c → P (get_or site j 0)) → P k → (j : ℕ) → j < c + 1 → P (get_or site' j 0)
  each P f g j l = ⊎_elim (λ m. rw (old j m) (f j m)) (λ m. rw (new j (omega arith)) g) (order j c)

  pairs : (P : ℕ → ℕ → Type 0) → ((j : ℕ) → suc j < c → P (get_or site j 0) (get_or site (suc j) 0)) → (0 < c → P (get_or site (c - 1) 0) k) → (j : ℕ) → suc j < c + 1 → P (get_or site' j 0) (get_or site' (suc j) 0)
  pairs P f g j l =
      ⊎_elim
      (λ m. rw (old j (omega arith), old (suc j) m) (f j m))
      (λ m. let e : j ≡ c - 1 = omega arith in rw (old j (omega arith), new (suc j) (omega arith), e) (g (omega arith)))
      (order (suc j) c)

  triples : (P : ℕ → ℕ → ℕ → Type 0) → ((j : ℕ) → suc (suc j) < c → P (get_or site j 0) (get_or site (suc j) 0) (get_or site (suc (suc j)) 0)) → (1 < c → P (get_or site (c - 2) 0) (get_or site (c - 1) 0) k)
      → (j : ℕ) → suc (suc j) < c + 1 → P (get_or site' j 0) (get_or site' (suc j) 0) (get_or site' (suc (suc j)) 0)
  triples P f g j l =
      ⊎_elim
      (λ m. rw (old j (omega arith), old (suc j) (omega arith), old (suc (suc j)) m) (f j m))
      (λ m.
      let e : j ≡ c - 2 = omega arith in
      let e' : suc j ≡ c - 1 = omega arith in
      rw (old j (omega arith), old (suc j) (omega arith), new (suc (suc j)) (omega arith), e', e) (g (omega arith)))
      (order (suc (suc j)) c)

  on-top : (x : ℕ) → (best_site G (k + 1) x ≡ k) ⊎ Among site c (best_site G (k + 1) x) → Among site' (c + 1) (best_site G (k + 1) x)
  on-top x (inl e) = record { entry = c; below = omega arith; is = e ∙ sym (new c refl) }
  on-top x (inr m) = record { entry = m.entry; below = omega (arith, m.below); is = m.is ∙ sym (old m.entry m.below) }

  pub hull_push : Hull G (k + 1) (set site c k) (c + 1)
  unfolding site'
  hull_push =
      record {
        few = omega (arith, h.few, p.fewer);
        seen = each (λ s. s < k + 1) (λ j l. omega (arith, h.seen j (omega (arith, p.fewer)))) (omega arith);
        real = each (λ s. Site G s) (λ j l. h.real j (omega (arith, p.fewer))) i;
        rising = pairs (λ a b. a < b) (λ j l. h.rising j (omega (arith, p.fewer))) (λ l. h.seen (c - 1) (omega (arith, p.fewer)));
        upward = pairs (λ a b. height_of G a ≤ height_of G b) (λ j l. h.upward j (omega (arith, p.fewer))) p.upward;
        convex = triples (λ a b d. above_chord G a b d ≡ false) (λ j l. h.convex j (omega (arith, p.fewer))) p.convex;
        holds = λ x. inr (on-top x (p.half x));
      }

-- no place seen, no entry
pub hull_none : (G : List ℕ) (site : List ℕ) → Hull G 0 site 0
unfolding best_site
hull_none G site =
    record {
      few = omega arith;
      seen = λ j l. omega arith;
      real = λ j l. omega arith;
      rising = λ j l. omega arith;
      upward = λ j l. omega arith;
      convex = λ j l. absurd (omega arith);
      holds = λ x. inl refl;
    }

-- the hull with its starts is the envelope
module _ (G : List ℕ) (n : ℕ) (site : List ℕ) (count : ℕ) (start : List ℕ) (c : ℕ) (h : Hull G n site count) (s : Started G n site count start c) (small : n ≤ no_site) where
  module _ (x : ℕ) (on : x < n) where
    -- what entry j costs at x
    abbrev cost : ℕ → ℕ
    cost j = price G x (get_or site j 0)

    -- an entry that costs more than the one to its right costs less than the one to its left; an entry that costs no less than the one to its left costs
    -- no more than the one to its right
    leftward : (j : ℕ) → suc (suc j) < count → cost (suc (suc j)) < cost (suc j) → cost (suc j) < cost j
    leftward j l = under-wins G x (get_or site j 0) (get_or site (suc j) 0) (get_or site (suc (suc j)) 0) (h.rising j (omega arith)) (h.rising (suc j) l) (h.convex j l)

    rightward : (j : ℕ) → suc (suc j) < count → cost j ≤ cost (suc j) → cost (suc j) ≤ cost (suc (suc j))
    rightward j l m = ⊎_elim (λ i. absurd (omega (arith, leftward j l i))) (λ i. i) (order (cost (suc (suc j))) (cost (suc j)))

    -- so where prices fall from an entry to the next, all entries up to the first cost more than the second; and where they do not fall, all later entries
    -- cost no less than the first
    left : (j : ℕ) → suc j < count → cost (suc j) < cost j → (i : ℕ) → i ≤ j → cost (suc j) < cost i
    left zero l m i k = let e : i ≡ 0 = omega arith in rw e m
    left (suc j) l m i k =
        ⊎_elim
        (λ a. omega (arith, m, left j (omega arith) (leftward j l m) i (omega arith)))
        (λ a. let e : i ≡ suc j = omega arith in rw e m)
        (order i (suc j))

    right : (j i : ℕ) → cost j ≤ cost (suc j) → j ≤ i → suc i < count → (cost i ≤ cost (suc i)) × (cost j ≤ cost (suc i))
    right j zero m k l = let e : j ≡ 0 = omega arith in let m' : cost 0 ≤ cost 1 = rw e at m in (m', rw e m')
    right j (suc i) m k l = ⊎_elim (λ a. further (right j i m (omega arith) (omega arith))) here (order j (suc i))
      where
        further : (cost i ≤ cost (suc i)) × (cost j ≤ cost (suc i)) → (cost (suc i) ≤ cost (suc (suc i))) × (cost j ≤ cost (suc (suc i)))
        further r = let q = rightward i l r.0 in (q, omega (arith, r.1, q))

        here : suc i ≤ j → (cost (suc i) ≤ cost (suc (suc i))) × (cost j ≤ cost (suc (suc i)))
        here a = let e : j ≡ suc i = omega arith in let m' : cost (suc i) ≤ cost (suc (suc i)) = rw e at m in (m', rw e m')

    -- a later entry is a later site
    risen : (j i : ℕ) → j < i → i < count → get_or site j 0 < get_or site i 0
    risen j zero k l = absurd (omega arith)
    risen j (suc i) k l =
        ⊎_elim
        (λ a. omega (arith, h.rising i l, risen j i a (omega arith)))
        (λ a. let e : j ≡ i = omega arith in rw e (h.rising i l))
        (order j i)

    -- an entry that costs less than the one before it, and no more than the one after it, is the best
    lowest : (j : ℕ) → j < count → ((i : ℕ) → suc i ≡ j → cost j < cost i) → (suc j < count → cost j ≤ cost (suc j)) → get_or site j 0 ≡ best_site G n x
    lowest j l down up = ⊎_elim (λ e. absurd (nobody e)) (λ m. found m) (h.holds x)
      where
        nobody : best_site G n x ≡ no_site → ⊥
        nobody e = ⊎_elim (λ f. f.1 (get_or site j 0) (h.seen j l) (h.real j l)) (λ f. omega (arith, e, f.below)) (best-found G n x small)

        earlier : (i : ℕ) → i < j → best_site G n x ≡ get_or site i 0 → ⊥
        earlier i a =
            let e : suc (j - 1) ≡ j = omega arith in
            let d : cost (suc (j - 1)) < cost i = left (j - 1) (rw e l) (rw e (down (j - 1) e)) i (omega arith) in
            beaten G n x (get_or site i 0) (get_or site j 0) small (h.seen j l) (h.real j l) (inr (rw e at d))

        later : (i : ℕ) → j < i → i < count → best_site G n x ≡ get_or site i 0 → ⊥
        later i a b =
            let e : suc (i - 1) ≡ i = omega arith in
            let d = (right j (i - 1) (up (omega arith)) (omega arith) (rw e b)).1 in
            beaten G n x (get_or site i 0) (get_or site j 0) small (h.seen j l) (h.real j l) (inl (risen j i a b, rw e at d))

        found : Among site count (best_site G n x) → get_or site j 0 ≡ best_site G n x
        found m =
            ⊎_elim
            (λ a. absurd (earlier m.entry a m.is))
            (λ a. ⊎_elim (λ b. absurd (later m.entry b m.below m.is)) (λ b. let e : j ≡ m.entry = omega arith in rw e (sym m.is)) (order j m.entry))
            (order m.entry j)

    -- of the first j + 1 entries the last that starts at or before x is the best site, if the entry after them costs no less than the last of them
    held : (j : ℕ) → j < c → (suc j < count → cost j ≤ cost (suc j)) → holder site start (suc j) x ≡ best_site G n x
    unfolding holder
    held zero l up = rw (le-leb (get_or start 0 0) x (omega (arith, s.first l))) (lowest 0 (omega (arith, s.fewer)) (λ i e. absurd (omega arith)) up)
    held (suc j) l up = ⊎_elim (λ a. rw (lt-leb (get_or start (suc j) 0) x a) (held j (omega arith) (λ m. before a))) (λ a. rw (le-leb (get_or start (suc j) 0) x a) (top a)) (order x (get_or start (suc j) 0))
      where
        rising : get_or site j 0 < get_or site (suc j) 0
        rising = h.rising j (omega (arith, s.fewer))

        upward : height_of G (get_or site j 0) ≤ height_of G (get_or site (suc j) 0)
        upward = h.upward j (omega (arith, s.fewer))

        before : x < get_or start (suc j) 0 → cost j ≤ cost (suc j)
        before a = uncrossed G x (get_or site j 0) (get_or site (suc j) 0) rising upward (omega (arith, s.next j l))

        after : get_or start (suc j) 0 ≤ x → (i : ℕ) → suc i ≡ suc j → cost (suc j) < cost i
        after a i e = let e' : i ≡ j = omega arith in rw e' (crossed G x (get_or site j 0) (get_or site (suc j) 0) rising upward (omega (arith, s.next j l)))

        top : get_or start (suc j) 0 ≤ x → get_or site (suc j) 0 ≡ best_site G n x
        top a = lowest (suc j) (omega (arith, s.fewer)) (after a) up

    -- the entry after the last that has a start would start beyond the line, so it costs no less
    last : (j : ℕ) → suc j ≡ c → suc j < count → cost j ≤ cost (suc j)
    last j e l =
        let b : n ≤ crossing G (get_or site j 0) (get_or site (suc j) 0) = rw e (s.beyond j e (rw e at l)) in
        uncrossed G x (get_or site j 0) (get_or site (suc j) 0) (h.rising j l) (h.upward j l) (omega (arith, b))

    all_held : (d : ℕ) → d ≡ c → holder site start d x ≡ best_site G n x
    unfolding holder
    all_held zero e = ⊎_elim (λ b. sym b) (λ m. absurd (nobody m (order 0 count))) (h.holds x)
      where
        nobody : Among site count (best_site G n x) → (0 < count) ⊎ (count ≤ 0) → ⊥
        nobody m (inl l) = omega (arith, s.some l)
        nobody m (inr l) = omega (arith, m.below)
    all_held (suc j) e = held j (omega arith) (last j e)

  pub hull_built : Envelope G n site start c
  hull_built =
      record {
        entries = record { few = omega (arith, h.few, s.fewer); seen = λ j l. h.seen j (omega (arith, s.fewer)); real = λ j l. h.real j (omega (arith, s.fewer)) };
        holds = λ x l. all_held x l c refl;
      }
