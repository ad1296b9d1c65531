-- Copper splits a row: on its right no earlier column is better than it, on its left no later one, and it goes to itself. So a part of the row between
-- two such ends is worked out by itself.
-- Assumes nothing.
use mathlib.Core.Path.{◌≡◌, refl, sym, ap, ◌∙◌}
use mathlib.Core.Bool.{Bool, true, ◌&&◌, false≢true}
use mathlib.Core.Logic.{◌⊎◌, inl, inr}
use mathlib.Core.List.{List}
use Prim.Native.Nat.{ℕ, zero, suc, ◌+◌, ◌-◌, ◌<◌, ◌≤◌}
use native.Mathlib.Decide.{dec_lt, ℕ_discrete}
use native.Mathlib.Numerals.{add-one}
use native.Mathlib.Omega.{arith}
use lib.IntN.{ℤ, pos, negsuc}
use lib.ListN.{get_or}
use lib.Seq.{get_or-take, get_or-drop}
use Rattle.raster.specs.Distance.{gap}
use borrow.Author.Tests.{eqb-true}
use lib.Dec.{eqb}
use mir.Syntax.{w16}
use mir.Val.{SFits, of_z}
use Rattle.raster.specs.Tests.{and_left, and_right}
use Rattle.raster.specs.DistanceLaws.{gap-self, square_le}
use Rattle.envelope.specs.Best.{no_site, price_of, price, Site, best_site}
use Rattle.envelope.specs.BestLaws.{Found, best-found}
use Rattle.columns.specs.Column.{is_zero}
use Rattle.columns.proofs.Numbers.{zero_bits}
use Rattle.exact.specs.Rows.{part, copper_from}

-- ---- the places of a part, and copper columns

pub part_at : {A : Type 0} (lo hi : ℕ) (s : List A) (j : ℕ) (d : A) → j < hi - lo → get_or (part lo hi s) j d ≡ get_or s (lo + j) d
part_at lo hi s j d l = get_or-take (hi - lo) _ j d l ∙ get_or-drop lo s j d

zero-way : (v : ℤ) → is_zero v ≡ true → v ≡ pos 0
zero-way (pos n) e = ap pos (eqb-true n 0 e)
zero-way (negsuc n) e = absurd (false≢true e)

pub copper-none : (ways : List ℤ) (x : ℕ) → true ≡ copper_from ways x 0
unfolding copper_from
copper-none ways x = refl

-- one column more of the eight from x on
pub copper-more : (ways : List ℤ) (x i : ℕ) {a : Bool} → i < x + 8 - x → SFits w16 (get_or (part x (x + 8) ways) i (pos 0)) → a ≡ copper_from ways x i
    → (a && eqb (of_z w16 (get_or (part x (x + 8) ways) i (pos 0))) 0) ≡ copper_from ways x (i + 1)
unfolding copper_from
copper-more ways x i l f e = rw (add-one i, zero_bits _ f, part_at x (x + 8) ways i (pos 0) l, e)

-- the way of each is 0
pub copper-each : (ways : List ℤ) (x n : ℕ) → copper_from ways x n ≡ true → (k : ℕ) → x ≤ k → k < x + n → get_or ways k (pos 0) ≡ pos 0
unfolding copper_from
copper-each ways x zero e k i l = absurd (omega arith)
copper-each ways x (suc n) e k i l = elim (ℕ_discrete k (x + n)) [
  | yes q ↦ rw q (zero-way _ (and_right (copper_from ways x n) _ e))
  | no q ↦ copper-each ways x n (and_left (copper_from ways x n) _ e) k i (omega arith)
]

-- eight columns more are copper
pub copper-on : (ways : List ℤ) (from x : ℕ) → copper_from ways x 8 ≡ true → ((k : ℕ) → from ≤ k → k < x → get_or ways k (pos 0) ≡ pos 0)
    → (k : ℕ) → from ≤ k → k < x + 8 → get_or ways k (pos 0) ≡ pos 0
copper-on ways from x e before k i l = elim (dec_lt k x) [ yes b ↦ before k i b | no b ↦ copper-each ways x 8 e k (omega arith) l ]

-- ---- the best site

-- a place has one best site only
one-best : {G : List ℕ} {n x a b : ℕ} → Found G n x a → Found G n x b → a ≡ b
one-best (inl p) (inl q) = p.0 ∙ sym q.0
one-best (inl p) (inr q) = absurd (p.1 _ q.below q.site)
one-best (inr p) (inl q) = absurd (q.1 _ p.below p.site)
one-best {a = a} {b = b} (inr p) (inr q) = elim (dec_lt a b) [
  | yes l ↦ absurd (omega (arith, q.first a l p.site, p.least b q.below q.site))
  | no m ↦ elim (dec_lt b a) [
    | yes l ↦ absurd (omega (arith, p.first b l q.site, q.least a p.below p.site))
    | no k ↦ omega arith
  ]
]

-- copper costs nothing where it is, and less than what lies farther away
copper-free : (G : List ℕ) (x : ℕ) → get_or G x 0 ≡ 0 → price G x x ≡ 0
unfolding price_of
copper-free G x e = rw (gap-self x, e)

copper-less : (G : List ℕ) (x k s : ℕ) → get_or G k 0 ≡ 0 → gap x k < gap x s → price G x k < price G x s
unfolding price_of
copper-less G x k s e h = omega (arith, e, square_le h)

-- what lies beyond k is farther away
beyond-left : (x k s : ℕ) → s < k → k ≤ x → gap x k < gap x s
unfolding gap
beyond-left x k s h l = omega arith

beyond-right : (x k s : ℕ) → x ≤ k → k < s → gap x k < gap x s
unfolding gap
beyond-right x k s h l = omega arith

-- copper is its own best column
pub best-copper : (G : List ℕ) (n x : ℕ) → n ≤ 2048 → x < n → get_or G x 0 ≡ 0 → best_site G n x ≡ x
best-copper G n x few l e = one-best (best-found G n x (omega arith)) (inr (record {
  below = l;
  site = omega (arith, e);
  least = λ s i k. omega (arith, copper-free G x e);
  first = λ s i k. copper-less G x x s e (beyond-left x x s i (omega arith));
}))

-- ---- a part

-- the part from lo to hi − 1 of a line of n places: each of its ends is the line's, or copper
pub record Part (G : List ℕ) (n lo hi : ℕ) : Type 0 where
  pub on : hi ≤ n
  pub left : 0 < lo → get_or G lo 0 ≡ 0
  pub right : hi < n → get_or G (hi - 1) 0 ≡ 0

-- the site b of the part is the site c of the line, or both are none
abbrev pub Same : (lo hi b c : ℕ) → Type 0
Same lo hi b c = ((b ≡ no_site) × (c ≡ no_site)) ⊎ ((b < hi - lo) × (c ≡ lo + b))

module _ (G : List ℕ) (n lo hi : ℕ) (few : n ≤ 2048) (p : Part G n lo hi) (j : ℕ) (inside : j < hi - lo) where
  -- the part, its costs and prices
  P : List ℕ
  P = part lo hi G

  cost-at : (b : ℕ) → b < hi - lo → get_or P b 0 ≡ get_or G (lo + b) 0
  unfolding P
  cost-at b l = part_at lo hi G b 0 l

  price-at : (b : ℕ) → b < hi - lo → price P j b ≡ price G (lo + j) (lo + b)
  unfolding price_of gap
  price-at b l = let e : gap j b ≡ gap (lo + j) (lo + b) = omega arith in rw (cost-at b l, e)

  -- a place of the line is one of the part, or farther away than copper of the part
  data Where : ℕ → Type 0 where
    within : (b : ℕ) → b < hi - lo → Where (lo + b)
    beyond : (b s : ℕ) → b < hi - lo → get_or G (lo + b) 0 ≡ 0 → gap (lo + j) (lo + b) < gap (lo + j) s → Where s

  locate : (s : ℕ) → s < n → Where s
  locate s l = elim (dec_lt s lo) [
    | yes h ↦ let e : lo ≡ lo + 0 = omega arith in beyond 0 s (omega arith) (rw e at (p.left (omega arith))) (beyond-left _ _ s (omega arith) (omega arith))
    | no h ↦ elim (dec_lt s hi) [
      | yes k ↦ let e : s ≡ lo + (s - lo) = omega arith in rw e (within (s - lo) (omega arith))
      | no k ↦
          let e : hi - 1 ≡ lo + (hi - 1 - lo) = omega arith in
          beyond (hi - 1 - lo) s (omega arith) (rw e at (p.right (omega arith))) (beyond-right _ _ s (omega arith) (omega arith))
    ]
  ]

  -- what is found in the part is what is found on the line
  whole : {b c : ℕ} → Found P (hi - lo) j b → Found G n (lo + j) c → Same lo hi b c
  whole (inl f) g = inl (f.0, one-best g (inl (refl, λ s l i. bare (locate s l) i)))
    where
      bare : {s : ℕ} → Where s → Site G s → ⊥
      bare (within b l) i = f.1 b l (omega (arith, cost-at b l))
      bare (beyond b s l e h) i = f.1 b l (omega (arith, cost-at b l))
  whole {b} (inr f) g = inr (
    f.below,
    one-best g (inr (record {
      below = omega (arith, f.below, p.on);
      site = omega (arith, cost-at b f.below, f.site);
      least = λ s l i. least (locate s l) i;
      first = λ s l i. first (locate s (omega (arith, f.below, p.on))) l i;
    })),
  )
    where
      here : price P j b ≡ price G (lo + j) (lo + b)
      here = price-at b f.below

      -- what lies farther away than copper of the part costs more than b
      beaten : (k s : ℕ) → k < hi - lo → get_or G (lo + k) 0 ≡ 0 → gap (lo + j) (lo + k) < gap (lo + j) s → price G (lo + j) (lo + b) < price G (lo + j) s
      beaten k s l e h = omega (arith, here, price-at k l, f.least k l (omega (arith, cost-at k l)), copper-less G (lo + j) (lo + k) s e h)

      least : {s : ℕ} → Where s → Site G s → price G (lo + j) (lo + b) ≤ price G (lo + j) s
      least (within k l) i = omega (arith, here, price-at k l, f.least k l (omega (arith, cost-at k l)))
      least (beyond k s l e h) i = omega (arith, beaten k s l e h)

      first : {s : ℕ} → Where s → s < lo + b → Site G s → price G (lo + j) (lo + b) < price G (lo + j) s
      first (within k l) m i = omega (arith, here, price-at k l, f.first k (omega arith) (omega (arith, cost-at k l)))
      first (beyond k s l e h) m i = beaten k s l e h

  -- the best site of the part is that of the line
  pub best_part : Same lo hi (best_site (part lo hi G) (hi - lo) j) (best_site G n (lo + j))
  unfolding P
  best_part = whole (best-found (part lo hi G) (hi - lo) j (omega (arith, p.on))) (best-found G n (lo + j) (omega arith))
