-- What the functions' proofs cite: one law for each need that is more than arithmetic. A law's premises are the facts as the code
-- has them at that place, so that `search (rules, law)` finds them and no proof writes a path.
-- Assumes nothing.
use Prim.Native.Nat.{ℕ, zero, suc, ◌+◌, ◌-◌, ◌<◌, ◌≤◌}
use native.Mathlib.Decide.{dec_le}
use native.Mathlib.Omega.{arith}
use native.Mathlib.Numerals.{add-one}
use mathlib.Core.Path.{◌≡◌, refl, sym, ◌∙◌}
use mathlib.Core.Bool.{Bool, true, false}
use mathlib.Core.List.{List}
use lib.ListN.{get_or, length}
use Rattle.envelope.specs.Best.{no_cost, Site}
use Rattle.envelope.specs.Hull.{height_of, above_chord, Bare, Hull, Half, Popped, Started}
use Rattle.envelope.proofs.HullLaws.{under-upward, half-all, half_over, half_lower, hull_none, hull_skip}

-- what the hull's functions ask of a line: at most 2048 places, and that many elements in the costs and the stack
abbrev pub Room : List ℕ → (n : ℕ) → List ℕ → Type 0
Room G n site = (n ≤ 2048) × ((n ≤ length G) × (n ≤ length site))

-- `popped`: c entries are left, the last of them the site b
abbrev pub Popping : List ℕ → (k : ℕ) → List ℕ → (count c b : ℕ) → Type 0
Popping G k site count c b = (c ≤ count) × ((0 < c → b ≡ get_or site (c - 1) 0) × Half G k site c)

module _ {G : List ℕ} {n k : ℕ} {site : List ℕ} {count : ℕ} (room : Room G n site) (h : Hull G k site count) (l : k < n) where
  pub popping_all : {top : ℕ} → Site G k → (0 < count → top ≡ get_or site (count - 1) 0) → Popping G k site count count top
  popping_all i t = (omega arith, (t, half-all G k site count h (omega (arith, room)) i))

  module _ {c b : ℕ} (p : Popping G k site count c b) where
    -- the entry below the last is the site a
    module _ {a : ℕ} (m : 1 < c) (e : a ≡ get_or site (c - 1 - 1) 0) where
      test : {t f : Bool} → t ≡ above_chord G a b k → t ≡ f → above_chord G (get_or site (c - 2) 0) (get_or site (c - 1) 0) k ≡ f
      test q r = let d : c - 1 - 1 ≡ c - 2 = omega arith in rw (e, d, p.1.0 (omega arith)) at (sym q ∙ r)

      pub popping_on : {t : Bool} → Site G k → t ≡ above_chord G a b k → t ≡ true → Popping G k site count (c - 1) a
      popping_on i q r = (omega arith, (λ z. e, half_over G k site count h (omega (arith, room)) i c p.0 m (test q r) p.1.1))

      pub popping_corner : {t : Bool} → t ≡ above_chord G a b k → t ≡ false → Popped G k site count (c - 1 + 1)
      popping_corner q r =
          let d : c - 1 + 1 ≡ c = omega arith in
          rw d (record { fewer = p.0; half = p.1.1; upward = λ z. up; convex = λ z. test q r })
        where
          up : height_of G (get_or site (c - 1) 0) ≤ height_of G k
          up =
              let d : suc (c - 2) ≡ c - 1 = omega arith in
              under-upward G 0 (get_or site (c - 2) 0) (get_or site (c - 1) 0) k
              (rw d at (h.rising (c - 2) (omega arith)))
              (h.seen (c - 1) (omega arith))
              (test q r)
              (rw d at (h.upward (c - 2) (omega arith)))

    -- one entry is left
    module _ {u v : ℕ} (m : c ≤ 1) (z : c ≡ 0 → ⊥) (qu : u ≡ height_of G k) (qv : v ≡ height_of G b) where
      one : c ≡ 1
      one = omega arith

      last : b ≡ get_or site 0 0
      last = let d : c - 1 ≡ 0 = omega arith in rw d at (p.1.0 (omega arith))

      half : Half G k site 1
      half = rw one at p.1.1

      pub popping_lower : Site G k → u < v → Popped G k site count 0
      popping_lower i a =
          record {
            fewer = omega arith;
            half = half_lower G k site count h (omega (arith, room)) i (omega arith) (rw (qu, qv, last) at a) half;
            upward = λ y. omega arith;
            convex = λ y. absurd (omega arith);
          }

-- `hull`: the hull of the sites below k stands, and `top` is the site of its last entry
abbrev pub Hulled : List ℕ → (n k : ℕ) → List ℕ → (count top : ℕ) → Type 0
Hulled G n k site count top = (k ≤ n) × (Hull G k site count × (0 < count → top ≡ get_or site (count - 1) 0))

pub hulled_none : {G : List ℕ} {n : ℕ} {site : List ℕ} → Hulled G n 0 site 0 0
hulled_none {G} {n} {site} = (omega arith, (hull_none G site, λ z. absurd (omega arith)))

module _ {G : List ℕ} {n k : ℕ} {site : List ℕ} {count top : ℕ} (p : Hulled G n k site count top) where
  pub hulled_skip : {g : ℕ} → n ≤ 2048 → k < n → g ≡ get_or G k 0 → no_cost ≤ g → Hulled G n (k + 1) site count top
  hulled_skip m l q i = (omega arith, (hull_skip G k site count p.1.0 (omega arith) (omega arith), p.1.1))

-- places without a site leave the hull as it is
pub hulled_bare : {G : List ℕ} {n k : ℕ} {site : List ℕ} {count top : ℕ} → Hulled G n k site count top → n ≤ 2048
    → (r : ℕ) → k ≤ r → r ≤ n → Bare G k r → Hulled G n r site count top
hulled_bare {k = k} p m zero low high b = let e : k ≡ 0 = omega arith in rw e at p
hulled_bare {k = k} p m (suc r) low high b = elim (dec_le k r) [
  | yes l ↦ rw (add-one r) at (hulled_skip (hulled_bare p m r l (omega arith) (record { none = λ i c d. b.none i c (omega arith) })) m (omega arith) refl (b.none r l (omega arith)))
  | no l ↦ let e : k ≡ suc r = omega arith in rw e at p
]

-- `starts`: the first j entries have their starts
abbrev pub Starting : List ℕ → (n : ℕ) → List ℕ → List ℕ → (j : ℕ) → Type 0
Starting G n site start j = Started G n site j start j
