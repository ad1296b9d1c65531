-- The run through the copper pixels, by column, then row: what is kept is the nearest of those seen, and the first of equals.
-- Assumes nothing.
use mathlib.Core.Path.{◌≡◌, refl, sym, ap, ap₂, ◌∙◌}
use mathlib.Core.Logic.{◌⊎◌, inl, inr}
use mathlib.Core.Bool.{Bool, true, false, cond, ◌&&◌, true≢false}
use Prim.Native.Nat.{ℕ, zero, suc, ◌+◌, ◌*◌, ◌<◌, ◌≤◌}
use native.Mathlib.Decide.{dec_lt}
use native.Mathlib.Nat.{mul-le-mul_right}
use native.Mathlib.Omega.{arith}
use lib.Dec.{ltb}
use borrow.Author.Tests.{ltb-true, ltb-false}
use Rattle.raster.specs.Distance.{apart, Copper}
use Rattle.raster.specs.Loop.{ascend}
use Rattle.raster.specs.Pixels.{Mask, index}
use Rattle.raster.specs.PixelsLaws.{index-one, index-inside}
use Rattle.exact.specs.Nearest.{Nearest, SearchState, unfound, found_at, nearer, visit, nearest}

-- what the run finds
pub data Answer (copper : Mask) (w h x y : ℕ) : SearchState → Type 0 where
  no_copper : ((i j : ℕ) → Copper copper w h i j → ⊥) → Answer copper w h x y unfound
  nearest_at : (i j : ℕ) → Nearest copper w h x y i j → Answer copper w h x y (found_at i j)

module _ (copper : Mask) (h x y : ℕ) where
  -- the copper pixels before the n-th of the run, in which (a, b) is at a × h + b
  record SeenCopper (n a b : ℕ) : Type 0 where
    is_copper : copper a b ≡ true
    on : b < h
    before : index h b a < n

  -- (a, b) is farther off than (i, j), or as far and no earlier
  abbrev Behind : (i j a b : ℕ) → Type 0
  Behind i j a b = (apart x y i j < apart x y a b) ⊎ ((apart x y i j ≡ apart x y a b) × (index h j i ≤ index h b a))

  -- of those, (i, j) is the one to keep
  record First (n i j : ℕ) : Type 0 where
    seen : SeenCopper n i j
    wins : (a b : ℕ) → SeenCopper n a b → Behind i j a b

  no_nearer : {n i j : ℕ} → First n i j → (a b : ℕ) → SeenCopper n a b → apart x y i j ≤ apart x y a b
  no_nearer {n} {i} {j} k a b s = go (k.wins a b s)
    where
      go : Behind i j a b → apart x y i j ≤ apart x y a b
      go (inl l) = omega arith
      go (inr l) = omega (arith, l.0)

  -- what was found, of those
  data Best (n : ℕ) : SearchState → Type 0 where
    empty : ((a b : ℕ) → SeenCopper n a b → ⊥) → Best n unfound
    best : (i j : ℕ) → First n i j → Best n (found_at i j)

  module _ (i j : ℕ) (on : j < h) where
    abbrev n : ℕ
    n = index h j i

    -- one seen up to (i, j) is one seen before it, or is it
    next : {a b : ℕ} → SeenCopper (n + 1) a b → SeenCopper n a b ⊎ ((a ≡ i) × (b ≡ j))
    next {a} {b} s = elim (dec_lt (index h b a) n) [
      | yes l ↦ inl (record { is_copper = s.is_copper; on = s.on; before = l })
      | no l ↦ let e = index-one h b a j i s.on on (omega (arith, s.before)) in inr (e.1, e.0)
    ]

    -- (i, j) is taken, or what was found before stays
    taken : copper i j ≡ true → ((a b : ℕ) → SeenCopper n a b → apart x y i j < apart x y a b) → First (n + 1) i j
    taken e beats = record { seen = record { is_copper = e; on = on; before = omega arith }; wins = λ a b s. go (next s) }
      where
        go : {a b : ℕ} → SeenCopper n a b ⊎ ((a ≡ i) × (b ≡ j)) → Behind i j a b
        go {a} {b} (inl s) = inl (beats a b s)
        go (inr (p, q)) = inr (rw (p, q) (refl, omega arith))

    search_stays : {p q : ℕ} → First n p q → (copper i j ≡ true → apart x y p q ≤ apart x y i j) → First (n + 1) p q
    search_stays {p} {q} k l = record { seen = record { is_copper = k.seen.is_copper; on = k.seen.on; before = omega (arith, k.seen.before) }; wins = λ a b s. go s.is_copper (next s) }
      where
        go : {a b : ℕ} → copper a b ≡ true → SeenCopper n a b ⊎ ((a ≡ i) × (b ≡ j)) → Behind p q a b
        go {a} {b} c (inl s) = k.wins a b s
        go c (inr (u, v)) = rw (u, v) (elim (dec_lt (apart x y p q) (apart x y i j)) [
          | yes m ↦ inl m
          | no m ↦ inr (omega (arith, l (rw (u, v) at c)), omega (arith, k.seen.before))
        ])

    more : {f : SearchState} → Best n f → Best (n + 1) (visit copper x y i j f)
    more k = go (copper i j) refl k
      where
        go : (t : Bool) → copper i j ≡ t → {f : SearchState} → Best n f → Best (n + 1) (cond (t && nearer x y i j f) (found_at i j) f)
        go false e (empty none_seen) = empty (λ a b s. bare s.is_copper (next s))
          where
            bare : {a b : ℕ} → copper a b ≡ true → SeenCopper n a b ⊎ ((a ≡ i) × (b ≡ j)) → ⊥
            bare {a} {b} c (inl s) = none_seen a b s
            bare c (inr (p, q)) = true≢false (sym c ∙ ap₂ copper p q ∙ e)
        go false e (best p q k) = best p q (search_stays k (λ c. absurd (true≢false (sym c ∙ e))))
        go true e (empty none_seen) = best i j (taken e (λ a b s. absurd (none_seen a b s)))
        go true e (best p q k) = pick (ltb (apart x y i j) (apart x y p q)) refl
          where
            pick : (t : Bool) → ltb (apart x y i j) (apart x y p q) ≡ t → Best (n + 1) (cond t (found_at i j) (found_at p q))
            pick true l = best i j (taken e (λ a b s. omega (arith, ltb-true (apart x y i j) (apart x y p q) l, no_nearer k a b s)))
            pick false l = best p q (search_stays k (λ c. ltb-false (apart x y i j) (apart x y p q) l))

  rows : (i m : ℕ) {f : SearchState} → m ≤ h → Best (index h 0 i) f → Best (index h m i) (ascend (visit copper x y i) m f)
  unfolding ascend
  rows i zero l k = k
  rows i (suc m) l k = let e : index h (suc m) i ≡ index h m i + 1 = omega arith in rw e (more i m (omega arith) (rows i m (omega arith) k))

  columns : (m : ℕ) → Best (index h 0 m) (ascend (λ i. ascend (visit copper x y i) h) m unfound)
  unfolding ascend
  columns zero = empty (λ a b s. omega (arith, s.before))
  columns (suc m) = let e : index h 0 (suc m) ≡ index h h m = omega arith in rw e (rows m h (omega arith) (columns m))

-- the run finds the nearest copper pixel
pub found : (copper : Mask) (w h x y : ℕ) → Answer copper w h x y (nearest copper x y w h)
unfolding nearest
found copper w h x y = go (columns copper h x y w)
  where
    seen : (a b : ℕ) → Copper copper w h a b → SeenCopper copper h x y (index h 0 w) a b
    seen a b c = record { is_copper = c.is_copper; on = c.down; before = omega (arith, index-inside h b a c.down w c.across) }

    on_sheet_lem : (a b : ℕ) → SeenCopper copper h x y (index h 0 w) a b → Copper copper w h a b
    on_sheet_lem a b s = record {
      across = elim (dec_lt a w) [ yes l ↦ l | no l ↦ let k : w ≤ a = omega arith in absurd (omega (arith, s.before, mul-le-mul_right h k)) ];
      down = s.on;
      is_copper = s.is_copper;
    }

    go : {f : SearchState} → Best copper h x y (index h 0 w) f → Answer copper w h x y f
    go (empty none_seen) = no_copper (λ i j c. none_seen i j (seen i j c))
    go (best i j k) = nearest_at i j (record {
      on_copper = on_sheet_lem i j k.seen;
      least = λ a b c. no_nearer copper h x y k a b (seen a b c);
      first = λ a b c e. first a b c.down e (k.wins a b (seen a b c));
    })
      where
        first : (a b : ℕ) → b < h → apart x y a b ≡ apart x y i j → Behind copper h x y i j a b → (i < a) ⊎ ((i ≡ a) × (j ≤ b))
        first a b d e (inl l) = absurd (omega arith)
        first a b d e (inr l) = elim (dec_lt i a) [
          | yes k ↦ inl k
          | no n ↦ elim (dec_lt a i) [
            | yes k ↦ absurd (omega (arith, l.1, mul-le-mul_right h k))
            | no k ↦ let z : i ≡ a = omega arith in inr (z, omega (arith, l.1, ap (λ (t : ℕ). t * h) z))
          ]
        ]
