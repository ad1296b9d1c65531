-- Document 02, C-21: the exact maps of two sheets are joined to the exact map of the sheet that has copper where either has it, also where one of them has none,
-- or both. Every sheet up to 2,048 × 2,048.
-- Assumes nothing.
use mathlib.Core.Path.{◌≡◌, refl, sym, ◌∙◌}
use mathlib.Core.Logic.{◌⊎◌, inl, inr}
use mathlib.Core.Bool.{Bool, true, false, not, ◌&&◌, ◌||◌, or-true, true≢false, false≢true}
use Prim.Native.Nat.{ℕ, ◌*◌, ◌<◌, ◌≤◌}
use native.Mathlib.Decide.{dec_lt}
use native.Mathlib.Omega.{arith}
use lib.Dec.{eqb, ltb}
use lib.IntN.{ℤ}
use lib.ListN.{length}
use borrow.Author.Tests.{lt-ltb, le-ltb, eq-eqb, ne_eqb}
use Rattle.raster.specs.Distance.{apart, Copper}
use Rattle.raster.specs.Limits.{max_side}
use Rattle.raster.specs.Map.{Inside, dx_at, dy_at}
use Rattle.raster.specs.MapLaws.{vectors-length}
use Rattle.raster.specs.Pixels.{Mask, index}
use Rattle.raster.specs.PixelsLaws.{index-inside}
use Rattle.raster.specs.Tests.{cond_ind}
use Rattle.raster.specs.Vector.{Ends}
use Rattle.raster.specs.VectorLaws.{ends-size}
use Rattle.exact.specs.Nearest.{Nearest, Exact, to_nearest, bare_sheet, exact_map}
use Rattle.exact.proofs.Theorems.{ends_labelled, is_exact, only_exact}
use Rattle.join.specs.Joined.{precedes, second_taken, joined, HasEither}
use Rattle.join.specs.JoinedLaws.{joined_length, joined-dx, joined-dy, ends-order}

-- ---- which of two pixels goes first

-- seen from (x, y), the pixel (i, j) goes before (a, b) or is the same: it is nearer, or as near and of the smaller column, then row
record Ahead (x y i j a b : ℕ) : Type 0 where
  least : apart x y i j ≤ apart x y a b
  first : apart x y a b ≡ apart x y i j → (i < a) ⊎ ((i ≡ a) × (j ≤ b))

ahead_trans : {x y i j a b c d : ℕ} → Ahead x y i j a b → Ahead x y a b c d → Ahead x y i j c d
ahead_trans {x} {y} {i} {j} {a} {b} {c} {d} p q =
    record { least = omega (arith, p.least, q.least); first = λ e. go (p.first (omega (arith, e, p.least, q.least))) (q.first (omega (arith, e, p.least, q.least))) }
  where
    go : (i < a) ⊎ ((i ≡ a) × (j ≤ b)) → (a < c) ⊎ ((a ≡ c) × (b ≤ d)) → (i < c) ⊎ ((i ≡ c) × (j ≤ d))
    go (inl l) (inl m) = inl (omega arith)
    go (inl l) (inr m) = inl (omega (arith, m.0))
    go (inr l) (inl m) = inl (omega (arith, l.0))
    go (inr l) (inr m) = inr (omega (arith, l.0, m.0), omega (arith, l.1, m.1))

-- what a test says that tells which of two pixels goes first
data Order (x y i j a b : ℕ) (t : Bool) : Type 0 where
  before : t ≡ true → Ahead x y i j a b → Order x y i j a b t
  behind : t ≡ false → Ahead x y a b i j → Order x y i j a b t

order : (x y i j a b : ℕ) → Order x y i j a b (ltb (apart x y i j) (apart x y a b) || (eqb (apart x y i j) (apart x y a b) && (ltb i a || (not (ltb a i) && ltb j b))))
order x y i j a b = elim (dec_lt s t) [
  | yes l ↦ before (rw (lt-ltb s t l) refl) (record { least = omega arith; first = λ e. absurd (omega arith) })
  | no l ↦ elim (dec_lt t s) [
    | yes k ↦ behind (rw (le-ltb s t (omega arith), ne_eqb s t (omega arith)) refl) (record { least = omega arith; first = λ e. absurd (omega arith) })
    | no k ↦ let e : s ≡ t = omega arith in rw (le-ltb s t (omega arith), eq-eqb s t e) (among_equals e (dec_lt i a) (dec_lt a i) (dec_lt j b))
  ]
]
  where
    s : ℕ
    s = apart x y i j

    t : ℕ
    t = apart x y a b

    among_equals : s ≡ t → Dec (i < a) → Dec (a < i) → Dec (j < b) → Order x y i j a b (ltb i a || (not (ltb a i) && ltb j b))
    among_equals e (yes l) m n = before (rw (lt-ltb i a l) refl) (record { least = omega arith; first = λ f. inl l })
    among_equals e (no l) (yes m) n = behind (rw (le-ltb i a (omega arith), lt-ltb a i m) refl) (record { least = omega arith; first = λ f. inl m })
    among_equals e (no l) (no m) (yes n) =
        before (rw (le-ltb i a (omega arith), le-ltb a i (omega arith), lt-ltb j b n) refl) (record { least = omega arith; first = λ f. inr (omega arith, omega arith) })
    among_equals e (no l) (no m) (no n) =
        behind (rw (le-ltb i a (omega arith), le-ltb a i (omega arith), le-ltb j b (omega arith)) refl) (record { least = omega arith; first = λ f. inr (omega arith, omega arith) })

-- a vector precedes another of the same pixel where its end goes first
ends_decide : {x y i j a b : ℕ} {ax ay bx by : ℤ} → Ends x y ax ay i j → Ends x y bx by a b → Order x y i j a b (precedes ax ay bx by)
unfolding precedes
ends_decide {x} {y} {i} {j} {a} {b} {ax} {ay} {bx} {by} e f =
    rw
    (ends-size e, ends-size f, ends-order x i a ax bx e.column f.column, ends-order x a i bx ax f.column e.column, ends-order y j b ay by e.row f.row)
    (order x y i j a b)

-- ---- the theorem

exact_length : (copper : Mask) (w h : ℕ) → length (exact_map copper w h) ≡ 2 * (h * w)
unfolding exact_map
exact_length copper w h = vectors-length w h _ _

module _ (one other both : Mask) (w h : ℕ) (wide : w ≤ max_side) (tall : h ≤ max_side) (either : HasEither w h one other both) where
  -- copper of either is copper of both, and all of that is copper of either
  of_one : (i j : ℕ) → Copper one w h i j → Copper both w h i j
  of_one i j c = record { across = c.across; down = c.down; is_copper = either i j c.across c.down ∙ rw c.is_copper refl }

  of_other : (i j : ℕ) → Copper other w h i j → Copper both w h i j
  of_other i j c = record { across = c.across; down = c.down; is_copper = either i j c.across c.down ∙ rw c.is_copper (or-true (one i j)) }

  of_both : (i j : ℕ) → Copper both w h i j → Copper one w h i j ⊎ Copper other w h i j
  of_both i j c = go (one i j) refl (sym (either i j c.across c.down) ∙ c.is_copper)
    where
      go : (t : Bool) → one i j ≡ t → t || other i j ≡ true → Copper one w h i j ⊎ Copper other w h i j
      go true e f = inl (record { across = c.across; down = c.down; is_copper = e })
      go false e f = inr (record { across = c.across; down = c.down; is_copper = f })

  module _ (x y : ℕ) (across : x < w) (down : y < h) where
    -- a pixel that goes before all copper of both sheets is the nearest one of both
    nearest_of : {i j : ℕ} → Copper both w h i j → ((a b : ℕ) → Copper one w h a b → Ahead x y i j a b) → ((a b : ℕ) → Copper other w h a b → Ahead x y i j a b)
        → Nearest both w h x y i j
    nearest_of {i} {j} c p q = record { on_copper = c; least = λ a b d. (ahead a b d).least; first = λ a b d. (ahead a b d).first }
      where
        ahead : (a b : ℕ) → Copper both w h a b → Ahead x y i j a b
        ahead a b d = elim (of_both a b d) [ inl k ↦ p a b k | inr k ↦ q a b k ]

    -- the nearest one of a sheet goes before all its copper
    leads : {m : Mask} {i j : ℕ} → Nearest m w h x y i j → (a b : ℕ) → Copper m w h a b → Ahead x y i j a b
    leads n a b c = record { least = n.least a b c; first = n.first a b c }

    -- the vector that is taken is the exact one for both sheets
    exact_taken : {ax ay bx by : ℤ} → Exact one w h x y ax ay → Exact other w h x y bx by
        → (second_taken ax ay bx by ≡ true → Exact both w h x y bx by) × (second_taken ax ay bx by ≡ false → Exact both w h x y ax ay)
    unfolding second_taken
    exact_taken {ax} {ay} {bx} {by} (to_nearest i j n e) (to_nearest a b k f) =
        rw (ends_labelled one w h wide tall x y across down n.on_copper e, ends_labelled other w h wide tall x y across down k.on_copper f)
        (go (ends_decide f e))
      where
        go : {t : Bool} → Order x y a b i j t → (t ≡ true → Exact both w h x y bx by) × (t ≡ false → Exact both w h x y ax ay)
        go (before g l) =
            (λ _. to_nearest a b (nearest_of (of_other a b k.on_copper) (λ c d o. ahead_trans l (leads n c d o)) (leads k)) f, λ s. absurd (true≢false (sym g ∙ s)))
        go (behind g l) =
            (λ s. absurd (true≢false (sym s ∙ g)), λ _. to_nearest i j (nearest_of (of_one i j n.on_copper) (leads n) (λ c d o. ahead_trans l (leads k c d o))) e)
    exact_taken (to_nearest i j n e) (bare_sheet none v) =
        rw v (λ s. absurd (false≢true s), λ _. to_nearest i j (nearest_of (of_one i j n.on_copper) (leads n) (λ c d o. absurd (none c d o))) e)
    exact_taken (bare_sheet none u) (to_nearest a b k f) =
        rw (u, ends_labelled other w h wide tall x y across down k.on_copper f)
        (λ _. to_nearest a b (nearest_of (of_other a b k.on_copper) (λ c d o. absurd (none c d o)) (leads k)) f, λ s. absurd (true≢false s))
    exact_taken (bare_sheet none u) (bare_sheet empty v) =
        rw v (λ s. absurd (false≢true s), λ _. bare_sheet (λ i j c. elim (of_both i j c) [ inl k ↦ none i j k | inr k ↦ empty i j k ]) u)

    exact_at : let m = joined (exact_map one w h) (exact_map other w h) in Exact both w h x y (dx_at m (index w x y)) (dy_at m (index w x y))
    exact_at =
        let p = index w x y in
        let first = exact_map one w h in
        let second = exact_map other w h in
        let l : Inside p first = omega (arith, index-inside w x y across h down, exact_length one w h) in
        let e = exact_taken (is_exact one w h wide tall x y across down) (is_exact other w h wide tall x y across down) in
        rw (joined-dx first second p l, joined-dy first second p l) (cond_ind (λ m. Exact both w h x y (dx_at m p) (dy_at m p)) _ e.0 e.1)

  pub join_exact : joined (exact_map one w h) (exact_map other w h) ≡ exact_map both w h
  join_exact = only_exact both w h _ (joined_length (exact_map one w h) (exact_map other w h) ∙ exact_length one w h) exact_at
