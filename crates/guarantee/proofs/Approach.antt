-- The closest approach: what is recorded of the places visited so far, and one more, is the least again; and what a least size is on an exact map.
-- Assumes nothing.
use mathlib.Core.Path.{◌≡◌, refl, sym, ap, ◌∙◌}
use mathlib.Core.Logic.{inl, inr}
use mathlib.Core.Bool.{Bool, true, false, cond, true≢false}
use mathlib.Core.List.{List, [], ◌∷◌}
use Prim.Native.Nat.{ℕ, ◌<◌, ◌≤◌}
use native.Mathlib.Omega.{arith}
use lib.Dec.{leb, ltb}
use lib.IntN.{ℤ, pos, nat_abs}
use borrow.Author.Tests.{leb-true, leb-false, lt-ltb, ltb-true}
use Rattle.raster.specs.Distance.{Copper}
use Rattle.raster.specs.Limits.{max_side}
use Rattle.raster.specs.Pixels.{Mask, index}
use Rattle.raster.specs.Place.{is_pixel}
use Rattle.raster.specs.Tests.{and_left, and_right}
use Rattle.raster.specs.VectorLaws.{ends-size}
use Rattle.cutter.specs.Kinds.{Maps, unlabelled_in, size_in}
use Rattle.cutter.specs.declared.Closest.{Closest}
use Rattle.cutter.specs.Closest.{unmet, met_at, nearer, closest_with}
use Rattle.exact.specs.Nearest.{exact_map}
use Rattle.exact.proofs.Theorems as exact
use Rattle.guarantee.specs.Claims.{Among, Least, none_met, least_met, HasSize, HasDistance, Approach}

-- ---- the places visited

-- one pixel, named twice
pub same-pixel : (P : (x y : ℕ) → Type 0) {x y i j : ℕ} → ◌≡◌ {A = ℤ × ℤ} (pos x, pos y) (pos i, pos j) → P x y → P i j
same-pixel P e p = rw (← ap (λ (t : ℤ × ℤ). nat_abs t.0) e, ← ap (λ (t : ℤ × ℤ). nat_abs t.1) e) p

-- nothing is visited yet
pub no_approach : {e : ℕ} {m : Maps} {w h : ℕ} → Approach e m w h [] unmet
no_approach = record { pixels = λ p. elim [ ]; least = none_met (λ x y. elim [ ]) }

-- what holds of one more pixel and of those before it holds of all
all-pixels : (P : (i j : ℕ) → Type 0) {x y : ℕ} (ps : List (ℤ × ℤ)) → P x y → ((i j : ℕ) → Among (pos i, pos j) ps → P i j)
    → (i j : ℕ) → Among (pos i, pos j) ((pos x, pos y) ∷ ps) → P i j
all-pixels P ps p rest i j (inl e) = same-pixel P e p
all-pixels P ps p rest i j (inr v) = rest i j v

module _ (e : ℕ) (m : Maps) (w x y : ℕ) where
  abbrev here : ℕ
  here = size_in e m (index w x y)

  -- n is at most the size of (i, j), if that is labelled
  abbrev AtMost : (n i j : ℕ) → Type 0
  AtMost n i j = (k : ℕ) → HasSize e m w i j k → n ≤ k

  -- the pixel is the least, if it is labelled and none before it is less
  first-least : {ps : List (ℤ × ℤ)} → unlabelled_in e m (index w x y) ≡ false → ((i j : ℕ) → Among (pos i, pos j) ps → AtMost here i j)
      → Least (HasSize e m w) ((pos x, pos y) ∷ ps) (met_at here)
  first-least {ps} u rest =
      least_met x y here (inl refl) (record { labelled = u; size = refl }) (all-pixels (AtMost here) ps (λ k s. omega (arith, s.size)) rest)

  -- the least with it, labelled
  nearer-least : {ps : List (ℤ × ℤ)} {k : Closest} → unlabelled_in e m (index w x y) ≡ false
      → Least (HasSize e m w) ps k → Least (HasSize e m w) ((pos x, pos y) ∷ ps) (nearer here k)
  unfolding nearer
  nearer-least u (none_met none) = first-least u (λ i j v k s. absurd (none i j v k s))
  nearer-least {ps} u (least_met i j n v s least) = go (leb n here) refl
    where
      go : (t : Bool) → leb n here ≡ t → Least (HasSize e m w) ((pos x, pos y) ∷ ps) (cond t (met_at n) (met_at here))
      go true f = let l = leb-true n here f in least_met i j n (inr v) s (all-pixels (AtMost n) ps (λ k t. omega (arith, t.size, l)) least)
      go false f = let l = leb-false n here f in first-least u (λ a b o k t. omega (arith, l, least a b o k t))

  -- with it, labelled or not
  with_least : {ps : List (ℤ × ℤ)} {k : Closest}
      → Least (HasSize e m w) ps k → Least (HasSize e m w) ((pos x, pos y) ∷ ps) (closest_with e m (index w x y) k)
  unfolding closest_with
  with_least {ps} {k} l = go (unlabelled_in e m (index w x y)) refl l
    where
      go : (t : Bool) → unlabelled_in e m (index w x y) ≡ t → {c : Closest} → Least (HasSize e m w) ps c
          → Least (HasSize e m w) ((pos x, pos y) ∷ ps) (cond t c (nearer here c))
      go true u (none_met none) = none_met (all-pixels (λ i j. (n : ℕ) → HasSize e m w i j n → ⊥) ps (λ n s. true≢false (sym u ∙ s.labelled)) none)
      go true u (least_met i j n v s least) =
          least_met i j n (inr v) s (all-pixels (AtMost n) ps (λ k t. absurd (true≢false (sym u ∙ t.labelled))) least)
      go false u c = nearer-least u c

  -- and it is a pixel
  pub with_pixel : {h : ℕ} {p : ℤ × ℤ} {ps : List (ℤ × ℤ)} {k : Closest} → x < w → y < h → p ≡ (pos x, pos y)
      → Approach e m w h ps k → Approach e m w h (p ∷ ps) (closest_with e m (index w x y) k)
  with_pixel {h} {p} {ps} {k} across down at a = rw at (record { pixels = all; least = with_least a.least })
    where
      all : (o : ℤ × ℤ) → Among o ((pos x, pos y) ∷ ps) → is_pixel w h o ≡ true
      all o (inl f) = rw (← f, lt-ltb x w across, lt-ltb y h down)
      all o (inr v) = a.pixels o v

-- ---- on an exact map

module _ (copper : Mask) (w h : ℕ) (wide : w ≤ max_side) (tall : h ≤ max_side) {m : Maps} (exact-map : m.pairs ≡ exact_map copper w h)
    {ps : List (ℤ × ℤ)} {k : Closest} (a : Approach 1 m w h ps k) where
  inside : {x y : ℕ} → Among (pos x, pos y) ps → (x < w) × (y < h)
  inside {x} {y} v =
      let e = a.pixels (pos x, pos y) v in
      (ltb-true x w (and_left (ltb x w) _ e), ltb-true y h (and_right (ltb x w) _ e))

  -- with copper every pixel has a size
  has_size : {x y n : ℕ} → Among (pos x, pos y) ps → HasDistance copper w h x y n → HasSize 1 m w x y (size_in 1 m (index w x y))
  has_size {x} {y} v d =
      let i = inside v in
      record { labelled = rw exact-map (exact.with_copper copper w h wide tall x y i.0 i.1 d.column d.row d.on_copper); size = refl }

  -- the least size is the least squared distance to copper
  pub least_distance : Least (HasDistance copper w h) ps k
  least_distance = go a.least
    where
      go : {c : Closest} → Least (HasSize 1 m w) ps c → Least (HasDistance copper w h) ps c
      go (none_met none) = none_met (λ x y v n d. none x y v _ (has_size v d))
      go (least_met x y n v s least) =
          let i = inside v in
          let t = exact.ends-on-copper copper w h wide tall x y i.0 i.1 (rw exact-map at s.labelled) in
          least_met x y n v (record { column = t.column; row = t.row; on_copper = t.on_copper; distance = sym (ends-size t.ends) ∙ (rw exact-map at s.size) })
          (λ c r u o d.
          let j = inside u in
          omega (
            arith,
            rw exact-map at (least c r u _ (has_size u d)),
            exact.least copper w h wide tall c r j.0 j.1 d.column d.row d.on_copper,
            d.distance,
          ))

-- where copper is the same, so is what is least
carried : {c₁ c₂ : Mask} {w₁ h₁ w₂ h₂ x y n : ℕ} → ((i j : ℕ) → Copper c₁ w₁ h₁ i j → Copper c₂ w₂ h₂ i j)
    → HasDistance c₁ w₁ h₁ x y n → HasDistance c₂ w₂ h₂ x y n
carried to d = record { column = d.column; row = d.row; on_copper = to _ _ d.on_copper; distance = d.distance }

pub same-least : {c₁ c₂ : Mask} {w₁ h₁ w₂ h₂ : ℕ} {ps : List (ℤ × ℤ)} {k : Closest}
    → ((i j : ℕ) → Copper c₁ w₁ h₁ i j → Copper c₂ w₂ h₂ i j) → ((i j : ℕ) → Copper c₂ w₂ h₂ i j → Copper c₁ w₁ h₁ i j)
    → Least (HasDistance c₁ w₁ h₁) ps k → Least (HasDistance c₂ w₂ h₂) ps k
same-least to from (none_met none) = none_met (λ x y v n d. none x y v n (carried from d))
same-least to from (least_met x y n v d least) = least_met x y n v (carried to d) (λ i j u m e. least i j u m (carried from e))
