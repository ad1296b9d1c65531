-- What the exact map guarantees, at every pixel of every sheet up to 2,048 × 2,048: document 01, "Engines".
--   With copper, the vector ends on a copper pixel (`ends-on-copper`), no copper pixel is nearer (`least`), and of those as near it is the one of least
--   column, then least row (`is_exact`, which says all of it); no other map is so (`only_exact`). Without copper every pixel is unlabelled. No component
--   is outside ±2,047. The size is the true squared distance (`true_distance_lem`). The gate passes exactly where all copper is above q.
-- Assumes nothing.
use mathlib.Core.Path.{◌≡◌, sym, ap, ◌∙◌}
use mathlib.Core.Logic.{◌⊎◌, inl, inr}
use mathlib.Core.Bool.{true, false, true≢false}
use mathlib.Core.List.{List}
use Prim.Native.Nat.{ℕ, ◌*◌, ◌<◌, ◌≤◌}
use native.Mathlib.Omega.{arith}
use lib.IntN.{ℤ, pos, nat_abs, ◌+ℤ◌, ◌-ℤ◌, +ℤ_comm, +ℤ-neg_ℤ_cancel}
use lib.ListN.{length}
use Rattle.raster.specs.Distance.{apart, Copper, Clear, true_distance}
use Rattle.raster.specs.DistanceLaws.{apart-small, distance_is, distance_none}
use Rattle.raster.specs.Gate.{passes, NearBy}
use Rattle.raster.specs.GateLaws.{passed-above, failed_near}
use Rattle.raster.specs.Limits.{max_side}
use Rattle.raster.specs.Map.{dx_at, dy_at}
use Rattle.raster.specs.MapLaws.{vectors-dx, vectors-dy, vectors_is}
use Rattle.raster.specs.Pixels.{Mask, index}
use Rattle.raster.specs.Vector.{size, is_mark, unlabelled, Ends, Target}
use Rattle.raster.specs.VectorLaws.{one-mark, near-labelled, way-ends, ends-size, target_near}
use Rattle.raster.specs.Tests.{and_left, and_right}
use Rattle.exact.specs.Nearest.{Nearest, Exact, to_nearest, bare_sheet, SearchState, nearest, to_column, to_row, exact_map, distance_of, gate}
use Rattle.exact.proofs.Search.{Answer, no_copper, nearest_at, found}

module _ (copper : Mask) (w h : ℕ) (wide : w ≤ max_side) (tall : h ≤ max_side) (x y : ℕ) (across : x < w) (down : y < h) where
  -- a vector that ends on copper is labelled
  pub ends_labelled : {i j : ℕ} {u v : ℤ} → Copper copper w h i j → Ends x y u v i j → unlabelled u v ≡ false
  ends_labelled {u = u} {v = v} c e = near-labelled u v (omega (arith, (target_near across down (record { column = _; row = _; on_copper = c; ends = e })).0))

  -- what an exact vector says of the true squared distance is so
  pub exact_distance : {u v : ℤ} → Exact copper w h x y u v → distance_of u v ≡ true_distance copper w h x y
  exact_distance (to_nearest i j n e) =
      let c = n.on_copper in
      rw (ends_labelled c e)
      (ends-size e ∙ sym (distance_is copper w h x y i j c n.least (omega (arith, apart-small w h x y i j wide tall across down c.across c.down))))
  exact_distance (bare_sheet bare u) = rw u (sym (distance_none copper w h x y bare))

  abbrev pub dx : ℤ
  dx = dx_at (exact_map copper w h) (index w x y)

  abbrev pub dy : ℤ
  dy = dy_at (exact_map copper w h) (index w x y)

  dx_is : dx ≡ to_column x (nearest copper x y w h)
  unfolding exact_map
  dx_is = vectors-dx w h _ _ x y across down

  dy_is : dy ≡ to_row y (nearest copper x y w h)
  unfolding exact_map
  dy_is = vectors-dy w h _ _ x y across down

  -- ---- the theorems

  -- the vector is the one that document 01 asks for
  pub is_exact : Exact copper w h x y dx dy
  is_exact = go (found copper w h x y) dx_is dy_is
    where
      go : {f : SearchState} → Answer copper w h x y f → dx ≡ to_column x f → dy ≡ to_row y f → Exact copper w h x y dx dy
      go (no_copper bare) p q = bare_sheet bare (rw (p, q))
      go (nearest_at i j n) p q = to_nearest i j n (record { column = rw p (way-ends x i); row = rw q (way-ends y j) })

  pub ends-on-copper : unlabelled dx dy ≡ false → Target copper w h x y dx dy
  ends-on-copper l = go is_exact
    where
      go : Exact copper w h x y dx dy → Target copper w h x y dx dy
      go (to_nearest i j n e) = record { column = i; row = j; on_copper = n.on_copper; ends = e }
      go (bare_sheet bare u) = absurd (true≢false (sym u ∙ l))

  -- so no component is outside ±2,047
  pub in_range : unlabelled dx dy ≡ false → (nat_abs dx ≤ 2047) × (nat_abs dy ≤ 2047)
  in_range l = let n = target_near across down (ends-on-copper l) in (omega (arith, n.0), omega (arith, n.1))

  pub with_copper : (i j : ℕ) → Copper copper w h i j → unlabelled dx dy ≡ false
  with_copper i j c = go is_exact
    where
      go : Exact copper w h x y dx dy → unlabelled dx dy ≡ false
      go (to_nearest a b n e) = ends_labelled n.on_copper e
      go (bare_sheet bare u) = absurd (bare i j c)

  pub without-copper : ((i j : ℕ) → Copper copper w h i j → ⊥) → unlabelled dx dy ≡ true
  without-copper empty = go is_exact
    where
      go : Exact copper w h x y dx dy → unlabelled dx dy ≡ true
      go (to_nearest a b n e) = absurd (empty a b n.on_copper)
      go (bare_sheet bare u) = u

  pub least : (a b : ℕ) → Copper copper w h a b → size dx dy ≤ apart x y a b
  least a b c = go is_exact
    where
      go : Exact copper w h x y dx dy → size dx dy ≤ apart x y a b
      go (to_nearest i j n e) = omega (arith, ends-size e, n.least a b c)
      go (bare_sheet bare u) = absurd (bare a b c)

  -- the size is the true squared distance, and unlabelled says that there is no copper
  pub true_distance_lem : distance_of dx dy ≡ true_distance copper w h x y
  true_distance_lem = exact_distance is_exact

  -- the gate passes only where all copper is above q, and fails only where some is not
  pub gate_safe : (q : ℕ) → passes gate (size dx dy) q ≡ true → Clear copper w h x y q
  gate_safe q p i j c = passed-above gate (size dx dy) q (apart x y i j) (omega (arith, least i j c)) p

  pub gate_fair : (q : ℕ) → unlabelled dx dy ≡ false → passes gate (size dx dy) q ≡ false → NearBy gate copper w h x y q
  gate_fair q l p = failed_near gate (ends-on-copper l) p

-- ---- no other map is exact

-- the nearest copper pixel is one pixel
one-nearest : {copper : Mask} {w h x y i j a b : ℕ} → Nearest copper w h x y i j → Nearest copper w h x y a b → (i ≡ a) × (j ≡ b)
one-nearest {copper} {w} {h} {x} {y} {i} {j} {a} {b} p q = go (p.first a b q.on_copper (sym e)) (q.first i j p.on_copper e)
  where
    e : apart x y i j ≡ apart x y a b
    e = omega (arith, p.least a b q.on_copper, q.least i j p.on_copper)

    go : (i < a) ⊎ ((i ≡ a) × (j ≤ b)) → (a < i) ⊎ ((a ≡ i) × (b ≤ j)) → (i ≡ a) × (j ≡ b)
    go (inl l) (inl m) = absurd (omega arith)
    go (inl l) (inr m) = absurd (omega (arith, m.0))
    go (inr l) (inl m) = absurd (omega (arith, l.0))
    go (inr l) (inr m) = (l.0, omega (arith, l.1, m.1))

-- the way to a place is one number
one_way : (x i : ℕ) (d : ℤ) → pos x +ℤ d ≡ pos i → d ≡ pos i -ℤ pos x
one_way x i d e = sym (+ℤ-neg_ℤ_cancel d (pos x)) ∙ ap (λ (t : ℤ). t -ℤ pos x) (+ℤ_comm d (pos x) ∙ e)

-- a map that is exact at every pixel is the exact map
pub only_exact : (copper : Mask) (w h : ℕ) (m : List ℤ) → length m ≡ 2 * (h * w)
    → ((x y : ℕ) → x < w → y < h → Exact copper w h x y (dx_at m (index w x y)) (dy_at m (index w x y))) → m ≡ exact_map copper w h
unfolding exact_map
only_exact copper w h m long exact_at = vectors_is w h _ _ m long (λ x y a b. go (exact_at x y a b) (found copper w h x y))
  where
    go : {x y : ℕ} {dx dy : ℤ} {f : SearchState} → Exact copper w h x y dx dy → Answer copper w h x y f → (dx ≡ to_column x f) × (dy ≡ to_row y f)
    go (to_nearest i j n e) (no_copper bare) = absurd (bare i j n.on_copper)
    go {x} {y} {dx} {dy} (to_nearest i j n e) (nearest_at a b k) = let s = one-nearest n k in rw (← s.0, ← s.1) (one_way x i dx e.column, one_way y j dy e.row)
    go {x} {y} {dx} {dy} (bare_sheet bare u) (no_copper empty) = (one-mark dx (and_left (is_mark dx) _ u), one-mark dy (and_right (is_mark dx) _ u))
    go (bare_sheet bare u) (nearest_at a b k) = absurd (bare a b k.on_copper)
