-- The sheet's rim: the test `stays` says what `Stays` says, and with the root of q the inner pixels are those that are far enough from the rim.
-- Assumes nothing.
use mathlib.Core.Path.{◌≡◌, refl, sym, ap, subst, ◌∙◌}
use mathlib.Core.Bool.{Bool, true, false, not, ◌&&◌}
use Prim.Native.Nat.{ℕ, zero, suc, ◌+◌, ◌-◌, ◌*◌, ◌<◌, ◌≤◌, min}
use native.Mathlib.Decide.{dec_le}
use native.Mathlib.Omega.{arith, min_cases}
use lib.Dec.{leb}
use lib.IntN.{ℤ, pos, negsuc, nat_abs, ◌-ℤ◌, +ℤ_idr}
use borrow.Author.Tests.{leb-true, ltb-true, ltb-false, le-leb, lt-ltb, le-ltb, not-true}
use Rattle.raster.specs.Distance.{gap}
use Rattle.raster.specs.DistanceLaws.{gap-self, square_le}
use Rattle.raster.specs.Pixels.{Mask}
use Rattle.raster.specs.Place.{in_line, is_pixel, apart_from}
use Rattle.raster.specs.Tests.{and_left, and_right, same}
use Rattle.raster.specs.Vector.{size}
use Rattle.raster.specs.VectorLaws.{way-abs}
use Rattle.morphology.specs.Resize.{near, bare_of, Stays, steps_off, far_from_rim, stays}
use Rattle.morphology.specs.Threshold.{inner, RootUpTo}
use Rattle.morphology.proofs.Near.{near-false, near_clear}

-- ---- along a line

-- the way to a place before the line, to the one just past it, and to the place itself
before_line : (t i : ℕ) → nat_abs (negsuc i -ℤ pos t) ≡ t + 1 + i
before_line zero i = ap nat_abs (+ℤ_idr (negsuc i)) ∙ omega arith
before_line (suc t) i = let e : nat_abs (negsuc i -ℤ pos (suc t)) ≡ suc (suc (i + t)) = refl in omega arith

past_line : (side t : ℕ) → t < side → nat_abs (pos side -ℤ pos t) ≡ side - t
unfolding gap
past_line side t l = omega (arith, way-abs t side)

no_way : (t : ℕ) → nat_abs (pos t -ℤ pos t) ≡ 0
no_way t = way-abs t t ∙ gap-self t

-- a place off the line is no nearer than its two ends
off_line : (side t : ℕ) (z : ℤ) → in_line side z ≡ false → min (t + 1) (side - t) ≤ nat_abs (z -ℤ pos t)
unfolding gap
off_line side t (pos i) e = omega (arith, way-abs t i, ltb-false i side e)
off_line side t (negsuc i) e = omega (arith, before_line t i)

-- an inner place, by the two sides of it
pub inner-true : (rim n t : ℕ) → rim ≤ t → t + rim < n → inner rim n t ≡ true
inner-true rim n t a b = simp (le-leb rim t a, lt-ltb (t + rim) n b)

inner-says : (rim n t : ℕ) → inner rim n t ≡ true → (rim ≤ t) × (t + rim < n)
inner-says rim n t e = (leb-true rim t (and_left _ _ e), ltb-true (t + rim) n (and_right (leb rim t) _ e))

-- equal numbers have equal squares
squared : {a b : ℕ} → a ≡ b → a * a ≡ b * b
squared e = ap (λ (t : ℕ). t * t) e

-- what holds of both holds of the smaller
of_min : (P : ℕ → Type 0) (a b : ℕ) → P a → P b → P (min a b)
of_min P a b p r = min_cases a b (P (min a b)) (λ l e. subst P (sym e) p) (λ l e. subst P (sym e) r)

-- ---- on the sheet

module _ (w h x y : ℕ) (across : x < w) (down : y < h) where
  -- no place off the sheet is nearer than `steps_off` says
  far_off : (p : ℤ × ℤ) → is_pixel w h p ≡ false → steps_off w h x y * steps_off w h x y ≤ apart_from x y p
  unfolding steps_off size
  far_off p e = go (in_line w p.0) refl e
    where
      n : ℕ
      n = steps_off w h x y

      dx : ℕ
      dx = nat_abs (p.0 -ℤ pos x)

      dy : ℕ
      dy = nat_abs (p.1 -ℤ pos y)

      go : (t : Bool) → in_line w p.0 ≡ t → t && in_line h p.1 ≡ false → n * n ≤ dx * dx + dy * dy
      go false f g = let l : n ≤ dx = omega (arith, off_line w x p.0 f) in omega (arith, square_le l)
      go true f g = let l : n ≤ dy = omega (arith, off_line h y p.1 g) in omega (arith, square_le l)

  -- and straight across each side lies one, so that `steps_off` is above q where all of them are
  across_sides : (q : ℕ) → ((p : ℤ × ℤ) → is_pixel w h p ≡ false → q < apart_from x y p) → q < steps_off w h x y * steps_off w h x y
  unfolding steps_off size
  across_sides q far =
      of_min Above (min (x + 1) (w - x)) (min (y + 1) (h - y)) (of_min Above (x + 1) (w - x) left right) (of_min Above (y + 1) (h - y) top bottom)
    where
      Above : ℕ → Type 0
      Above n = q < n * n

      left : Above (x + 1)
      left = omega (arith, far (negsuc 0, pos y) refl, squared (before_line x 0), squared (no_way y))

      right : Above (w - x)
      right = omega (arith, far (pos w, pos y) (rw (le-ltb w w (omega arith))), squared (past_line w x across), squared (no_way y))

      top : Above (y + 1)
      top = omega (arith, far (pos x, negsuc 0) (rw (lt-ltb x w across)), squared (no_way x), squared (before_line y 0))

      bottom : Above (h - y)
      bottom = omega (arith, far (pos x, pos h) (rw (lt-ltb x w across, le-ltb h h (omega arith))), squared (no_way x), squared (past_line h y down))

  module _ (copper : Mask) (q : ℕ) where
    -- the test holds exactly if the rule does
    pub stays-says : stays copper w h q x y ≡ true → Stays copper w h q x y
    stays-says e =
        let r = and_right (copper x y) _ e in record {
          is_copper = and_left _ _ e;
          from_bare = near_clear (bare_of copper) w h q x y (not-true _ (and_left _ _ r));
          from_rim = λ p f. omega (arith, far_off p f, ltb-true q _ (and_right (not (near (bare_of copper) w h q x y)) _ r));
        }

    pub stays-true : Stays copper w h q x y → stays copper w h q x y ≡ true
    stays-true s =
        let far = near-false (bare_of copper) w h q x y (λ n. omega (arith, n.within, s.from_bare n.column n.row n.copper)) in
        let off = lt-ltb q (steps_off w h x y * steps_off w h x y) (across_sides q s.from_rim) in
        simp (s.is_copper, far, off)

  -- the inner pixels are those whose straight way off the sheet is above q
  pub inner_is : {q rim : ℕ} → RootUpTo w q rim → inner rim h y && inner rim w x ≡ far_from_rim w h q x y
  unfolding steps_off
  inner_is {q} {rim} r =
      same _ _ (λ e. lt-ltb q (n * n) (above (and_left (inner rim h y) _ e) (and_right (inner rim h y) _ e)))
      (λ e. between (root_below (ltb-true q (n * n) e)))
    where
      n : ℕ
      n = steps_off w h x y

      above : inner rim h y ≡ true → inner rim w x ≡ true → q < n * n
      above e f =
          let a = inner-says rim h y e in
          let b = inner-says rim w x f in
          let l : rim + 1 ≤ n = omega arith in
          omega (arith, r.last (omega arith), square_le l)

      root_below : q < n * n → rim < n
      root_below l = elim (dec_le n rim) [ yes k ↦ absurd (omega (arith, square_le k, r.square)) | no k ↦ omega arith ]

      between : rim < n → inner rim h y && inner rim w x ≡ true
      between l = rw (inner-true rim h y (omega arith) (omega arith), inner-true rim w x (omega arith) (omega arith))
