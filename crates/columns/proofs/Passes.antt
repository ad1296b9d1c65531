-- A pass over the rows, downwards or upwards: how it starts, one row more, how it ends. A row is one step farther than the row before it, and a way is
-- never longer than the line.
-- Assumes nothing.
use mathlib.Core.Path.{◌≡◌, refl, ap, ap₂, ◌∙◌}
use mathlib.Core.Logic.{◌≢◌}
use mathlib.Core.Bool.{Bool, true, false}
use mathlib.Core.List.{List}
use Prim.Native.Nat.{ℕ, zero, suc, ◌+◌, ◌*◌, ◌-◌, ◌<◌, ◌≤◌}
use native.Mathlib.Decide.{dec_lt}
use native.Mathlib.Nat.{mul-le-mul_right}
use native.Mathlib.Numerals.{add-one}
use native.Mathlib.Omega.{arith}
use lib.IntN.{ℤ, pos, negsuc}
use lib.ListN.{length, get_or}
use lib.Signed.{mag}
use borrow.Author.Tests.{ne_eqb}
use Rattle.raster.specs.Pixels.{Mask, index}
use Rattle.raster.specs.PixelsLaws.{index-inside}
use Rattle.columns.specs.Column.{farther, far, up, shorter, way_of, is_zero, EveryPixel}
use Rattle.columns.specs.Passes.{Room, copper_ways, shortened, Spread}

-- ---- a line

farther_mag : (t : Bool) (v : ℤ) (n : ℕ) → mag v ≤ n → mag (farther t v) ≤ n + 1
farther_mag true v n h = omega arith
farther_mag false (pos a) n h = omega arith
farther_mag false (negsuc a) n h = omega arith

-- the value of the place before the t-th one, and −1 before the first
abbrev pub previous : (line : ℕ → Bool) (t : ℕ) → ℤ
previous line zero = negsuc 0
previous line (suc t) = far line t

module _ (line : ℕ → Bool) where
  far-next : (t : ℕ) → farther (line t) (previous line t) ≡ far line t
  unfolding far
  far-next zero = refl
  far-next (suc t) = refl

  previous_mag : (t : ℕ) → mag (previous line t) ≤ t
  previous_mag zero = omega arith
  previous_mag (suc t) = rw (← far-next t) (omega (arith, farther_mag (line t) (previous line t) t (previous_mag t)))

  -- the way is 0 on copper alone
  far-zero : (t : ℕ) → is_zero (far line t) ≡ line t
  far-zero t = rw (← far-next t) (go (line t) (previous line t))
    where
      go : (b : Bool) (v : ℤ) → is_zero (farther b v) ≡ b
      go true v = refl
      go false (pos n) = ne_eqb (n + 1) 0 (omega arith)
      go false (negsuc n) = refl

far-same : (a b : ℕ → Bool) (t : ℕ) → ((j : ℕ) → j ≤ t → a j ≡ b j) → far a t ≡ far b t
unfolding far
far-same a b zero same = rw (same 0 (omega arith))
far-same a b (suc t) same = ap₂ farther (same (suc t) (omega arith)) (far-same a b t (λ j l. same j (omega arith)))

-- ---- a pass, whose t-th row is row r t

-- the first t rows have what `make` makes of the way back to copper, the others are as they were, and `near` has the ways of the row before
pub record Pass (w h : ℕ) (r : ℕ → ℕ) (copper : Mask) (make : (x y : ℕ) → ℤ → ℤ) (ways near : List ℤ) (t : ℕ) (ways' near' : List ℤ) : Type 0 where
  pub on : t ≤ h
  pub long : length ways' ≡ length ways
  pub near_long : length near' ≡ length near
  pub made : (x k : ℕ) → x < w → k < t → get_or ways' (index w x (r k)) (pos 0) ≡ make x (r k) (far (λ i. copper x (r i)) k)
  pub rest : (x k : ℕ) → x < w → t ≤ k → k < h → get_or ways' (index w x (r k)) (pos 0) ≡ get_or ways (index w x (r k)) (pos 0)
  pub behind : (i : ℕ) → h * w ≤ i → get_or ways' i (pos 0) ≡ get_or ways i (pos 0)
  pub line : (x : ℕ) → x < w → get_or near' x (pos 0) ≡ previous (λ i. copper x (r i)) t

module _ {w h : ℕ} {r : ℕ → ℕ} {copper : Mask} {make : (x y : ℕ) → ℤ → ℤ} {ways near : List ℤ} where
  pub pass_none : ((x : ℕ) → x < w → get_or near x (pos 0) ≡ negsuc 0) → Pass w h r copper make ways near 0 ways near
  pass_none n = record {
    on = omega arith;
    long = refl;
    near_long = refl;
    made = λ x k a l. absurd (omega arith);
    rest = λ x k a l m. refl;
    behind = λ i l. refl;
    line = n;
  }

  module _ {t : ℕ} {ways' near' : List ℤ} (s : Pass w h r copper make ways near t ways' near') where
    pub pass_room : h ≤ 2048 → (x : ℕ) → x < w → Room (get_or near' x (pos 0))
    pass_room few x a = rw (s.line x a) (omega (arith, s.on, previous_mag (λ i. copper x (r i)) t))

    -- one row more: it is not one of the others, and has what stood there at first
    pub pass_more : {y u : ℕ} {copper_ways : ℕ → Bool} {made : ℕ → ℤ → ℤ} {ways'' near'' : List ℤ} → t < h → r t ≡ y → y < h → u ≡ t + 1 → ((k : ℕ) → k < h → r k ≡ r t → k ≡ t)
        → ((x : ℕ) → get_or ways' (index w x y) (pos 0) ≡ get_or ways (index w x (r t)) (pos 0) → (copper_ways x ≡ copper x (r t)) × ((v : ℤ) → made x v ≡ make x (r t) v))
        → Spread (y * w) w copper_ways made ways' near' ways'' near'' → Pass w h r copper make ways near u ways'' near''
    pass_more {y} {u} {copper_ways} {made} {ways''} {near''} more here on next once same p = rw next (record {
      on = omega arith;
      long = p.long ∙ s.long;
      near_long = p.near_long ∙ s.near_long;
      made = λ x k a l. elim (dec_lt k t) [
        | yes m ↦ other x k a (λ e. omega (arith, once k (omega arith) e)) ∙ s.made x k a m
        | no m ↦ let e : k ≡ t = omega arith in rw (e, here) (p.here x a ∙ rw (← here) ((same x (was x a)).1 _) ∙ ap (make x y) (far-here x a))
      ];
      rest = λ x k a l m. other x k a (λ e. omega (arith, once k m e)) ∙ s.rest x k a (omega arith) m;
      behind = λ i l. p.high_kept i (omega (arith, mul-le-mul_right w on)) ∙ s.behind i l;
      line = λ x a. rw add-one (far-here x a);
    })
      where
        was : (x : ℕ) → x < w → get_or ways' (index w x y) (pos 0) ≡ get_or ways (index w x (r t)) (pos 0)
        was x a = rw (← here) (s.rest x t a (omega arith) more)

        far-here : (x : ℕ) → x < w → get_or near'' x (pos 0) ≡ far (λ i. copper x (r i)) t
        far-here x a = p.steps x a ∙ ap₂ farther (same x (was x a)).0 (s.line x a) ∙ far-next (λ i. copper x (r i)) t

        other : (x k : ℕ) → x < w → r k ≢ r t → get_or ways'' (index w x (r k)) (pos 0) ≡ get_or ways' (index w x (r k)) (pos 0)
        other x k a n = elim (dec_lt (r k) y) [
          | yes l ↦ p.low_kept (index w x (r k)) (index-inside w x (r k) a y l)
          | no l ↦ let m : y < r k = omega arith in p.high_kept (index w x (r k)) (omega (arith, mul-le-mul_right w m))
        ]

    -- all rows, if row r y is the y-th
    pub pass_all : t ≡ h → ((y : ℕ) → y < h → (r y < h) × (r (r y) ≡ y)) → EveryPixel w h (λ x y. make x y (far (λ i. copper x (r i)) (r y))) ways ways'
    pass_all e back = record { long = s.long; at = λ x y a b. rw (back y b).1 at (s.made x (r y) a (omega (arith, (back y b).0))); behind = s.behind }

-- ---- both

pub both-passes : (copper : Mask) {w h : ℕ} {m n o : List ℤ} → EveryPixel w h (up copper) m n → EveryPixel w h (shortened n w h) n o
    → EveryPixel w h (way_of copper h) m o
both-passes copper {w} {h} {m} {n} {o} r s = record {
  long = s.long ∙ r.long;
  at = λ x y a b. s.at x y a b ∙ ap₂ shorter (r.at x y a b) (far-same _ _ (h - 1 - y) (λ j l. copper_is x (h - 1 - j) a (omega arith)));
  behind = λ i l. s.behind i l ∙ r.behind i l;
}
  where
    copper_is : (x y : ℕ) → x < w → y < h → copper_ways n w x y ≡ copper x y
    copper_is x y a b = ap is_zero (r.at x y a b) ∙ far-zero (copper x) y
