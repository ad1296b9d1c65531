-- The laws of sheets: the places of a rectangle, and a rectangle that is filled row by row.
-- Assumes nothing.
use Rattle.std.specs.Prelude.{◌≡◌, refl, ◌⊎◌, true, cond, ◌&&◌, List, ◌++◌, ℕ, ◌+◌, ◌*◌, ◌-◌, ◌<◌, ◌≤◌, leb, take, replicate}
use Rattle.std.proofs.Math.Path.{sym, ap}
use Rattle.std.proofs.Common.{◌∙◌, inl, inr, length-append, length-drop}
use Rattle.std.proofs.Math.Nat.{mul-le-mul_right}
use Rattle.std.proofs.Math.Decide.{dec_lt}
use native.Mathlib.Omega.{arith}
use Rattle.std.proofs.Math.Dec.{ltb}
use Rattle.std.proofs.Math.ListN.{length, get_or, drop, length-replicate, get_or-append}
use Rattle.std.proofs.lemmas.List.{get_or-replicate}
use Rattle.std.proofs.Math.Seq.{length-take-le, get_or-take, get_or-drop, get_or-append-add}
use borrow.Author.Tests.{ltb-true, leb-true, lt-ltb, le-leb}
use Rattle.raster.specs.Pixels.{index}
use Rattle.raster.specs.PixelsLaws.{pixels-length, pixels-at, pixels_is}
use Rattle.raster.specs.Sheet.{spanned, in_rectangle, filled}
use Rattle.raster.specs.Tests.{and_left, and_right, same, cond_ind}

-- ---- a span of places

module _ (p n v : ℕ) (s : List ℕ) (room : p + n ≤ length s) where
  pub spanned-length : length (spanned p n v s) ≡ length s
  unfolding spanned
  spanned-length = simp (length-append, length-take-le p s (omega arith), length-replicate, length-drop) (omega arith)

  -- a place past the first p, seen from there
  past : (i : ℕ) → p ≤ i → get_or (spanned p n v s) i 0 ≡ get_or (replicate n v ++ drop (p + n) s) (i - p) 0
  unfolding spanned
  past i h =
      let l = length-take-le p s (omega arith) in
      let e : length (take p s) + (i - p) ≡ i = omega arith in
      sym (ap (λ (k : ℕ). get_or (take p s ++ (replicate n v ++ drop (p + n) s)) k 0) e) ∙ get_or-append-add (take p s) _ (i - p) 0

  pub spanned_in : (i : ℕ) → p ≤ i → i < p + n → get_or (spanned p n v s) i 0 ≡ v
  spanned_in i h k =
      past i h ∙ get_or-append (replicate n v) _ 0 (i - p) (omega (arith, length-replicate n v)) ∙ get_or-replicate n (i - p) v 0 (omega arith)

  -- every other place is as it was
  pub spanned_out : (i : ℕ) → (i < p) ⊎ (p + n ≤ i) → get_or (spanned p n v s) i 0 ≡ get_or s i 0
  unfolding spanned
  spanned_out i (inl h) = get_or-append (take p s) _ 0 i (omega (arith, length-take-le p s (omega arith))) ∙ get_or-take p s i 0 h
  spanned_out i (inr h) =
      let e : length (replicate n v) + (i - (p + n)) ≡ i - p = omega (arith, length-replicate n v) in
      let f : p + n + (i - (p + n)) ≡ i = omega arith in
      past i (omega arith)
      ∙ sym (ap (λ (k : ℕ). get_or (replicate n v ++ drop (p + n) s) k 0) e)
      ∙ get_or-append-add (replicate n v) _ (i - (p + n)) 0
      ∙ get_or-drop (p + n) s (i - (p + n)) 0
      ∙ ap (λ (k : ℕ). get_or s k 0) f

-- ---- the pixels of a rectangle

record Covered (x y cols rows a b : ℕ) : Type 0 where
  left : x ≤ a
  right : a < x + cols
  top : y ≤ b
  bottom : b < y + rows

module _ (x y cols rows a b : ℕ) where
  in_rectangle_lem : in_rectangle x y cols rows a b ≡ true → Covered x y cols rows a b
  unfolding in_rectangle
  in_rectangle_lem e =
      let c = and_left (leb x a && ltb a (x + cols)) _ e in
      let d = and_right (leb x a && ltb a (x + cols)) _ e in record {
        left = leb-true x a (and_left (leb x a) _ c);
        right = ltb-true a (x + cols) (and_right (leb x a) _ c);
        top = leb-true y b (and_left (leb y b) _ d);
        bottom = ltb-true b (y + rows) (and_right (leb y b) _ d);
      }

  rectangle_in : Covered x y cols rows a b → in_rectangle x y cols rows a b ≡ true
  unfolding in_rectangle
  rectangle_in c = simp (le-leb x a c.left, lt-ltb a (x + cols) c.right, le-leb y b c.top, lt-ltb b (y + rows) c.bottom)

-- ---- a rectangle, row by row

module _ (w h x y cols v : ℕ) (s : List ℕ) (whole : length s ≡ h * w) (across : x + cols ≤ w) where
  filled-length : (rows : ℕ) → length (filled w h x y cols rows v s) ≡ h * w
  unfolding filled
  filled-length rows = pixels-length w h _

  pub filled_none : s ≡ filled w h x y cols 0 v s
  unfolding filled
  filled_none =
      pixels_is w h _ s 0 whole
      (λ a b k l. cond_ind (λ (t : ℕ). get_or s (index w a b) 0 ≡ t) (in_rectangle x y cols 0 a b) (λ e. let c = in_rectangle_lem x y cols 0 a b e in absurd (omega (arith, c.top, c.bottom))) (λ e. refl))

  module _ (j : ℕ) (below : y + j < h) (a b : ℕ) where
    -- a pixel that the next row does not hold is covered after it as before
    as_before : (Covered x y cols (j + 1) a b → b < y + j) → in_rectangle x y cols j a b ≡ in_rectangle x y cols (j + 1) a b
    as_before inner =
        same (in_rectangle x y cols j a b) (in_rectangle x y cols (j + 1) a b)
        (λ e. let c = in_rectangle_lem x y cols j a b e in rectangle_in x y cols (j + 1) a b (record { left = c.left; right = c.right; top = c.top; bottom = omega (arith, c.bottom) }))
        (λ e. let c = in_rectangle_lem x y cols (j + 1) a b e in rectangle_in x y cols j a b (record { left = c.left; right = c.right; top = c.top; bottom = inner c }))

    -- the pixel, when the next row is filled
    abbrev Next : Type 0
    Next = get_or (spanned (index w x (y + j)) cols v (filled w h x y cols j v s)) (index w a b) 0 ≡ cond (in_rectangle x y cols (j + 1) a b) v (get_or s (index w a b) 0)

    pixel : a < w → b < h → Next
    unfolding filled
    pixel k l = go (dec_lt b (y + j)) (dec_lt (y + j) b) (dec_lt a x) (dec_lt a (x + cols))
      where
        room : index w x (y + j) + cols ≤ length (filled w h x y cols j v s)
        room = rw (filled-length j) (omega (arith, mul-le-mul_right w below))

        other : (index w a b < index w x (y + j)) ⊎ (index w x (y + j) + cols ≤ index w a b) → (Covered x y cols (j + 1) a b → b < y + j) → Next
        other g inner = spanned_out _ cols v _ room (index w a b) g ∙ pixels-at w h _ a b 0 k l ∙ rw (as_before inner)

        go : Dec (b < y + j) → Dec (y + j < b) → Dec (a < x) → Dec (a < x + cols) → Next
        go (yes d) e f g = other (inl (omega (arith, mul-le-mul_right w d))) (λ c. d)
        go (no d) (yes e) f g = other (inr (omega (arith, mul-le-mul_right w e))) (λ c. absurd (omega (arith, c.bottom)))
        go (no d) (no e) (yes f) g = let r : b ≡ y + j = omega arith in other (inl (omega (arith, ap (λ (t : ℕ). t * w) r))) (λ c. absurd (omega (arith, c.left)))
        go (no d) (no e) (no f) (yes g) =
            let r : b ≡ y + j = omega arith in
            spanned_in _ cols v _ room (index w a b) (omega (arith, ap (λ (t : ℕ). t * w) r)) (omega (arith, ap (λ (t : ℕ). t * w) r))
            ∙ rw (rectangle_in x y cols (j + 1) a b (record { left = omega arith; right = g; top = omega arith; bottom = omega arith }))
        go (no d) (no e) (no f) (no g) = let r : b ≡ y + j = omega arith in other (inr (omega (arith, ap (λ (t : ℕ). t * w) r))) (λ c. absurd (omega (arith, c.right)))

  pub filled_more : (j : ℕ) → y + j < h → spanned (index w x (y + j)) cols v (filled w h x y cols j v s) ≡ filled w h x y cols (j + 1) v s
  unfolding filled
  filled_more j below =
      pixels_is w h _ _ 0
      (spanned-length (index w x (y + j)) cols v (filled w h x y cols j v s) (rw (filled-length j) (omega (arith, mul-le-mul_right w below))) ∙ filled-length j)
      (λ a b k l. pixel j below a b k l)
