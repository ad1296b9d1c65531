-- The laws of pixels and lists: where a pixel stands, and what a list that is given pixel by pixel holds.
-- Assumes nothing.
use Rattle.std.specs.Prelude.{◌≡◌, List, [], ◌∷◌, map, length, get_or}
use Rattle.std.proofs.Math.Path.{refl, ap}
use Rattle.std.proofs.Common.{sym, ◌∙◌, le_of_suc-le-suc, not-suc-le-zero, mul-le-mul_right, mod-eq_of_lt, mod-lt, div-lt_iff_lt-mul, div-add-mod', arith, ext_get_or}
use Prim.Native.Nat.{ℕ, zero, suc, ◌*◌, ◌/◌, ◌%◌, ◌<◌}
use Rattle.std.proofs.Math.Nat.{mul-add-mod_self_right, mul-add-div_right, div-eq_of_lt}
use Rattle.raster.specs.Pixels.{index, tabulate, pixels}

-- ---- where a pixel stands

module _ (w x y : ℕ) (across : x < w) where
  pub index-inside : (h : ℕ) → y < h → index w x y < h * w
  index-inside h down = omega (arith, mul-le-mul_right w down)

  pub index-column : index w x y % w ≡ x
  index-column = rw (mul-add-mod_self_right) (mod-eq_of_lt across)

  pub index_row : index w x y / w ≡ y
  index_row =
      let wide : 0 < w = omega arith in
      let none : x / w ≡ 0 = div-eq_of_lt across in
      mul-add-div_right wide y x ∙ omega arith

-- two pixels at one place are one pixel
pub index-one : (w x y i j : ℕ) → x < w → i < w → index w x y ≡ index w i j → (x ≡ i) × (y ≡ j)
index-one w x y i j a b e =
    (sym (index-column w x y a) ∙ ap (λ (p : ℕ). p % w) e ∙ index-column w i j b, sym (index_row w x y a) ∙ ap (λ (p : ℕ). p / w) e ∙ index_row w i j b)

-- every place of the list is a pixel's
pub index_back : (w p : ℕ) → index w (p % w) (p / w) ≡ p
index_back w p = div-add-mod' p w

module _ (w h p : ℕ) (inside : p < h * w) where
  some_width : 0 < w
  some_width = go w inside
    where
      go : (v : ℕ) → p < h * v → 0 < v
      go zero l = omega arith
      go (suc v) l = omega arith

  pub back-across : p % w < w
  back-across = mod-lt p some_width

  pub back-down : p / w < h
  back-down = (div-lt_iff_lt-mul some_width).1 inside

-- ---- what a list given by its elements holds

module _ {A : Type 0} where
  -- a list of no elements
  pub nothing : (s : List A) → length s ≡ 0 → [] ≡ s
  nothing [] e = refl
  nothing (x ∷ s) e = absurd (omega arith)

  pub tabulate-length : (n : ℕ) (f : ℕ → A) → length (tabulate n f) ≡ n
  unfolding tabulate
  tabulate-length zero f = refl
  tabulate-length (suc n) f = ap suc (tabulate-length n (λ i. f (suc i)))

  pub tabulate-at : (n : ℕ) (f : ℕ → A) (i : ℕ) (d : A) → i < n → get_or (tabulate n f) i d ≡ f i
  unfolding tabulate
  tabulate-at zero f i d h = absurd (not-suc-le-zero h)
  tabulate-at (suc n) f zero d h = refl
  tabulate-at (suc n) f (suc i) d h = tabulate-at n (λ j. f (suc j)) i d (le_of_suc-le-suc h)

  pub tabulate_is : (n : ℕ) (f : ℕ → A) (s : List A) (d : A) → length s ≡ n → ((i : ℕ) → i < n → get_or s i d ≡ f i) → s ≡ tabulate n f
  tabulate_is n f s d l e =
      ext_get_or d s (tabulate n f) (l ∙ sym (tabulate-length n f))
      (λ i h. let k : i < n = omega arith in e i k ∙ sym (tabulate-at n f i d k))

  module _ (w h : ℕ) (f : ℕ → ℕ → A) where
    pub pixels-length : length (pixels w h f) ≡ h * w
    unfolding pixels
    pixels-length = tabulate-length (h * w) _

    pub pixels-at : (x y : ℕ) (d : A) → x < w → y < h → get_or (pixels w h f) (index w x y) d ≡ f x y
    unfolding pixels
    pixels-at x y d a b =
        tabulate-at (h * w) _ (index w x y) d (index-inside w x y a h b) ∙ rw (index-column w x y a, index_row w x y a)

    -- a list that has f x y at every pixel is the list of f
    pub pixels_is : (s : List A) (d : A) → length s ≡ h * w → ((x y : ℕ) → x < w → y < h → get_or s (index w x y) d ≡ f x y) → s ≡ pixels w h f
    unfolding pixels
    pixels_is s d l e = tabulate_is (h * w) _ s d l (λ i k. rw (index_back w i) at (e (i % w) (i / w) (back-across w h i k) (back-down w h i k)))

-- a list whose elements are turned into others, one by one
pub tabulate-map : {A B : Type 0} (f : A → B) (s : List A) (d : A) → map f s ≡ tabulate (length s) (λ i. f (get_or s i d))
unfolding tabulate
tabulate-map f [] d = refl
tabulate-map f (x ∷ s) d = ap (λ (t : List _). f x ∷ t) (tabulate-map f s d)
