-- The laws of joined maps: what stands at a pixel, and that the sizes decide, since an unlabelled vector is larger than any other.
-- Assumes nothing.
use Rattle.std.specs.Prelude.{◌≡◌, Bool, true, false, not, cond, ◌&&◌, ◌||◌, List, ℕ, suc, ◌+◌, ◌-◌, ◌*◌, ◌/◌, ◌≤◌, eqb, ltb, ℤ, pos, negsuc, ◌+ℤ◌, length}
use Rattle.std.proofs.Math.Path.{refl}
use Rattle.std.proofs.Common.{sym, ◌∙◌, ne_eqb, eqb-true, lt-ltb, le-ltb, ltb-false}
use Rattle.std.proofs.Math.Decide.{dec_lt}
use native.Mathlib.Omega.{arith}
use Rattle.std.specs.Int.Signed.{lt_z}
use Rattle.std.proofs.lemmas.Bool.{eqb-false}
use Rattle.raster.specs.Map.{Inside, dx_at, dy_at}
use Rattle.raster.specs.PixelsLaws.{tabulate-length, tabulate-at}
use Rattle.raster.specs.Tests.{and_left, and_right}
use Rattle.raster.specs.Vector.{size, is_mark, unlabelled}
use Rattle.raster.specs.VectorLaws.{one-mark}
use Rattle.join.specs.Joined.{left_or_above, precedes, second_taken, taken_from, joined}

module _ (first second : List ℤ) where
  pub joined_length : length (joined first second) ≡ length first
  unfolding joined
  joined_length = tabulate-length (length first) _

  module _ (p : ℕ) (inside : Inside p first) where
    pub joined-dx : dx_at (joined first second) p ≡ dx_at (taken_from first second p) p
    unfolding joined
    joined-dx = let e : 2 * p / 2 ≡ p = omega arith in tabulate-at (length first) _ (2 * p) (pos 0) (omega arith) ∙ rw e refl

    pub joined-dy : dy_at (joined first second) p ≡ dy_at (taken_from first second p) p
    unfolding joined
    joined-dy = let e : (2 * p + 1) / 2 ≡ p = omega arith in tabulate-at (length first) _ (2 * p + 1) (pos 0) inside ∙ rw e refl

-- ---- the sizes decide

-- two unlabelled vectors are one
same_marks : (ax ay bx by : ℤ) → unlabelled ax ay ≡ true → unlabelled bx by ≡ true → left_or_above bx by ax ay ≡ false
same_marks ax ay bx by u v =
    rw (one-mark ax (and_left (is_mark ax) _ u), one-mark ay (and_right (is_mark ax) _ u), one-mark bx (and_left (is_mark bx) _ v), one-mark by (and_right (is_mark bx) _ v)) refl

-- an unlabelled vector has the size 2³¹, and a labelled one is smaller
abbrev pub Marked : (dx dy : ℤ) → Type 0
Marked dx dy = (size dx dy ≤ 2147483648) × (unlabelled dx dy ≡ eqb (size dx dy) 2147483648)

pub taken_by-size : (ax ay bx by : ℤ) → Marked ax ay → Marked bx by → precedes bx by ax ay ≡ second_taken ax ay bx by
unfolding precedes second_taken
taken_by-size ax ay bx by m n = go (unlabelled ax ay) (unlabelled bx by) refl refl
  where
    s : ℕ
    s = size ax ay

    t : ℕ
    t = size bx by

    -- the second is unlabelled: it is not smaller than the first, and where it is equal both are the same
    unlabelled-last : (u : Bool) → unlabelled ax ay ≡ u → unlabelled bx by ≡ true → t ≡ 2147483648 → ltb t s || (eqb t s && left_or_above bx by ax ay) ≡ false
    unlabelled-last true a b e = rw (le-ltb t s (omega (arith, m.0)), same_marks ax ay bx by a b) (go_and (eqb t s))
      where
        go_and : (c : Bool) → c && false ≡ false
        go_and true = refl
        go_and false = refl
    unlabelled-last false a b e =
        rw (le-ltb t s (omega (arith, m.0)), ne_eqb t s (λ q. eqb-false s 2147483648 (sym m.1 ∙ a) (sym q ∙ e))) refl

    go : (u v : Bool) → unlabelled ax ay ≡ u → unlabelled bx by ≡ v
        → ltb t s || (eqb t s && left_or_above bx by ax ay) ≡ not v && (u || (ltb t s || (eqb t s && left_or_above bx by ax ay)))
    go u true a b = unlabelled-last u a b (eqb-true t 2147483648 (sym n.1 ∙ b))
    go true false a b =
        let e = eqb-true s 2147483648 (sym m.1 ∙ a) in
        let d = eqb-false t 2147483648 (sym n.1 ∙ b) in
        rw (lt-ltb t s (omega (arith, n.0))) refl
    go false false a b = refl

-- ---- where two vectors of one pixel end

-- to the left or up, by n + 1 places
back : (x i n : ℕ) → pos x +ℤ negsuc n ≡ pos i → i + suc n ≡ x
back x i n e = go (ltb x (suc n)) refl e
  where
    go : (t : Bool) → ltb x (suc n) ≡ t → cond t (negsuc (suc n - suc x)) (pos (x - suc n)) ≡ pos i → i + suc n ≡ x
    go true s f = let z : ◌≡◌ {A = ℕ} 0 1 = cc in omega arith
    go false s f = let g : x - suc n ≡ i = cc in omega (arith, ltb-false x (suc n) s)

-- the smaller component ends at the smaller place
pub ends-order : (x i a : ℕ) (u v : ℤ) → pos x +ℤ u ≡ pos i → pos x +ℤ v ≡ pos a → lt_z u v ≡ ltb i a
ends-order x i a (pos m) (pos n) e f =
    let p : x + m ≡ i = cc in
    let q : x + n ≡ a = cc in
    elim (dec_lt m n) [
      | yes l ↦ lt-ltb m n l ∙ sym (lt-ltb i a (omega arith))
      | no l ↦ le-ltb m n (omega arith) ∙ sym (le-ltb i a (omega arith))
    ]
ends-order x i a (pos m) (negsuc n) e f = let p : x + m ≡ i = cc in sym (le-ltb i a (omega (arith, back x a n f)))
ends-order x i a (negsuc m) (pos n) e f = let q : x + n ≡ a = cc in sym (lt-ltb i a (omega (arith, back x i m e)))
ends-order x i a (negsuc m) (negsuc n) e f =
    let p = back x i m e in
    let q = back x a n f in
    elim (dec_lt n m) [
      | yes l ↦ lt-ltb n m l ∙ sym (lt-ltb i a (omega arith))
      | no l ↦ le-ltb n m (omega arith) ∙ sym (le-ltb i a (omega arith))
    ]
