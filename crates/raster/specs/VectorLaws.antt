-- The laws of vectors: how far a component reaches, and the link from a vector that ends at a pixel to squared distance. After it no proof
-- speaks of signed numbers.
-- Assumes nothing.
use Rattle.std.specs.Prelude.{◌≡◌, refl, Bool, true, false, cond, ℕ, suc, ◌+◌, ◌-◌, ◌≤◌, ◌<◌, ltb, ℤ, pos, negsuc, nat_abs, neg_ℤ, ◌+ℤ◌, ◌-ℤ◌}
use Rattle.std.proofs.Common.{sym, ap, ◌∙◌, arith, ne_eqb, eqb-true, le-ltb, ltb-true, ltb-false}
use Rattle.std.proofs.lemmas.Bool.{false≢true}
use Rattle.std.proofs.Math.IntN.{sub_ℕ, +ℤ_idl, +ℤ_idr, +ℤ_assoc, +ℤ_comm, +ℤ_invr, neg_ℤ-+ℤ, +ℤ-neg_ℤ_cancel, -ℤ-+ℤ_cancel}
use Rattle.raster.specs.Limits.{max_side}
use Rattle.raster.specs.Pixels.{Mask}
use Rattle.raster.specs.Distance.{gap, apart}
use Rattle.raster.specs.DistanceLaws.{gap_below}
use Rattle.raster.specs.Tests.{and_left, and_right}
use Rattle.raster.specs.Vector.{size, mark, is_mark, unlabelled, Ends, Target}

-- ---- sums

sub_abs : (a b : ℕ) → nat_abs (sub_ℕ a b) ≡ (a - b) + (b - a)
sub_abs a b = go (ltb a b) refl
  where
    go : (t : Bool) → ltb a b ≡ t → nat_abs (cond t (negsuc (b - suc a)) (pos (a - b))) ≡ (a - b) + (b - a)
    go true e = omega (arith, ltb-true a b e)
    go false e = omega (arith, ltb-false a b e)

pub add_abs : (a b : ℤ) → nat_abs (a +ℤ b) ≤ nat_abs a + nat_abs b
add_abs (pos a) (pos b) = omega arith
add_abs (pos a) (negsuc b) = omega (arith, sub_abs a (suc b))
add_abs (negsuc a) (pos b) = omega (arith, sub_abs b (suc a))
add_abs (negsuc a) (negsuc b) = omega arith

-- ---- the mark

-- it is one number
pub one-mark : (d : ℤ) → is_mark d ≡ true → d ≡ mark
one-mark (pos n) e = absurd (false≢true e)
one-mark (negsuc n) e = ap negsuc (eqb-true n 32767 e)

pub mark-abs : (z : ℤ) → is_mark z ≡ true → nat_abs z ≡ 32768
mark-abs (pos n) e = absurd (false≢true e)
mark-abs (negsuc n) e = omega (arith, eqb-true n 32767 e)

-- an unlabelled pixel's numbers have the size 2³¹
pub unlabelled-size : (dx dy : ℤ) → unlabelled dx dy ≡ true → size dx dy ≡ 2147483648
unfolding size
unlabelled-size dx dy u = rw (mark-abs dx (and_left (is_mark dx) _ u), mark-abs dy (and_right (is_mark dx) _ u))

-- a component that is not the mark labels its vector
pub near-labelled : (dx dy : ℤ) → nat_abs dx ≤ max_side → unlabelled dx dy ≡ false
near-labelled (pos n) dy h = refl
near-labelled (negsuc n) dy h = rw (ne_eqb n 32767 (omega arith))

-- ---- where a vector ends

-- a component reaches as far as the two places lie apart
pub reach : (x i : ℕ) (d : ℤ) → pos x +ℤ d ≡ pos i → nat_abs d ≡ gap x i
unfolding gap
reach x i (pos n) e = let f : x + n ≡ i = cc in omega arith
reach x i (negsuc n) e = go (ltb x (suc n)) refl e
  where
    go : (t : Bool) → ltb x (suc n) ≡ t → cond t (negsuc (suc n - suc x)) (pos (x - suc n)) ≡ pos i → suc n ≡ (x - i) + (i - x)
    go true s f = let z : ◌≡◌ {A = ℕ} 0 1 = cc in omega arith
    go false s f = let g : x - suc n ≡ i = cc in omega (arith, ltb-false x (suc n) s)

-- a vector's size is the squared distance to the pixel where it ends
pub ends-size : {x y : ℕ} {dx dy : ℤ} {i j : ℕ} → Ends x y dx dy i j → size dx dy ≡ apart x y i j
unfolding size apart
ends-size {x} {y} {dx} {dy} {i} {j} e = rw (reach x i dx e.column, reach y j dy e.row)

-- one place back, and no place at all
pub step_back : (k : ℕ) → pos (k + 1) +ℤ negsuc 0 ≡ pos k
step_back k = simp (le-ltb (k + 1) 1 (omega arith)) (ap pos (omega arith))

pub step-none : (k : ℕ) → pos k +ℤ pos 0 ≡ pos k
step-none k = +ℤ_idr (pos k)

-- no way at all ends where it starts
pub ends-here : (x y : ℕ) → Ends x y (pos 0) (pos 0) x y
ends-here x y = record { column = step-none x; row = step-none y }

-- a neighbour's vector plus the neighbour's place less the pixel's ends where the neighbour's ends
pub ends-step : {x y a b : ℕ} {ox oy dx dy : ℤ} {i j : ℕ} → Ends x y ox oy a b → Ends a b dx dy i j → Ends x y (dx +ℤ ox) (dy +ℤ oy) i j
ends-step {x} {y} {a} {b} {ox} {oy} {dx} {dy} {i} {j} o e =
    record { column = along x a i ox dx o.column e.column; row = along y b j oy dy o.row e.row }
  where
    along : (x a i : ℕ) (o d : ℤ) → pos x +ℤ o ≡ pos a → pos a +ℤ d ≡ pos i → pos x +ℤ (d +ℤ o) ≡ pos i
    along x a i o d p q = rw (+ℤ_comm d o, ← +ℤ_assoc (pos x) o d, p) q

-- ---- the way from one place to another

pub way-ends : (x i : ℕ) → pos x +ℤ (pos i -ℤ pos x) ≡ pos i
way-ends x i = +ℤ_comm (pos x) (pos i -ℤ pos x) ∙ -ℤ-+ℤ_cancel (pos i) (pos x)

pub way-abs : (x i : ℕ) → nat_abs (pos i -ℤ pos x) ≡ gap x i
way-abs x i = reach x i (pos i -ℤ pos x) (way-ends x i)

pub way_back : (y n : ℕ) → n ≤ y → neg_ℤ (pos n) ≡ pos (y - n) -ℤ pos y
way_back y n l =
    let a = pos (y - n) in
    let e : y ≡ y - n + n = omega arith in
    sym
    (ap (λ (t : ℕ). a -ℤ pos t) e
    ∙ ap (λ (t : ℤ). a +ℤ t) (neg_ℤ-+ℤ a (pos n))
    ∙ sym (+ℤ_assoc a (neg_ℤ a) (neg_ℤ (pos n)))
    ∙ ap (λ (t : ℤ). t +ℤ neg_ℤ (pos n)) (+ℤ_invr a)
    ∙ +ℤ_idl (neg_ℤ (pos n)))

pub way_on : (y m : ℕ) → pos m ≡ pos (y + m) -ℤ pos y
way_on y m =
    let e : m + y ≡ y + m = omega arith in
    sym (+ℤ-neg_ℤ_cancel (pos m) (pos y)) ∙ ap (λ (t : ℕ). pos t -ℤ pos y) e

-- a vector that ends on the sheet is shorter than its sides, in each component
pub target_near : {copper : Mask} {w h x y : ℕ} {dx dy : ℤ} → x < w → y < h → Target copper w h x y dx dy → (nat_abs dx < w) × (nat_abs dy < h)
target_near {copper} {w} {h} {x} {y} {dx} {dy} across down t = (
  omega (arith, reach x t.column dx t.ends.column, gap_below x t.column w across t.on_copper.across),
  omega (arith, reach y t.row dy t.ends.row, gap_below y t.row h down t.on_copper.down),
)
