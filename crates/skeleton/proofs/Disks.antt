-- Disks, document 002's word: the pixels at squared distance below a pixel's size. That of a pixel which a neighbour takes off lies in the neighbour's, and
-- the neighbour's size is larger.
-- Assumes nothing.
use mathlib.Core.Path.{◌≡◌, refl}
use mathlib.Core.Logic.{◌⊎◌, inl, inr, ⊎_elim}
use mathlib.Core.Bool.{Bool, true, false, not, ◌&&◌, true≢false}
use mathlib.Core.List.{List}
use Prim.Native.Nat.{ℕ, ◌+◌, ◌*◌, ◌-◌, ◌<◌, ◌≤◌}
use native.Mathlib.Decide.{dec_le, dec_lt}
use native.Mathlib.Omega.{arith}
use lib.Dec.{eqb, leb}
use lib.IntN.{ℤ}
use borrow.Author.Tests.{leb-true, eqb-true, eqb-false, not-true}
use Rattle.raster.specs.Distance.{gap, apart}
use Rattle.raster.specs.DistanceLaws.{square_le, gap-left, gap-right}
use Rattle.raster.specs.Map.{size_at}
use Rattle.raster.specs.Pixels.{index}
use Rattle.raster.specs.Tests.{and_left, and_right}
use Rattle.skeleton.specs.Table.{beside, g}
use Rattle.skeleton.specs.Skeleton.{on_side, taken_by}
use Rattle.skeleton.proofs.Outside.{g-least, g-below}

-- one coordinate of a pixel x and of its neighbour p, which is one off, seen from z
nearer-one : (a b : ℕ) → (a ≡ b + 1) ⊎ (b ≡ a + 1) → gap a 1 ≤ b
unfolding gap
nearer-one a b (inl e) = omega arith
nearer-one a b (inr e) = omega arith

next_to : (x z : ℕ) → (gap (x + 1) z ≡ gap x z + 1) ⊎ (gap x z ≡ gap (x + 1) z + 1)
next_to x z = elim (dec_lt x z) [ yes l ↦ inr (gap-left x z l) | no n ↦ inl (gap-right x z (omega arith)) ]

off_by : (x p : ℕ) → gap x p ≡ 1 → (p ≡ x + 1) ⊎ (x ≡ p + 1)
unfolding gap
off_by x p e = elim (dec_le x p) [ yes l ↦ inl (omega arith) | no n ↦ inr (omega arith) ]

one_off : (x p z : ℕ) → gap x p ≡ 1 → gap (gap p z) 1 ≤ gap x z
one_off x p z e = go (off_by x p e)
  where
    go : (p ≡ x + 1) ⊎ (x ≡ p + 1) → gap (gap p z) 1 ≤ gap x z
    go (inl f) = rw f (nearer-one (gap (x + 1) z) (gap x z) (next_to x z))
    go (inr f) = rw f (nearer-one (gap p z) (gap (p + 1) z) (⊎_elim inr inl (next_to p z)))

-- a place outside the disk of size n around (p, q) is no nearer to the neighbour than g(n)
module _ (n : ℕ) (small : n ≤ 400) (x y p q : ℕ) where
  beyond : (corner : Bool) (h k zx zy : ℕ) → n ≤ h * h + k * k → beside corner h k ≤ apart x y zx zy → g corner n ≤ apart x y zx zy
  beyond corner h k zx zy out l = omega (arith, g-least corner n small h k out)

  at_side : gap x p ≡ 1 → y ≡ q → (zx zy : ℕ) → n ≤ apart p q zx zy → g false n ≤ apart x y zx zy
  unfolding apart
  at_side e f zx zy out = beyond false (gap p zx) (gap q zy) zx zy out (rw f (omega (arith, square_le (one_off x p zx e))))

  at_end : x ≡ p → gap y q ≡ 1 → (zx zy : ℕ) → n ≤ apart p q zx zy → g false n ≤ apart x y zx zy
  unfolding apart
  at_end e f zx zy out = beyond false (gap q zy) (gap p zx) zx zy (omega arith) (rw e (omega (arith, square_le (one_off y q zy f))))

  at-corner : gap x p ≡ 1 → gap y q ≡ 1 → (zx zy : ℕ) → n ≤ apart p q zx zy → g true n ≤ apart x y zx zy
  unfolding apart
  at-corner e f zx zy out = beyond true (gap p zx) (gap q zy) zx zy out (omega (arith, square_le (one_off x p zx e), square_le (one_off y q zy f)))

-- the disk of (x, y) lies in that of a larger neighbour
pub record InLarger (m : List ℤ) (w h x y : ℕ) : Type 0 where
  pub column : ℕ
  pub row : ℕ
  pub across : column < w
  pub down : row < h
  pub small : size_at m (index w column row) ≤ 400
  pub larger : size_at m (index w x y) < size_at m (index w column row)
  pub disk : (zx zy : ℕ) → apart x y zx zy < size_at m (index w x y) → apart column row zx zy < size_at m (index w column row)

-- the neighbour's column (or row) t − 1, for t = x + a with a from 0 to 2
column-same : (x a : ℕ) → a ≡ 1 → x ≡ x + a - 1
column-same x a e = omega arith

column_off : (x a : ℕ) → a < 3 → (a ≡ 1 → ⊥) → 1 ≤ x + a → gap x (x + a - 1) ≡ 1
unfolding gap
column_off x a l n o = elim (dec_le a 0) [ yes z ↦ omega arith | no z ↦ let e : a ≡ 2 = omega arith in rw e (omega arith) ]

module _ (m : List ℤ) (w h x y a b : ℕ) (small-a : a < 3) (small_b : b < 3) where
  abbrev n : ℕ
  n = size_at m (index w (x + a - 1) (y + b - 1))

  abbrev s : ℕ
  s = size_at m (index w x y)

  -- what a neighbour that takes the pixel off has
  record Taker : Type 0 where
    column_on : 1 ≤ x + a
    column_in : x + a ≤ w
    row_on : 1 ≤ y + b
    row_in : y + b ≤ h
    one : 1 ≤ n
    small : n ≤ 400
    other : eqb a 1 && eqb b 1 ≡ false
    table : g (not (eqb a 1) && not (eqb b 1)) n ≡ s

  taker : taken_by m w h x y a b ≡ true → Taker
  unfolding taken_by
  taker e =
      let front = and_left (not (eqb a 1 && eqb b 1) && (on_side w (x + a) && on_side h (y + b))) _ e in
      let back = and_right (not (eqb a 1 && eqb b 1) && (on_side w (x + a) && on_side h (y + b))) _ e in
      let on = and_right (not (eqb a 1 && eqb b 1)) _ front in
      let c = and_left (on_side w (x + a)) _ on in
      let r = and_right (on_side w (x + a)) _ on in
      let z = and_left (leb 1 n && leb n 400) _ back in record {
        column_on = leb-true 1 (x + a) (and_left (leb 1 (x + a)) _ c);
        column_in = leb-true (x + a) w (and_right (leb 1 (x + a)) _ c);
        row_on = leb-true 1 (y + b) (and_left (leb 1 (y + b)) _ r);
        row_in = leb-true (y + b) h (and_right (leb 1 (y + b)) _ r);
        one = leb-true 1 n (and_left (leb 1 n) _ z);
        small = leb-true n 400 (and_right (leb 1 n) _ z);
        other = not-true _ (and_left (not (eqb a 1 && eqb b 1)) _ front);
        table = eqb-true (g (not (eqb a 1) && not (eqb b 1)) n) s (and_right (leb 1 n && leb n 400) _ back);
      }

  pub taken_inside : taken_by m w h x y a b ≡ true → InLarger m w h x y
  taken_inside e = record {
    column = x + a - 1;
    row = y + b - 1;
    across = omega (arith, t.column_on, t.column_in);
    down = omega (arith, t.row_on, t.row_in);
    small = t.small;
    larger = omega (arith, t.table, g-below (not (eqb a 1) && not (eqb b 1)) n t.one t.small);
    disk = λ zx zy l. elim (dec_lt (apart (x + a - 1) (y + b - 1) zx zy) n) [
      | yes q ↦ q
      | no q ↦ absurd (omega (arith, t.table, outer zx zy (omega arith)))
    ];
  }
    where
      t : Taker
      t = taker e

      outer : (zx zy : ℕ) → n ≤ apart (x + a - 1) (y + b - 1) zx zy → g (not (eqb a 1) && not (eqb b 1)) n ≤ apart x y zx zy
      outer zx zy out = go (eqb a 1) (eqb b 1) refl refl t.other
        where
          go : (u v : Bool) → eqb a 1 ≡ u → eqb b 1 ≡ v → u && v ≡ false → g (not u && not v) n ≤ apart x y zx zy
          go true true p q o = absurd (true≢false o)
          go true false p q o =
              at_end n t.small x y (x + a - 1) (y + b - 1) (column-same x a (eqb-true a 1 p)) (column_off y b small_b (eqb-false b 1 q) t.row_on) zx zy out
          go false true p q o =
              at_side n t.small x y (x + a - 1) (y + b - 1) (column_off x a small-a (eqb-false a 1 p) t.column_on) (column-same y b (eqb-true b 1 q)) zx zy out
          go false false p q o =
              at-corner n t.small x y (x + a - 1) (y + b - 1) (column_off x a small-a (eqb-false a 1 p) t.column_on) (column_off y b small_b (eqb-false b 1 q) t.row_on) zx zy out
