-- What the skeleton keeps, on any map whose pixels are all labelled: the disk of every pixel of size above 0 lies in that of a kept one (`kept_disk`), also
-- where sizes pass 400. Crate guarantee says it of the exact map of a sheet with copper, and what follows for rebuilding (its proofs/Rebuilding).
-- Assumes nothing.
use mathlib.Core.Path.{◌≡◌, refl}
use mathlib.Core.Bool.{Bool, true, false}
use mathlib.Core.List.{List}
use Prim.Native.Nat.{ℕ, zero, suc, ◌+◌, ◌<◌, ◌≤◌}
use native.Mathlib.Omega.{arith}
use lib.IntN.{ℤ}
use borrow.Author.Tests.{ne_eqb}
use Rattle.raster.specs.Distance.{apart}
use Rattle.raster.specs.LoopLaws.{any_found}
use Rattle.raster.specs.Map.{size_at, unlabelled_at}
use Rattle.raster.specs.Pixels.{index}
use Rattle.skeleton.specs.Skeleton.{removed, kept}
use Rattle.skeleton.proofs.Disks.{InLarger, taken_inside}

-- a pixel that is removed has a larger neighbour whose disk holds its own
removed-inside : (m : List ℤ) (w h x y : ℕ) → removed m w h x y ≡ true → InLarger m w h x y
unfolding removed
removed-inside m w h x y e =
    let a = any_found 3 _ e in
    let b = any_found 3 _ a.passes in
    taken_inside m w h x y a.witness b.witness a.below b.below b.passes

-- a kept pixel whose disk holds that of (x, y)
pub record HeldBy (m : List ℤ) (w h x y : ℕ) : Type 0 where
  pub column : ℕ
  pub row : ℕ
  pub across : column < w
  pub down : row < h
  pub is_kept : kept m w h column row ≡ true
  pub disk : (zx zy : ℕ) → apart x y zx zy < size_at m (index w x y) → apart column row zx zy < size_at m (index w column row)

module _ (m : List ℤ) (w h : ℕ) (labelled : (x y : ℕ) → x < w → y < h → unlabelled_at m (index w x y) ≡ false) where
  itself : (x y : ℕ) → x < w → y < h → 0 < size_at m (index w x y) → removed m w h x y ≡ false → HeldBy m w h x y
  itself x y a b s r = record {
    column = x;
    row = y;
    across = a;
    down = b;
    is_kept = simp (labelled x y a b, ne_eqb (size_at m (index w x y)) 0 (omega arith), r);
    disk = λ zx zy l. l;
  }

  -- sizes grow from a removed pixel to the neighbour that takes it off, and pass 400 after at most as many steps as `left`
  climb : (left x y : ℕ) → x < w → y < h → 0 < size_at m (index w x y) → 401 ≤ size_at m (index w x y) + left → HeldBy m w h x y
  climb zero x y a b s l = go (removed m w h x y) refl
    where
      go : (t : Bool) → removed m w h x y ≡ t → HeldBy m w h x y
      go true e = let i = removed-inside m w h x y e in absurd (omega (arith, i.larger, i.small))
      go false e = itself x y a b s e
  climb (suc left) x y a b s l =
      go (removed m w h x y) refl (λ i. climb left i.column i.row i.across i.down (omega (arith, i.larger)) (omega (arith, i.larger)))
    where
      go : (t : Bool) → removed m w h x y ≡ t → ((i : InLarger m w h x y) → HeldBy m w h i.column i.row) → HeldBy m w h x y
      go true e up =
          let i = removed-inside m w h x y e in
          let k = up i in
          record { column = k.column; row = k.row; across = k.across; down = k.down; is_kept = k.is_kept; disk = λ zx zy q. k.disk zx zy (i.disk zx zy q) }
      go false e up = itself x y a b s e

  -- the disk of every pixel of size above 0 lies in that of a kept one
  pub kept_disk : (x y : ℕ) → x < w → y < h → 0 < size_at m (index w x y) → HeldBy m w h x y
  kept_disk x y a b s = climb 401 x y a b s (omega arith)
