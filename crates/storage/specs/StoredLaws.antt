-- The laws of stored maps: what becomes of a component that is stored or read back, and of one that goes both ways; and what the tables grant.
-- Assumes nothing.
use Rattle.std.specs.Prelude.{◌≡◌, refl, Bool, true, false, not, cond, ◌&&◌, ◌||◌, List, ◌⊎◌, ℕ, suc, ◌*◌, ◌≤◌, eqb, ltb, ℤ, pos, negsuc, nat_abs, length}
use Rattle.std.proofs.Common.{ap, sym, ◌∙◌, inl, inr, mul-le-mul, arith, ne_eqb, eqb-true, leb-true, le-leb, le-ltb, lt-ltb}
use Rattle.std.proofs.Math.Decide.{dec_le}
use Rattle.std.proofs.lemmas.Bool.{eqb-false, lt-leb, not-false}
use Rattle.raster.specs.Loop.{any_below}
use Rattle.raster.specs.LoopLaws.{any_false}
use Rattle.raster.specs.Map.{dx_at, dy_at}
use Rattle.raster.specs.MapLaws.{each-component}
use Rattle.raster.specs.Refusal.{first_of}
use Rattle.raster.specs.RefusalLaws.{none-holds}
use Rattle.raster.specs.Tests.{and_left, and_right}
use Rattle.raster.specs.Vector.{mark, is_mark, unlabelled}
use Rattle.storage.specs.Stored.{Byte, byte_mark, is_byte_mark, small_component, to_byte, from_byte, storable, EachStorable, length_rows}

-- ---- stored

-- −127 to 127 are not the mark
pub small-unmarked : (z : ℤ) → small_component z ≡ true → is_mark z ≡ false
small-unmarked (pos n) s = refl
small-unmarked (negsuc n) s = ne_eqb n 32767 (omega (arith, leb-true (suc n) 127 s))

-- they are those whose square is below 128²
pub small-square : (z : ℤ) → small_component z ≡ ltb (nat_abs z * nat_abs z) 16384
small-square z = elim (dec_le (nat_abs z) 127) [
  | yes l ↦ le-leb (nat_abs z) 127 l ∙ sym (lt-ltb (nat_abs z * nat_abs z) 16384 (omega (arith, mul-le-mul l l)))
  | no n ↦
      let l : 128 ≤ nat_abs z = omega arith in
      lt-leb (nat_abs z) 127 (omega arith) ∙ sym (le-ltb (nat_abs z * nat_abs z) 16384 (omega (arith, mul-le-mul l l)))
]

-- a byte is −128 where the component is the mark, if that can be stored
pub stored-mark : (z : ℤ) → is_mark z || small_component z ≡ true → is_byte_mark (to_byte z) ≡ is_mark z
stored-mark (pos n) s = refl
stored-mark (negsuc n) s = go (eqb n 32767) refl s
  where
    go : (t : Bool) → eqb n 32767 ≡ t → t || small_component (negsuc n) ≡ true → is_byte_mark (cond t byte_mark (negsuc n)) ≡ t
    go true e f = refl
    go false e f = ne_eqb n 127 (omega (arith, leb-true (suc n) 127 f))

-- what is read back is what was stored
pub restored : (z : ℤ) → is_mark z || small_component z ≡ true → from_byte (to_byte z) ≡ z
restored (pos n) s = refl
restored (negsuc n) s = go (eqb n 32767) refl s
  where
    go : (t : Bool) → eqb n 32767 ≡ t → t || small_component (negsuc n) ≡ true → from_byte (cond t byte_mark (negsuc n)) ≡ negsuc n
    go true e f = ap negsuc (sym (eqb-true n 32767 e))
    go false e f = rw (ne_eqb n 127 (omega (arith, leb-true (suc n) 127 f))) refl

-- ---- read back

-- a component is the mark where the byte is −128
pub read-mark : (z : ℤ) → Byte z → is_mark (from_byte z) ≡ is_byte_mark z
read-mark (pos n) b = refl
read-mark (negsuc n) b = go (eqb n 127) refl
  where
    go : (t : Bool) → eqb n 127 ≡ t → is_mark (cond t mark (negsuc n)) ≡ t
    go true e = refl
    go false e = ne_eqb n 32767 (omega arith)

-- any other byte stands as it is, −127 to 127
pub read_small : (z : ℤ) → Byte z → is_byte_mark z ≡ false → small_component (from_byte z) ≡ true
read_small (pos n) b e = le-leb n 127 (omega arith)
read_small (negsuc n) b e = rw e (le-leb (suc n) 127 (omega (arith, eqb-false n 127 e)))

-- what is stored is what was read back
pub stored_again : (z : ℤ) → Byte z → to_byte (from_byte z) ≡ z
stored_again (pos n) b = refl
stored_again (negsuc n) b = go (eqb n 127) refl
  where
    go : (t : Bool) → eqb n 127 ≡ t → to_byte (cond t mark (negsuc n)) ≡ negsuc n
    go true e = ap negsuc (sym (eqb-true n 127 e))
    go false e = rw (ne_eqb n 32767 (omega arith)) refl

-- ---- tables that answer 0

-- the sides and lengths are fine: both slices have two numbers a pixel
pub lengths_granted : (w h from to : ℕ) → first_of (length_rows w h from to) ≡ 0 → (from ≡ 2 * (h * w)) × (to ≡ 2 * (h * w))
unfolding length_rows
lengths_granted w h from to e =
    let l = not-false _ (none-holds (length_rows w h from to) refl e 1) in
    (eqb-true _ _ (and_left (eqb from (2 * (h * w))) _ l), eqb-true _ _ (and_right (eqb from (2 * (h * w))) _ l))

-- a pixel that can be stored has two marks or two small components
pub storable-says : (dx dy : ℤ) → unlabelled dx dy || (small_component dx && small_component dy) ≡ true
    → ((is_mark dx ≡ true) × (is_mark dy ≡ true)) ⊎ ((small_component dx ≡ true) × (small_component dy ≡ true))
storable-says dx dy e = go (unlabelled dx dy) refl e
  where
    go : (t : Bool) → unlabelled dx dy ≡ t → t || (small_component dx && small_component dy) ≡ true
        → ((is_mark dx ≡ true) × (is_mark dy ≡ true)) ⊎ ((small_component dx ≡ true) × (small_component dy ≡ true))
    go true u f = inl (and_left (is_mark dx) _ u, and_right (is_mark dx) _ u)
    go false u f = inr (and_left (small_component dx) _ f, and_right (small_component dx) _ f)

-- every pixel can be stored: every component is the mark or small
pub storable_components : (n : ℕ) (pairs : List ℤ) → length pairs ≡ 2 * n → any_below n (λ p. not (storable pairs p)) ≡ false → EachStorable pairs
storable_components n pairs long all =
    each-component (λ z. is_mark z || small_component z ≡ true) n pairs long
    (λ p l. go (dx_at pairs p) (dy_at pairs p) (not-false _ (any_false n _ p all l)))
  where
    marked : (z : ℤ) → is_mark z ≡ true → is_mark z || small_component z ≡ true
    marked z e = rw e refl

    unmarked : (z : ℤ) → small_component z ≡ true → is_mark z || small_component z ≡ true
    unmarked z e = rw (small-unmarked z e) e

    go : (dx dy : ℤ) → unlabelled dx dy || (small_component dx && small_component dy) ≡ true
        → (is_mark dx || small_component dx ≡ true) × (is_mark dy || small_component dy ≡ true)
    go dx dy e = elim (storable-says dx dy e) [
      | inl m ↦ (marked dx m.0, marked dy m.1)
      | inr m ↦ (unmarked dx m.0, unmarked dy m.1)
    ]
