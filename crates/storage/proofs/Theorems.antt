-- Document 02, C-24: reading back a stored map restores every number, and storing what was read back every byte. Neither is refused.
-- Assumes nothing.
use mathlib.Core.Path.{◌≡◌, refl, ap, ap₂, sym, ◌∙◌}
use mathlib.Core.Bool.{Bool, true, false, not, xor, ◌&&◌, ◌||◌}
use mathlib.Core.List.{List, [], ◌∷◌, ◌++◌, map, map-map}
use mathlib.Core.Logic.{inl, inr}
use Prim.Native.Nat.{ℕ, suc, ◌+◌, ◌*◌, ◌<◌}
use native.Mathlib.Omega.{arith}
use lib.IntN.{ℤ, pos}
use lib.ListN.{length, get_or, length-map, get_or-map}
use borrow.Author.Tests.{not-false}
use Rattle.raster.specs.Loop.{any_below}
use Rattle.raster.specs.LoopLaws.{any_false, any_none}
use Rattle.raster.specs.Map.{dx_at, dy_at}
use Rattle.raster.specs.Refusal.{first_of}
use Rattle.raster.specs.RefusalLaws.{last-fails, last_decides}
use Rattle.raster.specs.Vector.{unlabelled}
use Rattle.storage.specs.Stored.{Byte, is_byte_mark, small_component, to_byte, from_byte, stored, read_back, storable, half_marked, length_rows, store_table, read_back_table}
use Rattle.storage.specs.StoredLaws.{small-unmarked, stored-mark, restored, read-mark, read_small, stored_again, lengths_granted, storable-says, storable_components}

-- a list whose elements all stay as they are
unchanged : (f : ℤ → ℤ) (s : List ℤ) → ((i : ℕ) → i < length s → f (get_or s i (pos 0)) ≡ get_or s i (pos 0)) → map f s ≡ s
unchanged f [] at = refl
unchanged f (z ∷ s) at = ap₂ ◌∷◌ (at 0 (omega arith)) (unchanged f s (λ i l. at (suc i) (omega arith)))

-- two tests that are the same do not differ, and two that do not differ are the same
same_xor : (a b : Bool) → a ≡ b → xor a b ≡ false
unfolding xor
same_xor true b e = rw (← e) refl
same_xor false b e = rw (← e) refl

xor_same : (a b : Bool) → xor a b ≡ false → a ≡ b
unfolding xor
xor_same true true e = refl
xor_same true false e = e
xor_same false true e = sym e
xor_same false false e = refl

module _ (w h : ℕ) where
  -- where the way there is not refused, the way back is not, if no pixel stands against it
  back_granted : (a b c d : ℕ) (bad : Bool) → first_of (length_rows w h a b) ≡ 0 → c ≡ a → d ≡ a → bad ≡ false
      → first_of (length_rows w h c d ++ ((bad, 45) ∷ [])) ≡ 0
  unfolding length_rows
  back_granted a b c d bad e from to none =
      let l = lengths_granted w h a b e in
      let rows : first_of (length_rows w h c d) ≡ 0 = rw (from, to ∙ l.0 ∙ sym l.1) e in
      last_decides bad 45 (length_rows w h c d) refl rows ∙ rw none refl

  -- ---- there and back

  -- where a pixel can be stored, its bytes are not half-marked
  bytes_whole : (dx dy : ℤ) → unlabelled dx dy || (small_component dx && small_component dy) ≡ true
      → xor (is_byte_mark (to_byte dx)) (is_byte_mark (to_byte dy)) ≡ false
  bytes_whole dx dy e = same_xor _ _ (elim (storable-says dx dy e) [
    | inl m ↦ rw (m.0, m.1) refl
    | inr m ↦
        let x = small-unmarked dx m.0 in
        let y = small-unmarked dy m.1 in
        stored-mark dx (rw x m.0) ∙ x ∙ sym (stored-mark dy (rw y m.1) ∙ y)
  ])

  none-half-marked : (pairs : List ℤ) → any_below (h * w) (λ p. not (storable pairs p)) ≡ false → any_below (h * w) (half_marked (stored pairs)) ≡ false
  none-half-marked pairs all =
      any_none (h * w) _ (λ p below.
      rw (get_or-map to_byte pairs (2 * p) (pos 0), get_or-map to_byte pairs (2 * p + 1) (pos 0))
      (bytes_whole (dx_at pairs p) (dy_at pairs p) (not-false _ (any_false (h * w) _ p all below))))

  -- a map that can be stored is read back from its bytes
  pub read-back-stored : (pairs bytes target : List ℤ) → first_of (store_table w h pairs bytes) ≡ 0 → length target ≡ length pairs
      → (first_of (read_back_table w h (stored pairs) target) ≡ 0) × (read_back (stored pairs) ≡ pairs)
  unfolding store_table read_back_table length_rows
  read-back-stored pairs bytes target e long =
      let r = last-fails _ 45 (omega arith) (length_rows w h (length pairs) (length bytes)) refl e in
      let each = storable_components (h * w) pairs (lengths_granted w h _ _ r.0).0 r.1 in (
        back_granted (length pairs) (length bytes) _ _ _ r.0 (length-map pairs to_byte) long (none-half-marked pairs r.1),
        map-map from_byte to_byte pairs ∙ unchanged (λ z. from_byte (to_byte z)) pairs (λ i k. restored (get_or pairs i (pos 0)) (each i k)),
      )

  -- ---- back and there

  -- where bytes are not half-marked, the pixel read back can be stored
  pixel_again : (dx dy : ℤ) → Byte dx → Byte dy → xor (is_byte_mark dx) (is_byte_mark dy) ≡ false
      → unlabelled (from_byte dx) (from_byte dy) || (small_component (from_byte dx) && small_component (from_byte dy)) ≡ true
  pixel_again dx dy b c e = rw (read-mark dx b, read-mark dy c) (go (is_byte_mark dx) (is_byte_mark dy) refl refl (xor_same _ _ e))
    where
      go : (s t : Bool) → is_byte_mark dx ≡ s → is_byte_mark dy ≡ t → s ≡ t → (s && t) || (small_component (from_byte dx) && small_component (from_byte dy)) ≡ true
      go true t x y same = rw (← same) refl
      go false t x y same = rw (read_small dx b x, read_small dy c (y ∙ sym same)) refl

  -- bytes that are read back are stored again
  module _ (bytes : List ℤ) (each : (i : ℕ) → i < length bytes → Byte (get_or bytes i (pos 0))) where
    all-storable : length bytes ≡ 2 * (h * w) → any_below (h * w) (half_marked bytes) ≡ false → any_below (h * w) (λ p. not (storable (read_back bytes) p)) ≡ false
    all-storable long none =
        any_none (h * w) _ (λ p below.
        rw (get_or-map from_byte bytes (2 * p) (pos 0), get_or-map from_byte bytes (2 * p + 1) (pos 0))
        (ap not (pixel_again (dx_at bytes p) (dy_at bytes p) (each (2 * p) (omega arith)) (each (2 * p + 1) (omega arith))
        (any_false (h * w) _ p none below))))

    pub store_read_back : (pairs target : List ℤ) → first_of (read_back_table w h bytes pairs) ≡ 0 → length target ≡ length bytes
        → (first_of (store_table w h (read_back bytes) target) ≡ 0) × (stored (read_back bytes) ≡ bytes)
    unfolding store_table read_back_table length_rows
    store_read_back pairs target e long =
        let r = last-fails _ 45 (omega arith) (length_rows w h (length bytes) (length pairs)) refl e in
        let l = lengths_granted w h _ _ r.0 in (
          back_granted (length bytes) (length pairs) _ _ _ r.0 (length-map bytes from_byte) long (all-storable l.0 r.1),
          map-map to_byte from_byte bytes ∙ unchanged (λ z. to_byte (from_byte z)) bytes (λ i k. stored_again (get_or bytes i (pos 0)) (each i k)),
        )
