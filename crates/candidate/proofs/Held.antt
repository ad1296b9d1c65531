-- A vector that the code carries is that of its pixel, so the candidate of the one is the candidate of the other.
-- Assumes nothing.
use mathlib.Core.Path.{◌≡◌, refl, sym, ap₂, ◌∙◌}
use mathlib.Core.Bool.{Bool, true, false, cond, true≢false}
use mathlib.Core.List.{List}
use Prim.Native.Nat.{ℕ, ◌<◌}
use native.Mathlib.Omega.{arith}
use lib.IntN.{ℤ, pos, nat_abs, ◌+ℤ◌, +ℤ_idr}
use borrow.Author.Tests.{lt-ltb, le-ltb}
use Rattle.raster.specs.Limits.{max_side}
use Rattle.raster.specs.Pixels.{index}
use Rattle.raster.specs.Map.{dx_at, dy_at, unlabelled_at}
use Rattle.candidate.specs.declared.KeyedVector.{KeyedVector}
use Rattle.candidate.specs.Candidate.{offer, relax}
use Rattle.candidate.specs.OnSheet.{OnSheet}
use Rattle.candidate.specs.Key.{key, key_limit}
use Rattle.candidate.specs.KeyLaws.{unlabelled-key, near-key}
use Rattle.candidate.specs.Holding.{AtPixel, is_given, Given, Ahead, offer_given}
use Rattle.candidate.proofs.OnCopper.{near-pixel}

-- its key is that of the pixel's vector
pub held-key : {r : KeyedVector} {m : List ℤ} {p : ℕ} → AtPixel r m p → r.key ≡ key (dx_at m p) (dy_at m p)
held-key held = held.keyed.own ∙ ap₂ key held.dx held.dy

module _ {w : ℕ} {m : List ℤ} (sheet : OnSheet w m) (x y : ℕ) (across : x < w) (down : y < sheet.height) {r : KeyedVector} (h : AtPixel r m (index w x y)) where
  -- the vector of a labelled pixel
  pub held-given : unlabelled_at m (index w x y) ≡ false → Given r × (is_given r ≡ true)
  held-given l =
      let n = near-pixel sheet x y across down l in
      let a : nat_abs r.dx < max_side = rw h.dx n.0 in
      let b : nat_abs r.dy < max_side = rw h.dy n.1 in
      let g = lt-ltb r.key key_limit (rw h.keyed.own (near-key r.dx r.dy (omega arith) (omega arith))) in
      (record { near_dx = a; near_dy = omega arith; own = λ e. h.keyed.own; absent = λ e. absurd (true≢false (sym g ∙ e)) }, g)

  -- an unlabelled one has none
  not-held : unlabelled_at m (index w x y) ≡ true → is_given r ≡ false
  not-held u = le-ltb r.key key_limit (rw (h.keyed.own, h.dx, h.dy, unlabelled-key (dx_at m (index w x y)) (dy_at m (index w x y)) u) (omega arith))

  -- any vector that is given is that of a labelled one
  pub given-held : is_given r ≡ true → Given r
  given-held g = go (unlabelled_at m (index w x y)) refl
    where
      go : (t : Bool) → unlabelled_at m (index w x y) ≡ t → Given r
      go true u = absurd (true≢false (sym g ∙ not-held u))
      go false u = (held-given u).0

  -- its candidate is the pixel's
  pub held-relax : (at : ℕ) (ox : ℤ) → offer_given r ox at m ≡ relax at (index w x y) ox (pos 0) m
  held-relax at ox = go (unlabelled_at m (index w x y)) refl
    where
      go : (t : Bool) → unlabelled_at m (index w x y) ≡ t → offer_given r ox at m ≡ cond t m (offer (dx_at m (index w x y) +ℤ ox) (dy_at m (index w x y) +ℤ pos 0) at m)
      go true u = rw (not-held u)
      go false u = rw ((held-given u).1, h.dx, h.dy, +ℤ_idr (dy_at m (index w x y)))

-- the vector of a labelled pixel, after a step up or down
pub ahead-relax : {o : ℤ} {c : KeyedVector} {m : List ℤ} {p : ℕ} → Ahead o c m p → unlabelled_at m p ≡ false → (at : ℕ) (ox : ℤ) → offer_given c ox at m ≡ relax at p ox o m
ahead-relax h l at ox = rw (h.gives, h.dx, h.dy, l)
