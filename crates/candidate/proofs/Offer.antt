-- One candidate, as the code takes it. First on vectors (`Offered`); then on the map, where candidates that come in turn at one pixel are one write
-- (`Written`).
-- Assumes nothing.
use mathlib.Core.Path.{◌≡◌, refl, sym, ap, ◌∙◌}
use mathlib.Core.Bool.{Bool, true, false, cond, ◌&&◌}
use mathlib.Core.List.{List}
use Prim.Native.Nat.{ℕ, ◌+◌, ◌*◌, ◌≤◌}
use native.Mathlib.Omega.{arith}
use lib.Dec.{ltb}
use lib.IntN.{ℤ, ◌+ℤ◌}
use lib.ListN.{set}
use lib.Seq.{set-get_or, set-set, set_comm}
use borrow.Author.Tests.{le-ltb}
use Rattle.raster.specs.Tests.{and_left}
use Rattle.raster.specs.Vector.{UnitStep, replaces}
use Rattle.raster.specs.Map.{Inside, dx_at, dy_at, put}
use Rattle.raster.specs.MapLaws.{put-dx, put-dy}
use Rattle.candidate.specs.declared.KeyedVector.{KeyedVector}
use Rattle.candidate.specs.Candidate.{offer}
use Rattle.candidate.specs.Key.{key, no_key}
use Rattle.candidate.specs.KeyLaws.{key-replaces}
use Rattle.candidate.specs.Holding.{Keyed, AtPixel, is_given, Given, offer_given, wins, Offered}
use Rattle.candidate.proofs.Carried.{near_short, most_key, side-near}

-- ---- of vectors: k is the candidate's key, or too large if there is none

module _ (d c : KeyedVector) (o : ℤ) (a : Keyed d) (g : Given c) (u : UnitStep o) (k : ℕ) (is : is_given c ≡ true → k ≡ key (c.dx +ℤ o) c.dy) (none : is_given c ≡ false → no_key ≤ k) where
  -- so keys alone say what replaces what
  wins_is : wins d c o ≡ ltb k d.key
  wins_is = go (is_given c) refl
    where
      go : (t : Bool) → is_given c ≡ t → t && replaces d.dx d.dy (c.dx +ℤ o) c.dy ≡ ltb k d.key
      go true e = rw (is e, a.own) (sym (key-replaces d.dx d.dy (c.dx +ℤ o) c.dy (side-near g o u) g.near_dy))
      go false e = sym (le-ltb k d.key (omega (arith, none e, most_key a)))

  pub offered : {r : KeyedVector} (t : Bool) → t ≡ ltb k d.key
      → r.dx ≡ cond t (c.dx +ℤ o) d.dx → r.dy ≡ cond t c.dy d.dy → r.key ≡ cond t k d.key → Offered d c o r
  offered {r} t e x y z = record { dx = rw (wins_is, ← e) x; dy = rw (wins_is, ← e) y; keyed = go t (wins_is ∙ sym e) x y z }
    where
      go : (t : Bool) → wins d c o ≡ t → r.dx ≡ cond t (c.dx +ℤ o) d.dx → r.dy ≡ cond t c.dy d.dy → r.key ≡ cond t k d.key → Keyed r
      go true w x y z = record {
        short_dx = rw x (near_short (c.dx +ℤ o) (side-near g o u));
        short_dy = rw y (near_short c.dy g.near_dy);
        own = rw (x, y, z) (is (and_left (is_given c) _ w));
      }
      go false w x y z = record { short_dx = rw x a.short_dx; short_dy = rw y a.short_dy; own = rw (x, y, z) a.own }

-- ---- of the map

-- what stands at a pixel, written there, changes nothing; of two writes at a pixel the second counts
put_same : (p : ℕ) (m : List ℤ) → put p (dx_at m p) (dy_at m p) m ≡ m
unfolding put
put_same p m = rw (set-get_or, set-get_or)

pub put-kept : {x y : ℤ} (p : ℕ) (m : List ℤ) → x ≡ dx_at m p → y ≡ dy_at m p → m ≡ put p x y m
put-kept p m e f = rw (e, f) (sym (put_same p m))

put-put : (p : ℕ) (x y a b : ℤ) (m : List ℤ) → put p x y (put p a b m) ≡ put p x y m
unfolding put
put-put p x y a b m =
    ap (λ (l : List ℤ). set l (2 * p + 1) y) (set_comm (set m (2 * p) a) (2 * p + 1) (2 * p) b x (omega arith))
    ∙ set-set (set (set m (2 * p) a) (2 * p) x) (2 * p + 1) b y ∙ ap (λ (l : List ℤ). set l (2 * p + 1) y) (set-set m (2 * p) a x)

module _ (at : ℕ) (m : List ℤ) where
  -- n is the map m with r at the pixel
  pub record Written (r : KeyedVector) (n : List ℤ) : Type 0 where
    pub made : n ≡ put at r.dx r.dy m
    pub keyed : Keyed r

  pub written_first : {d : KeyedVector} → AtPixel d m at → Written d m
  written_first h = record { made = put-kept at m h.dx h.dy; keyed = h.keyed }

  pub written_next : {d c r : KeyedVector} {n : List ℤ} (o : ℤ) → Inside at m → Written d n → Offered d c o r → Written r (offer_given c o at n)
  unfolding offer
  written_next {d} {c} {r} {n} o i v e = record {
    made = rw (v.made, put-dx at d.dx d.dy m i, put-dy at d.dx d.dy m i, e.dx, e.dy) (go (is_given c) (replaces d.dx d.dy (c.dx +ℤ o) c.dy));
    keyed = e.keyed;
  }
    where
      go : (t u : Bool) → cond t (cond u (put at (c.dx +ℤ o) c.dy (put at d.dx d.dy m)) (put at d.dx d.dy m)) (put at d.dx d.dy m)
          ≡ put at (cond (t && u) (c.dx +ℤ o) d.dx) (cond (t && u) c.dy d.dy) m
      go true true = put-put at _ _ _ _ m
      go true false = refl
      go false u = refl

  -- r, written at its pixel, is what the candidates leave, and stands there
  pub written_last : {r : KeyedVector} {n k : List ℤ} → Inside at m → Written r n → k ≡ put at r.dx r.dy m → (k ≡ n) × AtPixel r k at
  written_last {r} i v e =
      (e ∙ sym v.made, rw e (record { dx = sym (put-dx at r.dx r.dy m i); dy = sym (put-dy at r.dx r.dy m i); keyed = v.keyed }))
