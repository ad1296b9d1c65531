-- What a candidate leaves: true, at its pixel, and elsewhere. Candidates at two pixels that do not look at each other may change places.
-- Assumes nothing.
use mathlib.Core.Path.{◌≡◌, refl, sym, ap, ◌∙◌}
use mathlib.Core.Logic.{◌≢◌}
use mathlib.Core.Bool.{Bool, true, false, cond}
use mathlib.Core.List.{List}
use Prim.Native.Nat.{ℕ, ◌+◌, ◌*◌}
use native.Mathlib.Omega.{arith}
use lib.IntN.{ℤ, ◌+ℤ◌}
use lib.ListN.{set}
use lib.Seq.{set_comm}
use Rattle.raster.specs.Tests.{cond_ind}
use Rattle.raster.specs.Vector.{replaces}
use Rattle.raster.specs.Map.{dx_at, dy_at, unlabelled_at, put}
use Rattle.raster.specs.MapLaws.{put-dx-other, put-dy-other}
use Rattle.candidate.specs.Candidate.{offer, relax}

-- pixel p has in n the vector that it has in m
abbrev pub Unchanged : (m n : List ℤ) (p : ℕ) → Type 0
Unchanged m n p = (dx_at n p ≡ dx_at m p) × (dy_at n p ≡ dy_at m p)

-- what holds of the map as it was, and with the vector written where it replaces, holds after the offer
pub offer_ind : (cx cy : ℤ) (at : ℕ) (m : List ℤ) (P : List ℤ → Type 0) → P m
    → (replaces (dx_at m at) (dy_at m at) cx cy ≡ true → P (put at cx cy m)) → P (offer cx cy at m)
unfolding offer
offer_ind cx cy at m P same new = cond_ind P (replaces (dx_at m at) (dy_at m at) cx cy) new (λ e. same)

module _ (at from : ℕ) (ox oy : ℤ) (m : List ℤ) where
  -- the same of a candidate, which a labelled neighbour alone gives
  pub relax_ind : (P : List ℤ → Type 0) → P m
      → (unlabelled_at m from ≡ false → replaces (dx_at m at) (dy_at m at) (dx_at m from +ℤ ox) (dy_at m from +ℤ oy) ≡ true
      → P (put at (dx_at m from +ℤ ox) (dy_at m from +ℤ oy) m))
      → P (relax at from ox oy m)
  relax_ind P same new =
      cond_ind P (unlabelled_at m from) (λ u. same) (λ u. offer_ind (dx_at m from +ℤ ox) (dy_at m from +ℤ oy) at m P same (new u))

  -- other pixels stay as they were
  pub elsewhere : (q : ℕ) → q ≢ at → Unchanged m (relax at from ox oy m) q
  elsewhere q n =
      relax_ind (λ k. Unchanged m k q) (refl, refl)
      (λ u r. (put-dx-other at _ _ m q n, put-dy-other at _ _ m q n))

  -- also by a candidate that is made or left out
  pub elsewhere_if : (t : Bool) (q : ℕ) → (t ≡ true → q ≢ at) → Unchanged m (cond t (relax at from ox oy m) m) q
  elsewhere_if true q n = elsewhere q (n refl)
  elsewhere_if false q n = (refl, refl)

-- ---- at two pixels

put_comm : (p q : ℕ) (a b x y : ℤ) (m : List ℤ) → p ≢ q → put p a b (put q x y m) ≡ put q x y (put p a b m)
unfolding put
put_comm p q a b x y m n =
    let t : List ℤ = set m (2 * p) a in
    ap (λ (l : List ℤ). set l (2 * p + 1) b)
    (set_comm (set m (2 * q) x) (2 * q + 1) (2 * p) y a (omega arith)
    ∙ ap (λ (l : List ℤ). set l (2 * q + 1) y) (set_comm m (2 * q) (2 * p) x a (λ e. n (omega arith))))
    ∙ set_comm (set t (2 * q) x) (2 * q + 1) (2 * p + 1) y b (λ e. n (omega arith))
    ∙ ap (λ (l : List ℤ). set l (2 * q + 1) y) (set_comm t (2 * q) (2 * p + 1) x b (omega arith))

module _ (at from : ℕ) (ox oy : ℤ) (at' from' : ℕ) (ox' oy' : ℤ) (apart : at ≢ at') (unseen : from ≢ at') (unseen' : from' ≢ at) (m : List ℤ) where
  -- each candidate, by whether its neighbour is unlabelled and whether it replaces
  abbrev one : (u t : Bool) → List ℤ → List ℤ
  one u t n = cond u n (cond t (put at (dx_at m from +ℤ ox) (dy_at m from +ℤ oy) n) n)

  abbrev two : (u t : Bool) → List ℤ → List ℤ
  two u t n = cond u n (cond t (put at' (dx_at m from' +ℤ ox') (dy_at m from' +ℤ oy') n) n)

  pub relax_comm : relax at from ox oy (relax at' from' ox' oy' m) ≡ relax at' from' ox' oy' (relax at from ox oy m)
  unfolding offer
  relax_comm =
      let e = elsewhere at' from' ox' oy' m in
      let f = elsewhere at from ox oy m in
      let apart' : at' ≢ at = λ z. apart (sym z) in
      rw ((e at apart).0, (e at apart).1, (e from unseen).0, (e from unseen).1, (f at' apart').0, (f at' apart').1, (f from' unseen').0, (f from' unseen').1)
      (go (unlabelled_at m from) (replaces (dx_at m at) (dy_at m at) (dx_at m from +ℤ ox) (dy_at m from +ℤ oy))
      (unlabelled_at m from') (replaces (dx_at m at') (dy_at m at') (dx_at m from' +ℤ ox') (dy_at m from' +ℤ oy')))
    where
      go : (u t u' t' : Bool) → one u t (two u' t' m) ≡ two u' t' (one u t m)
      go true t u' t' = refl
      go false true true t' = refl
      go false true false true = put_comm at at' _ _ _ _ m apart
      go false true false false = refl
      go false false u' t' = refl
