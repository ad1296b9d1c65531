-- The map while the first pixels have their seeds: how it starts, one more pixel, how it ends.
-- Assumes nothing.
use mathlib.Core.Path.{◌≡◌, refl, ap}
use mathlib.Core.List.{List, [], ◌∷◌}
use Prim.Native.Nat.{ℕ, zero, suc, ◌+◌, ◌*◌, ◌<◌}
use native.Mathlib.Nat.{not-suc-le-zero, le_of_suc-le-suc}
use native.Mathlib.Omega.{arith}
use lib.IntN.{ℤ}
use lib.ListN.{length, get_or}
use Rattle.raster.specs.Map.{put}
use Rattle.scan.specs.Scan.{seed, seeds}

-- the seeds of the sheet's first n bytes, then the map as it was
pub sown : (n : ℕ) → List ℕ → List ℤ → List ℤ
sown zero s m = m
sown (suc n) [] m = m
sown (suc n) (b ∷ s) [] = []
sown (suc n) (b ∷ s) (x ∷ []) = x ∷ []
sown (suc n) (b ∷ s) (x ∷ y ∷ m) = seed b ∷ seed b ∷ sown n s m

pub sown-none : (s : List ℕ) (m : List ℤ) → m ≡ sown 0 s m
unfolding sown
sown-none s m = refl

pub sown-more : (p : ℕ) (s : List ℕ) (m : List ℤ) → length m ≡ 2 * length s → p < length s
    → put p (seed (get_or s p 0)) (seed (get_or s p 0)) (sown p s m) ≡ sown (suc p) s m
unfolding put sown
sown-more p [] m l h = absurd (not-suc-le-zero h)
sown-more p (b ∷ s) [] l h = absurd (omega arith)
sown-more p (b ∷ s) (x ∷ []) l h = absurd (omega arith)
sown-more zero (b ∷ s) (x ∷ y ∷ m) l h = refl
sown-more (suc p) (b ∷ s) (x ∷ y ∷ m) l h =
    let e : 2 * suc p ≡ suc (suc (2 * p)) = omega arith in
    let f : suc (suc (2 * p)) + 1 ≡ suc (suc (2 * p + 1)) = omega arith in
    rw (e, f) (ap (λ (t : List ℤ). seed b ∷ seed b ∷ t) (sown-more p s m (omega arith) (le_of_suc-le-suc h)))

pub sown-all : (s : List ℕ) (m : List ℤ) → length m ≡ 2 * length s → sown (length s) s m ≡ seeds s
unfolding sown seeds
sown-all [] [] l = refl
sown-all [] (x ∷ m) l = absurd (omega arith)
sown-all (b ∷ s) [] l = absurd (omega arith)
sown-all (b ∷ s) (x ∷ []) l = absurd (omega arith)
sown-all (b ∷ s) (x ∷ y ∷ m) l = ap (λ (t : List ℤ). seed b ∷ seed b ∷ t) (sown-all s m (omega arith))
