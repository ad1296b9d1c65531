-- What goes on from moment to moment of a scan: vectors end on copper, and a pixel that is within K stays within K. Below: the moments that the parts of a
-- scan lead through.
-- Assumes nothing.
use mathlib.Core.Path.{◌≡◌}
use mathlib.Core.Bool.{Bool, true, false, cond}
use mathlib.Core.List.{List}
use Prim.Native.Nat.{ℕ, zero, suc, ◌+◌, ◌*◌, ◌≤◌, ◌<◌}
use native.Mathlib.Omega.{arith}
use lib.IntN.{ℤ, nat_abs, ◌+ℤ◌}
use Rattle.raster.specs.Limits.{max_side}
use Rattle.raster.specs.Loop.{ascend}
use Rattle.raster.specs.LoopLaws.{up_keeps}
use Rattle.raster.specs.Pixels.{Mask, index}
use Rattle.raster.specs.Vector.{UnitStep, size, unlabelled}
use Rattle.raster.specs.VectorLaws.{near-labelled}
use Rattle.raster.specs.Map.{dx_at, dy_at, size_at, unlabelled_at}
use Rattle.raster.specs.Tests.{cond_ind}
use Rattle.candidate.specs.Candidate.{relax}
use Rattle.candidate.specs.OnSheet.{OnCopper, Hop, Moment, start, later}
use Rattle.candidate.proofs.OnCopper.{pixel-inside, candidate-near, relax-on-copper}
use Rattle.scan.proofs.Within.{Within, side-size, corner-size, kept, reached}

-- ---- moments

module _ {w h : ℕ} where
  pub onward : {m n k : List ℤ} → Moment w h m n → Moment w h n k → Moment w h m k
  onward a start = a
  onward a (later n x y i j ox oy t hop) = later n x y i j ox oy (onward a t) hop

  -- one candidate more; one that is made or left out; those of a loop
  pub next : {m : List ℤ} {x y a b : ℕ} {ox oy : ℤ} → Hop w h x y a b ox oy → Moment w h m (relax (index w x y) (index w a b) ox oy m)
  next {m} {x} {y} {a} {b} {ox} {oy} hop = later m x y a b ox oy start hop

  pub either : {m : List ℤ} (t : Bool) (n : List ℤ) → (t ≡ true → Moment w h m n) → Moment w h m (cond t n m)
  either {m} t n made = cond_ind (Moment w h m) t made (λ e. start)

  pub loop_moment : (f : ℕ → List ℤ → List ℤ) (n : ℕ) (m : List ℤ) → ((i : ℕ) → i < n → (k : List ℤ) → Moment w h k (f i k)) → Moment w h m (ascend f n m)
  loop_moment f n m each = up_keeps f (Moment w h m) n m (λ i l k t. onward t (each i l k)) start

-- ---- nothing is lost

-- a labelled pixel is within some K
square-up : (s : ℕ) → s ≤ s * s
square-up zero = omega arith
square-up (suc s) = omega arith

pub some-within : (m : List ℤ) (p : ℕ) → unlabelled_at m p ≡ false → Within m p (12 * size_at m p)
some-within m p l = record { labelled = l; near = omega (arith, square-up (size_at m p)) }

module _ (copper : Mask) (w h : ℕ) (wide : w ≤ max_side) where
  -- from m to n
  pub record Grows (m n : List ℤ) : Type 0 where
    pub sound : OnCopper copper w h n
    pub keeps : (p K : ℕ) → Within m p K → Within n p K

  module _ {m : List ℤ} (sound : OnCopper copper w h m) (x y a b : ℕ) (ox oy : ℤ) (hop : Hop w h x y a b ox oy) where
    abbrev cx : ℤ
    cx = dx_at m (index w a b) +ℤ ox

    abbrev cy : ℤ
    cy = dy_at m (index w a b) +ℤ oy

    -- the candidate labels the pixel
    labels : unlabelled_at m (index w a b) ≡ false → unlabelled cx cy ≡ false
    labels l = near-labelled cx cy (omega (arith, (candidate-near sound x y a b ox oy hop l).0))

    relax_keeps : (p K : ℕ) → Within m p K → Within (relax (index w x y) (index w a b) ox oy m) p K
    relax_keeps p K g =
        cond_ind (λ n. Within n p K) (unlabelled_at m (index w a b)) (λ u. g)
        (λ u. kept (index w x y) cx cy m (pixel-inside sound x y hop.across hop.down) (labels u) p K g)

    -- the pixel is then within whatever the candidate is within
    gains : (K L : ℕ) → Within m (index w a b) K
        → (144 * size (dx_at m (index w a b)) (dy_at m (index w a b)) ≤ K * K → 144 * size cx cy ≤ L * L)
        → Within (relax (index w x y) (index w a b) ox oy m) (index w x y) L
    gains K L g more =
        rw g.labelled
        (reached (index w x y) cx cy m (pixel-inside sound x y hop.across hop.down) (labels g.labelled) L (more g.near))

    pub relax_side : (K : ℕ) → nat_abs ox + nat_abs oy ≤ 1 → Within m (index w a b) K → Within (relax (index w x y) (index w a b) ox oy m) (index w x y) (K + 12)
    relax_side K small g = gains K (K + 12) g (side-size _ _ ox oy K small)

    pub relax_corner : (K : ℕ) → UnitStep ox → UnitStep oy → Within m (index w a b) K → Within (relax (index w x y) (index w a b) ox oy m) (index w x y) (K + 17)
    relax_corner K i j g = gains K (K + 17) g (corner-size _ _ ox oy K i j)

  pub grows : {m n : List ℤ} → OnCopper copper w h m → Moment w h m n → Grows m n
  grows sound start = record { sound = sound; keeps = λ p K g. g }
  grows sound (later n x y a b ox oy t hop) =
      let g = grows sound t in
      record { sound = relax-on-copper g.sound x y a b ox oy hop; keeps = λ p K i. relax_keeps g.sound x y a b ox oy hop p K (g.keeps p K i) }
