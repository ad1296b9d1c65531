-- Bands: how a row is measured and looked up column by column, and when a band, filled so or blank, is that of a row.
-- Assumes nothing.
use mathlib.Core.Path.{◌≡◌, refl, sym, ap, ◌∙◌}
use mathlib.Core.Bool.{Bool, true, false, cond, and-false, false≢true}
use mathlib.Core.List.{List}
use Prim.Native.Nat.{ℕ, ◌+◌, ◌-◌, ◌*◌, ◌<◌, ◌≤◌}
use native.Mathlib.Decide.{dec_le, dec_lt, ℕ_discrete}
use native.Mathlib.Nat.{add-zero}
use native.Mathlib.Omega.{arith}
use lib.IntN.{ℤ}
use lib.ListN.{length, get_or, set, replicate, get_or-replicate, get_or-eq_default, length-set}
use lib.Seq.{get_or-set_other}
use borrow.Author.Tests.{le-leb, lt-leb}
use Rattle.raster.proofs.Writing.{set_more}
use Rattle.raster.specs.Map.{dx_at, dy_at, size_at, unlabelled_at}
use Rattle.raster.specs.VectorLaws.{unlabelled-size}
use Rattle.skeleton.specs.Table.{g}
use Rattle.skeleton.specs.Skeleton.{on_side}
use Rattle.skeleton.specs.declared.Band.{Band}
use Rattle.skeleton.specs.Bands.{counted, own_at, taken_at, on_sheet, Part, Ended, Framed, Blank, Measured, LookedUp, BandOf}

-- the part that starts at 0
pub from_zero : {n : ℕ} {f : ℕ → ℕ} {s : List ℕ} → Part 0 n f s → (i : ℕ) → i < n → get_or s i 0 ≡ f i
from_zero r i l = rw (add-zero i) at (r.entry i l)

part-more : {start n : ℕ} {f : ℕ → ℕ} {s : List ℕ} {v : ℕ} → Part start n f s → n + start < length s → v ≡ f n → Part start (n + 1) f (set s (n + start) v)
part-more {start} {f = f} {s = s} r l e = record { entry = set_more 0 (λ i u. u ≡ f i) (λ i. i + start) s l (λ i m. omega arith) e r.entry }

-- a write between the ends leaves them as they are
ended_set : {w n : ℕ} {s : List ℕ} (v : ℕ) → Ended w s → n < w → Ended w (set s (n + 1) v)
ended_set {w} {n} {s} v e l = record {
  long = length-set s (n + 1) v ∙ e.long;
  left = get_or-set_other s (n + 1) 0 v 0 (omega arith) ∙ e.left;
  right = get_or-set_other s (n + 1) (w + 1) v 0 (omega arith) ∙ e.right;
}

-- ---- the columns of a row

-- one column more is measured
pub measured-more : {m : List ℤ} {base w n v : ℕ} {b : Band} → Measured m base w n b → n < w → w ≤ 2048 → v ≡ own_at m (base + n)
    → Measured m base w (n + 1) (record b { sizes = set b.sizes (n + 1) v })
measured-more {n = n} {v = v} {b = b} r l small e = record {
  framed = record { long = length-set b.sizes (n + 1) v ∙ r.framed.long; sides = r.framed.sides; corners = r.framed.corners };
  sizes = part-more r.sizes (omega (arith, r.framed.long)) e;
}

-- one column more is looked up
pub looked_up_more : {w n u v : ℕ} {b c : Band} → LookedUp w n b c → n < w → w ≤ 2048
    → u ≡ g false (counted (get_or c.sizes (n + 1) 0)) → v ≡ g true (counted (get_or c.sizes (n + 1) 0))
    → LookedUp w (n + 1) b (record c { sides = set c.sides (n + 1) u; corners = set c.corners (n + 1) v })
looked_up_more {w} {n} {u} {v} r l small e f = record {
  framed = record { long = r.framed.long; sides = ended_set u r.framed.sides l; corners = ended_set v r.framed.corners l };
  sizes = r.sizes;
  sides = part-more r.sides (omega (arith, r.framed.sides.long)) (e ∙ ap (λ (s : List ℕ). g false (counted (get_or s (n + 1) 0))) r.sizes);
  corners = part-more r.corners (omega (arith, r.framed.corners.long)) (f ∙ ap (λ (s : List ℕ). g true (counted (get_or s (n + 1) 0))) r.sizes);
}

-- ---- a band

-- a part with its ends
ended : {w h y : ℕ} {s : List ℕ} (f : ℕ → ℕ) → Ended w s → Part 1 w (λ x. f (y * w + x)) s → y < h → Part 0 (w + 2) (λ i. on_sheet w h f i (y + 1)) s
ended {w} {h} {y} {s} f ends r l = record {
  entry = λ i m. elim (ℕ_discrete i 0) [
    | yes q ↦ let e : i + 0 ≡ 0 = omega arith in rw (e, q) ends.left
    | no q ↦ elim (dec_le i w) [
      | yes k ↦ let e : i - 1 + 1 ≡ i + 0 = omega arith in
          let d : y + 1 - 1 ≡ y = omega arith in
          rw (le-leb 1 i (omega arith), le-leb i w k, le-leb 1 (y + 1) (omega arith), le-leb (y + 1) h (omega arith), d, ← e) (r.entry (i - 1) (omega arith))
      | no k ↦ let e : i + 0 ≡ w + 1 = omega arith in rw (lt-leb i w (omega arith), le-leb 1 i (omega arith), e) ends.right
    ]
  ];
}

-- an unlabelled pixel is looked up under 1 by its size, 2³¹, and by 0
counted-own : (m : List ℤ) (p : ℕ) → counted (own_at m p) ≡ counted (size_at m p)
counted-own m p = go (unlabelled_at m p) refl
  where
    go : (u : Bool) → unlabelled_at m p ≡ u → counted (cond u 0 (size_at m p)) ≡ counted (size_at m p)
    go true e = rw (unlabelled-size (dx_at m p) (dy_at m p) e) refl
    go false e = refl

zero-at : (p : ℕ) → ◌≡◌ {A = ℕ} (get_or (replicate 2050 0) p 0) 0
zero-at p = elim (dec_lt p 2050) [
  | yes l ↦ get_or-replicate 2050 p 0 0 l
  | no n ↦ let past : length (replicate {A = ℕ} 2050 0) ≤ p = omega arith in get_or-eq_default (replicate 2050 0) 0 past
]

-- a blank band has its ends
pub blank_framed : {w : ℕ} {b : Band} → Blank b → Framed w b
blank_framed {w} z = record { long = rw z.sizes (omega arith); sides = blank_ended z.sides; corners = blank_ended z.corners }
  where
    blank_ended : {s : List ℕ} → s ≡ replicate 2050 0 → Ended w s
    blank_ended e = record { long = rw e (omega arith); left = rw e (zero-at 0); right = rw e (zero-at (w + 1)) }

module _ {m : List ℤ} {w h : ℕ} {b : Band} where
  -- a row that is measured and looked up
  pub band_looked_up : {y : ℕ} {c : Band} → Measured m (y * w) w w b → LookedUp w w b c → y < h → BandOf m w h (y + 1) c
  band_looked_up {y} {c} r k l = record {
    framed = k.framed;
    sizes = λ z e q. let d : z ≡ y = omega arith in rw (d, k.sizes) r.sizes;
    sides = ended (taken_at false m) k.framed.sides (by_size false k.sides) l;
    corners = ended (taken_at true m) k.framed.corners (by_size true k.corners) l;
  }
    where
      by_size : (corner : Bool) {s : List ℕ} → Part 1 w (λ x. g corner (counted (get_or b.sizes (x + 1) 0))) s → Part 1 w (λ x. taken_at corner m (y * w + x)) s
      by_size corner p = record {
        entry = λ x a. p.entry x a ∙ ap (λ (n : ℕ). g corner (counted n)) (r.sizes.entry x a) ∙ ap (g corner) (counted-own m (y * w + x));
      }

  -- a row off the sheet
  pub band_blank : {j : ℕ} → Blank b → on_side h j ≡ false → BandOf m w h j b
  band_blank {j} z off = record {
    framed = blank_framed z;
    sizes = λ y e l. absurd (false≢true (sym off ∙ on y e l));
    sides = off_sheet (taken_at false m) z.sides;
    corners = off_sheet (taken_at true m) z.corners;
  }
    where
      on : (y : ℕ) → j ≡ y + 1 → y < h → on_side h j ≡ true
      on y e l = rw (le-leb 1 j (omega arith), le-leb j h (omega arith))

      off_sheet : (f : ℕ → ℕ) {s : List ℕ} → s ≡ replicate 2050 0 → Part 0 (w + 2) (λ i. on_sheet w h f i j) s
      off_sheet f e = record { entry = λ i l. rw (off, and-false (on_side w i), e) (zero-at (i + 0)) }
