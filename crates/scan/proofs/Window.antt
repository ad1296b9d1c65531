-- The vectors of the row before that `from_three` carries along: those of the pixels x − 1, x and x + 1, after the step to this row. What is not there gives
-- nothing.
-- Assumes nothing.
use mathlib.Core.Path.{◌≡◌, refl, sym, ap, ◌∙◌}
use mathlib.Core.Logic.{◌≢◌}
use mathlib.Core.Bool.{Bool, true, false, cond}
use mathlib.Core.List.{List}
use Prim.Native.Nat.{ℕ, ◌+◌, ◌-◌, ◌<◌}
use lib.Dec.{ltb}
use lib.IntN.{ℤ, pos, negsuc}
use borrow.Author.Tests.{ltb-true}
use Rattle.raster.specs.Pixels.{index}
use Rattle.raster.specs.PixelsLaws.{index-one}
use Rattle.raster.specs.Map.{unlabelled_at}
use Rattle.candidate.specs.declared.KeyedVector.{KeyedVector}
use Rattle.candidate.specs.Candidate.{relax}
use Rattle.candidate.specs.Holding.{is_given, Given, Ahead, offer_given}
use Rattle.candidate.proofs.Neighbours.{Unchanged, elsewhere, elsewhere_if}
use Rattle.candidate.proofs.Held.{ahead-relax}
use Rattle.scan.specs.Scan.{from_left, from_three}

-- pixels of two rows are two pixels
pub other_row : (w y b : ℕ) → y ≢ b → (x z : ℕ) → x < w → z < w → index w z b ≢ index w x y
other_row w y b rows x z on k e = rows (sym (index-one w z b x y k on e).1)

-- c is the vector of the labelled pixel p after the step (0, o) if the test t holds, and none otherwise
pub record IfThere (t : Bool) (o : ℤ) (c : KeyedVector) (m : List ℤ) (p : ℕ) : Type 0 where
  pub there : t ≡ true → Ahead o c m p × (unlabelled_at m p ≡ false)
  pub none : t ≡ false → is_given c ≡ false
  pub given : Given c

-- a pixel of a map that has the same vector there
pub if_there_stays : {t : Bool} {o : ℤ} {c : KeyedVector} {m n : List ℤ} {p : ℕ} → (t ≡ true → Unchanged m n p)
    → IfThere t o c m p → IfThere t o c n p
if_there_stays same e = record {
  there = λ f. let h = e.there f in let s = same f in
      (record { dx = h.0.dx ∙ sym s.0; dy = rw s.1 h.0.dy; gives = h.0.gives; given = h.0.given }, rw (s.0, s.1) h.1);
  none = e.none;
  given = e.given;
}

if_there_offer : {t : Bool} {o : ℤ} {c : KeyedVector} {m : List ℤ} {p : ℕ} → IfThere t o c m p → (at : ℕ) (ox : ℤ) → offer_given c ox at m ≡ cond t (relax at p ox o m) m
if_there_offer {t} {o} {c} {m} {p} e at ox = go t refl
  where
    go : (u : Bool) → t ≡ u → offer_given c ox at m ≡ cond u (relax at p ox o m) m
    go true f = let h = e.there f in ahead-relax h.0 h.1 at ox
    go false f = rw (e.none f)

-- the three candidates are those of the definition
pub three_offers : (w y b : ℕ) (rows : y ≢ b) (o : ℤ) (x : ℕ) → x < w → {left mid right : KeyedVector} {m : List ℤ}
    → IfThere (ltb 0 x) o left m (index w (x - 1) b) → IfThere true o mid m (index w x b) → IfThere (ltb (x + 1) w) o right m (index w (x + 1) b)
    → offer_given right (pos 1) (index w x y) (offer_given mid (pos 0) (index w x y) (offer_given left (negsuc 0) (index w x y) m)) ≡ from_three w true y b o x m
unfolding from_three
three_offers w y b rows o x on {left} {mid} {right} {m} l c r =
    ap (λ (k : List ℤ). offer_given right (pos 1) at (offer_given mid (pos 0) at k)) (if_there_offer l at (negsuc 0))
    ∙ ap (offer_given right (pos 1) at) (if_there_offer (if_there_stays (λ e. by_left x on) c) at (pos 0))
    ∙ if_there_offer (if_there_stays (λ e. let f = by_mid (x + 1) (ltb-true (x + 1) w e) in let g = by_left (x + 1) (ltb-true (x + 1) w e) in (f.0 ∙ g.0, f.1 ∙ g.1)) r) at (pos 1)
  where
    at : ℕ
    at = index w x y

    by_left : (z : ℕ) → z < w → Unchanged m (from_left w true y b o x m) (index w z b)
    by_left z k = elsewhere_if at (index w (x - 1) b) (negsuc 0) o m (ltb 0 x) (index w z b) (λ e. other_row w y b rows x z on k)

    by_mid : (z : ℕ) → z < w → let k = from_left w true y b o x m in Unchanged k (relax at (index w x b) (pos 0) o k) (index w z b)
    by_mid z k = elsewhere at (index w x b) (pos 0) o (from_left w true y b o x m) (index w z b) (other_row w y b rows x z on k)
