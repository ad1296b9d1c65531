-- The copper above a row and below it, column by column: what one row more leaves, and how the search ends.
-- Assumes nothing.
use mathlib.Core.Path.{◌≡◌, refl, ap, ◌∙◌}
use mathlib.Core.Bool.{Bool, true, false, not, cond, ◌&&◌}
use mathlib.Core.List.{List}
use Prim.Native.Nat.{ℕ, ◌+◌, ◌*◌, ◌<◌, ◌≤◌}
use native.Mathlib.Decide.{dec_lt, ℕ_discrete}
use native.Mathlib.Omega.{arith}
use lib.Dec.{eqb, leb}
use lib.ListN.{length, get_or, take}
use lib.Seq.{length-take-le}
use Rattle.std.proofs.lemmas.List.{get_or-take}
use mir.Val.{bool_byte}
use borrow.Author.Tests.{leb-true, leb-false}
use Rattle.raster.specs.Loop.{count_below}
use Rattle.raster.specs.LoopLaws.{count_none, count_same}
use Rattle.raster.specs.Pixels.{Mask, index}
use Rattle.raster.specs.Rows.{RowWritten}
use Rattle.raster.specs.Sheet.{copper_of}
use Rattle.probe.specs.Rows.{LastAbove, LastAboves, last_with, Upcoming, Upcomings, outdated, next_with, LookedTo, LookedTos, FirstBelow, FirstBelows}

-- a pixel is copper if its byte is not 0
pub byte-copper : (sheet : List ℕ) (w x y : ℕ) → copper_of sheet w x y ≡ not (eqb (get_or sheet (index w x y) 0) 0)
unfolding copper_of
byte-copper sheet w x y = refl

-- ---- one column

module _ {copper : Mask} {x : ℕ} where
  pub above-none : LastAbove copper x 0 0
  above-none = record { on = omega arith; is_copper = λ l. absurd (omega arith); bare = λ j l m. absurd (omega arith) }

  above_more : {n a : ℕ} (byte : ℕ) → copper x n ≡ not (eqb byte 0) → LastAbove copper x n a → LastAbove copper x (n + 1) (last_with byte (n + 1) a)
  above_more {n} {a} byte here s = go (eqb byte 0) here
    where
      go : (t : Bool) → copper x n ≡ not t → LastAbove copper x (n + 1) (cond t a (n + 1))
      go true e = record {
        on = omega (arith, s.on);
        is_copper = s.is_copper;
        bare = λ j l m. elim (ℕ_discrete j n) [ yes q ↦ ap (copper x) q ∙ e | no q ↦ s.bare j l (omega arith) ];
      }
      go false e = record { on = omega arith; is_copper = λ l. ap (copper x) (omega arith) ∙ e; bare = λ j l m. absurd (omega arith) }

  pub upcoming_none : {h : ℕ} → Upcoming copper h x 0 0
  upcoming_none = record { on = omega arith; is_copper = λ l. absurd (omega arith); bare = λ j l m. absurd (omega arith) }

  module _ {h y : ℕ} where
    -- farther down the same copper comes
    pub upcoming_later : {z b : ℕ} → y ≤ z → Upcoming copper h x y b → Upcoming copper h x z b
    upcoming_later l u = record { on = u.on; is_copper = u.is_copper; bare = λ j m k. u.bare j (omega arith) k }

    looked_more : {r b : ℕ} (byte : ℕ) → y ≤ r → r < h → copper x r ≡ not (eqb byte 0) → LookedTo copper h x y r b
        → LookedTo copper h x y (r + 1) (next_with y byte (r + 1) b)
    looked_more {r} {b} byte l m here s = go (leb b y) refl (eqb byte 0) here
      where
        go : (t : Bool) → leb b y ≡ t → (u : Bool) → copper x r ≡ not u → LookedTo copper h x y (r + 1) (cond (t && not u) (r + 1) b)
        go true o true e = record {
          upcoming = s.upcoming;
          none_yet = λ p j k q. elim (ℕ_discrete j r) [ yes i ↦ ap (copper x) i ∙ e | no i ↦ s.none_yet p j k (omega arith) ];
        }
        go true o false e = record {
          upcoming = record {
            on = omega arith;
            is_copper = λ p q. ap (copper x) (omega arith) ∙ e;
            bare = λ j p q. s.none_yet (leb-true b y o) j p (omega arith);
          };
          none_yet = λ p. absurd (omega arith);
        }
        go false o u e = record { upcoming = s.upcoming; none_yet = λ p. absurd (omega (arith, leb-false b y o)) }

    -- a column that looks for another copper finds it below row r
    pub looked_found : {r b c : ℕ} → y ≤ r → b ≤ y → LookedTo copper h x y r b → Upcoming copper h x r c → r < c → FirstBelow copper h x y c
    looked_found {r} l m s u k = record {
      upcoming = record {
        on = u.on;
        is_copper = u.is_copper;
        bare = λ j p q. elim (dec_lt j r) [ yes i ↦ s.none_yet m j p i | no i ↦ u.bare j (omega arith) q ];
      };
      ahead = omega arith;
    }

-- the search in one column
module _ {copper : Mask} {h x r : ℕ} where
  pub column-found : {j : ℕ} → r ≤ j → j < h → copper x j ≡ true → ((i : ℕ) → r ≤ i → i < j → copper x i ≡ false)
      → Upcoming copper h x r (j + 1) × (r < j + 1)
  column-found l m e none = (record { on = omega arith; is_copper = λ p q. ap (copper x) (omega arith) ∙ e; bare = λ i p q. none i p (omega arith) }, omega arith)

  pub column-none : r ≤ h → ((i : ℕ) → r ≤ i → i < h → copper x i ≡ false) → Upcoming copper h x r (h + 1) × (r < h + 1)
  column-none l none = (record { on = omega arith; is_copper = λ p q. absurd (omega arith); bare = λ i p q. none i p (omega arith) }, omega arith)

-- ---- a row of all columns

module _ (sheet : List ℕ) (w : ℕ) where
  pub row_passed : {y : ℕ} {above above' : List ℕ} → LastAboves (copper_of sheet w) w y above
      → RowWritten 0 w (λ x. last_with (get_or sheet (y * w + x) 0) (y + 1) (get_or above x 0)) above above' → LastAboves (copper_of sheet w) w (y + 1) above'
  row_passed {y} s r = record {
    at = λ x l. let e : 0 + x ≡ x = omega arith in
        rw (rw e at (r.here x l)) (above_more (get_or sheet (y * w + x) 0) (byte-copper sheet w x y) (s.at x l));
  }

  pub row_looked : {h y r : ℕ} {below below' : List ℕ} → y ≤ r → r < h → LookedTos (copper_of sheet w) w h y r below
      → RowWritten 0 w (λ x. next_with y (get_or sheet (r * w + x) 0) (r + 1) (get_or below x 0)) below below'
      → LookedTos (copper_of sheet w) w h y (r + 1) below'
  row_looked {r = r} a b s k = record {
    at = λ x l. let e : 0 + x ≡ x = omega arith in
        rw (rw e at (k.here x l)) (looked_more (get_or sheet (r * w + x) 0) a b (byte-copper sheet w x r) (s.at x l));
  }

module _ {copper : Mask} {w h y : ℕ} {below : List ℕ} where
  pub looked_none : Upcomings copper w h y below → LookedTos copper w h y y below
  looked_none u = record { at = λ x l. record { upcoming = u.at x l; none_yet = λ p j k q. absurd (omega arith) } }

  -- none looks for another copper: all have theirs
  pub all_settled : {r : ℕ} → LookedTos copper w h y r below → count_below w (λ x. outdated y (get_or below x 0)) ≡ 0 → FirstBelows copper w h y below
  all_settled s e = record {
    at = λ x l. record {
      upcoming = (s.at x l).upcoming;
      ahead = leb-false (get_or below x 0) y (count_none w (λ z. outdated y (get_or below z 0)) e x l);
    };
  }

-- one more is counted where the flag is set
pub count_flag : (n : ℕ) (t : Bool) → (n + bool_byte t ≡ cond t (n + 1) n) × (bool_byte t ≤ 1)
count_flag n true = (refl, omega arith)
count_flag n false = (omega arith, omega arith)

-- the columns are counted in the front of the list
pub outdated_front : (w y : ℕ) (below : List ℕ) → w ≤ length below
    → count_below (length (take w below)) (λ x. outdated y (get_or (take w below) x 0)) ≡ count_below w (λ x. outdated y (get_or below x 0))
outdated_front w y below l =
    rw (length-take-le w below l)
    (count_same w (λ x. outdated y (get_or below x 0)) (λ x. outdated y (get_or (take w below) x 0)) (λ x m. rw (get_or-take w below x 0 m)))
