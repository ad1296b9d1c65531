-- A pass over the rows: how it starts, one row more, how it ends; and the two passes together, which rebuild the sheet.
-- Assumes nothing.
use mathlib.Core.Path.{◌≡◌, refl, sym, ap, ◌∙◌}
use mathlib.Core.Logic.{◌≢◌}
use mathlib.Core.Bool.{Bool, true, false, cond, ◌||◌, or-true}
use mathlib.Core.List.{List}
use Prim.Native.Nat.{ℕ, ◌+◌, ◌-◌, ◌*◌, ◌<◌, ◌≤◌}
use native.Mathlib.Decide.{dec_lt, ℕ_discrete}
use native.Mathlib.Numerals.{add-one}
use native.Mathlib.Omega.{arith}
use lib.Dec.{ltb}
use lib.IntN.{ℤ}
use lib.ListN.{length, get_or}
use borrow.Author.Tests.{le-ltb}
use Rattle.raster.specs.Distance.{gap}
use Rattle.raster.specs.Loop.{any_below}
use Rattle.raster.specs.LoopLaws.{any_found, any-true}
use Rattle.raster.specs.Pixels.{index}
use Rattle.raster.specs.PixelsLaws.{pixels_is, index-inside}
use Rattle.raster.specs.Rows.{RowWritten}
use Rattle.raster.specs.Tests.{same}
use Rattle.raster.proofs.Rows.{row_other}
use Rattle.envelope.specs.Stack.{holder, Envelope}
use Rattle.rebuild.specs.Rebuild.{covers, covered, rebuilt}
use Rattle.rebuild.specs.Passes.{pass_row, row_covers, Priced, hit_by, RowRaised, Passed}
use Rattle.rebuild.proofs.Raising.{raised-same}
use Rattle.rebuild.proofs.Covering.{hit_line, turns_apart}

-- one turn of a pass has one row
rows_differ : (up : Bool) (h t k : ℕ) → t < h → k < h → k ≢ t → pass_row up h k ≢ pass_row up h t
rows_differ true h t k a b n e = n (omega arith)
rows_differ false h t k a b n e = n e

module _ (m : List ℤ) (w h : ℕ) (marks : List ℕ) (up : Bool) where
  -- the pixel x of the k-th row is covered by one of the first n rows of the pass
  pub reached : (x n k : ℕ) → Bool
  reached x n k = any_below n (λ j. row_covers m w h marks x (pass_row up h k) (pass_row up h j))

  -- the t-th row, y: raised by the stack's holders, it is raised by what the row covers; and what is marked
  pub row_passed : (y : ℕ) {t : ℕ} {cost site start : List ℕ} {c : ℕ} {r s o q : List ℕ} → y ≡ pass_row up h t → w ≤ 2048
      → Priced m marks (y * w) w cost → Envelope cost w site start c
      → RowRaised t h 0 w (λ x. hit_by cost t x (holder site start c x)) r s
      → RowWritten (y * w) w (λ x. cond (ltb t (get_or s x 0)) 1 (get_or o (y * w + x) 0)) o q
      → RowRaised t h 0 w (λ x k. row_covers m w h marks x (pass_row up h k) (pass_row up h t)) r s
      × RowWritten (pass_row up h t * w) w (λ x. cond (ltb t (get_or s x 0)) 1 (get_or o (pass_row up h t * w + x) 0)) o q
  row_passed y {t} {cost} {site} {start} {c} {r} {s} {o} {q} e few p b a k = rw (← e) (covering, k)
    where
      covering : RowRaised t h 0 w (λ x k. row_covers m w h marks x (pass_row up h k) y) r s
      covering = record {
        long = a.long;
        here = λ x u l. raised-same
            (λ k i j.
            sym
            (ap (λ (s : ℕ). hit_by cost t x s k) (b.holds x l)
            ∙ hit_line h y p x (pass_row up h k) t k few (turns_apart up h t k i j ∙ ap (gap (pass_row up h k)) (sym e))))
            (a.here x u l);
        low_kept = a.low_kept;
        high_kept = a.high_kept;
      }

  -- after the first t rows
  pub record Passing (before : List ℕ) (t : ℕ) (out reach : List ℕ) : Type 0 where
    pub on : t ≤ h
    pub long : length out ≡ length before
    pub ahead : (x k : ℕ) → x < w → t ≤ k → k < h → ltb k (get_or reach x 0) ≡ reached x t k
    pub done : (x k : ℕ) → x < w → k < t → get_or out (index w x (pass_row up h k)) 0 ≡ cond (reached x (k + 1) k) 1 (get_or before (index w x (pass_row up h k)) 0)
    pub rest : (x k : ℕ) → x < w → t ≤ k → k < h → get_or out (index w x (pass_row up h k)) 0 ≡ get_or before (index w x (pass_row up h k)) 0

  module _ {before : List ℕ} where
    pub pass_none : {reach : List ℕ} → ((x : ℕ) → x < w → get_or reach x 0 ≡ 0) → Passing before 0 before reach
    unfolding reached any_below
    pass_none z = record {
      on = omega arith;
      long = refl;
      ahead = λ x k a b l. rw (z x a) (le-ltb k 0 (omega arith));
      done = λ x k a b. absurd (omega arith);
      rest = λ x k a b l. refl;
    }

    module _ {t : ℕ} {o q r s : List ℕ} (p : Passing before t o r) (below : t < h)
        (raised : RowRaised t h 0 w (λ x k. row_covers m w h marks x (pass_row up h k) (pass_row up h t)) r s)
        (marked : RowWritten (pass_row up h t * w) w (λ x. cond (ltb t (get_or s x 0)) 1 (get_or o (pass_row up h t * w + x) 0)) o q)
      where
        more : (x k : ℕ) → x < w → t ≤ k → k < h → ltb k (get_or s x 0) ≡ reached x (t + 1) k
        unfolding reached any_below
        more x k a b l = (raised.here x (omega arith) a).says k b l ∙ rw (p.ahead x k a b l, add-one t)

        pub pass_more : Passing before (t + 1) q s
        pass_more = record {
          on = omega arith;
          long = marked.long ∙ p.long;
          ahead = λ x k a b l. more x k a (omega arith) l;
          done = λ x k a l. elim (ℕ_discrete k t) [
            | yes e ↦ rw e (marked.here x a ∙ rw (more x t a (omega arith) below, p.rest x t a (omega arith) below))
            | no n ↦
                row_other w (pass_row up h t) marked x (pass_row up h k) a (rows_differ up h t k below (omega arith) n)
                ∙ p.done x k a (omega arith)
          ];
          rest = λ x k a b l.
              row_other w (pass_row up h t) marked x (pass_row up h k) a (rows_differ up h t k below l (omega arith))
              ∙ p.rest x k a (omega arith) l;
        }

    pub pass_all : {t : ℕ} {o r : List ℕ} → Passing before t o r → h ≤ t → Passed m w h marks up before o
    unfolding reached
    pass_all p l = record { long = p.long; here = λ x k a b. p.done x k a (omega arith) }

-- ---- both passes

cond_or : (a b : Bool) → ◌≡◌ {A = ℕ} (cond a 1 (cond b 1 0)) (cond (a || b) 1 0)
cond_or true b = refl
cond_or false b = refl

or_either : (a b c : Bool) → (a ≡ true → c ≡ true) → (b ≡ true → c ≡ true) → a || b ≡ true → c ≡ true
or_either true b c f g e = f refl
or_either false b c f g e = g e

module _ (m : List ℤ) (w h : ℕ) (marks : List ℕ) where
  module _ (x y : ℕ) where
    -- a row from y on covers (x, y), as the pass upwards finds it, or one down to y, as the pass downwards does
    under : Bool
    under = any_below (h - 1 - y + 1) (λ j. row_covers m w h marks x y (h - 1 - j))

    above : Bool
    above = any_below (y + 1) (λ j. row_covers m w h marks x y j)

    -- those are all rows
    whole : (j : ℕ) → j < h → row_covers m w h marks x y j ≡ true → covered m w h marks x y ≡ true
    unfolding covered row_covers
    whole j l e =
        let f = any_found w (λ i. covers m w h marks x y i j) e in
        any-true w (λ i. any_below h (λ j. covers m w h marks x y i j)) f.witness f.below
        (any-true h (λ j. covers m w h marks x y f.witness j) j l f.passes)

    part : covered m w h marks x y ≡ true → under || above ≡ true
    unfolding covered row_covers under above
    part e =
        let f = any_found w (λ i. any_below h (λ j. covers m w h marks x y i j)) e in
        let g = any_found h (λ j. covers m w h marks x y f.witness j) f.passes in
        let n = any-true w (λ i. covers m w h marks x y i g.witness) f.witness f.below g.passes in
        elim (dec_lt y g.witness) [
          | yes q ↦
              let z : h - 1 - (h - 1 - g.witness) ≡ g.witness = omega (arith, g.below) in
              let u = any-true (h - 1 - y + 1) (λ j. row_covers m w h marks x y (h - 1 - j)) (h - 1 - g.witness) (omega (arith, g.below)) (rw z n) in
              rw u
          | no q ↦ let u = any-true (y + 1) (λ j. row_covers m w h marks x y j) g.witness (omega arith) n in rw u (or-true under)
        ]

    both : y < h → under || above ≡ covered m w h marks x y
    unfolding under above
    both l =
        same (under || above) (covered m w h marks x y)
        (or_either under above (covered m w h marks x y)
        (λ e. let f = any_found (h - 1 - y + 1) (λ j. row_covers m w h marks x y (h - 1 - j)) e in whole (h - 1 - f.witness) (omega arith) f.passes)
        (λ e. let f = any_found (y + 1) (λ j. row_covers m w h marks x y j) e in whole f.witness (omega (arith, f.below)) f.passes))
        part

  pub passes_rebuild : {a b c : List ℕ} → length a ≡ h * w → ((p : ℕ) → p < h * w → get_or a p 0 ≡ 0)
      → Passed m w h marks false a b → Passed m w h marks true b c → c ≡ rebuilt m w h marks
  unfolding rebuilt under above
  passes_rebuild {a} {b} {c} long zero down up =
      pixels_is w h (λ x y. cond (covered m w h marks x y) 1 0) c 0 (up.long ∙ down.long ∙ long) pixel
    where
      pixel : (x y : ℕ) → x < w → y < h → get_or c (index w x y) 0 ≡ cond (covered m w h marks x y) 1 0
      pixel x y i j =
          let z : h - 1 - (h - 1 - y) ≡ y = omega arith in
          let u = rw z at (up.here x (h - 1 - y) i (omega arith)) in
          u
          ∙ rw (down.here x y i j, zero (index w x y) (index-inside w x y i h j), ← both x y j) (cond_or (under x y) (above x y))
