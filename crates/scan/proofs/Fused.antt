-- A row in one pass: what each pixel takes from the row before, and at once from its left neighbour, as `from_labelled` of both engines does. It leaves what the
-- definition leaves, which takes all pixels from the row before first. For a pixel farther right and the sweep up to its left do not look at each other. On the way
-- it writes the keys of the row.
-- Assumes nothing.
use mathlib.Core.Path.{◌≡◌, refl, sym, ap, ◌∙◌}
use mathlib.Core.Logic.{◌≢◌}
use mathlib.Core.Bool.{Bool, true, false, cond, ◌&&◌}
use mathlib.Core.List.{List}
use Prim.Native.Nat.{ℕ, zero, suc, ◌+◌, ◌-◌, ◌≤◌, ◌<◌}
use native.Mathlib.Decide.{dec_lt}
use native.Mathlib.Omega.{arith}
use lib.Dec.{ltb}
use lib.IntN.{ℤ, pos, negsuc, nat_abs}
use lib.ListN.{length, set, length-set}
use borrow.Author.Tests.{ltb-true, lt-ltb, le-ltb}
use Rattle.raster.specs.Loop.{ascend}
use Rattle.raster.specs.Pixels.{index}
use Rattle.raster.specs.PixelsLaws.{index-one}
use Rattle.raster.specs.Limits.{max_side}
use Rattle.raster.specs.Map.{dx_at, dy_at, unlabelled_at}
use Rattle.raster.specs.Tests.{and_right}
use Rattle.candidate.specs.declared.KeyedVector.{KeyedVector}
use Rattle.candidate.specs.Candidate.{relax}
use Rattle.candidate.specs.OnSheet.{Moment}
use Rattle.candidate.specs.Holding.{AtPixel, is_given, Given, offer_given}
use Rattle.candidate.proofs.Neighbours.{Unchanged, elsewhere, elsewhere_if, relax_comm}
use Rattle.candidate.proofs.OnCopper.{on_sheet-later, near-pixel}
use Rattle.candidate.proofs.Held.{held-given, held-relax}
use Rattle.scan.specs.Scan.{from_left, from_right, from_three, from_row, rightward}
use Rattle.scan.specs.Rows.{RowOf, Beside, Labelled, Keys}
use Rattle.scan.proofs.Progress.{onward, next, either, some-within, grows}
use Rattle.scan.proofs.Sweeps.{right_step, to_right}
use Rattle.scan.proofs.Rows.{three_moment, by_middle}
use Rattle.scan.proofs.Keys.{keys_next}
use Rattle.scan.proofs.OnRow.{on_y, on_b, row-later, rows-later}
use Rattle.scan.proofs.Window.{other_row}

module _ (w : ℕ) (corners : Bool) (y b : ℕ) (o : ℤ) where
  -- pixel x from the row before; pixel k + 1 from its left neighbour
  abbrev down : ℕ → List ℤ → List ℤ
  down = from_three w corners y b o

  abbrev right : ℕ → List ℤ → List ℤ
  right = right_step w y

  -- the map when the pixels below x have had both
  abbrev pub passed : ℕ → List ℤ → List ℤ
  passed x m = ascend right (x - 1) (ascend down x m)

  -- the loop over the pixels: m is the map before pixel x, `last` what the pixel to its left holds, if there is one, and `keys` has the keys up to there
  pub record Passing (m₀ : List ℤ) (x : ℕ) (last : KeyedVector) (m : List ℤ) (keys : List ℕ) : Type 0 where
    pub done : m ≡ passed x m₀
    pub row : RowOf w y m
    pub rows : Beside w y b o m
    pub labelled : Labelled w b m
    pub given : Given last
    pub none : x ≡ 0 → is_given last ≡ false
    pub behind : 0 < x → AtPixel last m (index w (x - 1) y)
    pub room : w ≤ length keys
    pub known : Keys w y x keys m

  pub passing_start : {last : KeyedVector} {m : List ℤ} {keys : List ℕ} → RowOf w y m → Beside w y b o m → Labelled w b m → Given last × (is_given last ≡ false)
      → w ≤ length keys → Passing m 0 last m keys
  unfolding ascend
  passing_start row rows labelled nothing room = record {
    done = refl;
    row = row;
    rows = rows;
    labelled = labelled;
    given = nothing.0;
    none = λ e. nothing.1;
    behind = λ l. absurd (omega arith);
    room = room;
    known = λ z l. absurd (omega arith);
  }

  pub passing_end : {last : KeyedVector} {m₀ m : List ℤ} {keys : List ℕ} → Passing m₀ w last m keys
      → (m ≡ rightward w y (from_row w corners y b o m₀)) × Keys w y w keys m
  unfolding rightward from_row
  passing_end p = (p.done, p.known)

  -- the vectors of the row before are near
  pub near_before : {last : KeyedVector} {m₀ m : List ℤ} {keys : List ℕ} {x : ℕ} → Passing m₀ x last m keys → (z : ℕ) → z < w
      → (nat_abs (dx_at m (index w z b)) < max_side) × (nat_abs (dy_at m (index w z b)) < max_side)
  near_before p z l = near-pixel p.row.sheet z b l (on_b p.row p.rows) (p.labelled z l)

  module _ (rows : y ≢ b) where
    -- ---- a pixel farther right and a step of the sweep may change places

    module _ (k x : ℕ) (farther : k + 1 < x) (on : x < w) where
      one_comm : (z : ℕ) (ox : ℤ) → z < w → (m : List ℤ) → relax (index w x y) (index w z b) ox o (right k m) ≡ right k (relax (index w x y) (index w z b) ox o m)
      one_comm z ox l m =
          relax_comm (index w x y) (index w z b) ox o (index w (k + 1) y) (index w k y) (negsuc 0) (pos 0)
          (λ e. let n = (index-one w x y (k + 1) y on (omega arith) e).0 in omega arith)
          (other_row w y b rows (k + 1) z (omega arith) l)
          (λ e. let n = (index-one w k y x y (omega arith) on e).0 in omega arith)
          m

      -- a candidate that is made or left out
      some_comm : (t : Bool) (z : ℕ) (ox : ℤ) → (t ≡ true → z < w) → (m : List ℤ)
          → cond t (relax (index w x y) (index w z b) ox o (right k m)) (right k m) ≡ right k (cond t (relax (index w x y) (index w z b) ox o m) m)
      some_comm true z ox l m = one_comm z ox (l refl) m
      some_comm false z ox l m = refl

      down_comm : (m : List ℤ) → down x (right k m) ≡ right k (down x m)
      unfolding from_three
      down_comm m =
          ap (λ (n : List ℤ). from_right w corners y b o x (relax (index w x y) (index w x b) (pos 0) o n)) (some_comm (corners && ltb 0 x) (x - 1) (negsuc 0) (λ e. omega arith) m)
          ∙ ap (from_right w corners y b o x) (one_comm x (pos 0) on (from_left w corners y b o x m))
          ∙ some_comm (corners && ltb (x + 1) w) (x + 1) (pos 1) (λ e. ltb-true (x + 1) w (and_right corners _ e)) (relax (index w x y) (index w x b) (pos 0) o (from_left w corners y b o x m))

    -- what one pixel takes from the row before leaves the others
    down_elsewhere : (x : ℕ) (m : List ℤ) (q : ℕ) → q ≢ index w x y → Unchanged m (down x m) q
    unfolding from_three
    down_elsewhere x m q n =
        let k = from_left w corners y b o x m in
        let e = elsewhere_if (index w x y) (index w (x - 1) b) (negsuc 0) o m (corners && ltb 0 x) q (λ t. n) in
        let f = elsewhere (index w x y) (index w x b) (pos 0) o k q n in
        let g = elsewhere_if (index w x y) (index w (x + 1) b) (pos 1) o (relax (index w x y) (index w x b) (pos 0) o k) (corners && ltb (x + 1) w) q (λ t. n) in
        (g.0 ∙ f.0 ∙ e.0, g.1 ∙ f.1 ∙ e.1)

    all_comm : (n x : ℕ) → n < x → x < w → (m : List ℤ) → down x (ascend right n m) ≡ ascend right n (down x m)
    unfolding ascend
    all_comm zero x l on m = refl
    all_comm (suc n) x l on m = down_comm n x (omega arith) on (ascend right n m) ∙ ap (right n) (all_comm n x (omega arith) on m)

    -- ---- one pixel more

    passed_next : (x : ℕ) → 0 < x → x < w → (m : List ℤ) → passed (x + 1) m ≡ right (x - 1) (down x (passed x m))
    unfolding ascend
    passed_next x some on m =
        let e : x + 1 - 1 ≡ suc (x - 1) = omega arith in
        let f : x + 1 ≡ suc x = omega arith in
        rw (e, f) (ap (right (x - 1)) (sym (all_comm (x - 1) x (omega arith) on (ascend down x m))))

    -- ---- one turn of the loop

    module _ {m₀ m : List ℤ} {keys : List ℕ} {last : KeyedVector} {x : ℕ} (p : Passing m₀ x last m keys) (on : x < w) where
      abbrev h : ℕ
      h = p.row.sheet.height

      in-y : y < h
      in-y = on_y p.row

      in_b : b < h
      in_b = on_b p.row p.rows

      -- the map after the pixel has had both
      abbrev both : List ℤ
      both = cond (ltb 0 x) (right (x - 1) (down x m)) (down x m)

      down_moment : Moment w h m (down x m)
      down_moment = three_moment w h corners y b in-y in_b o p.rows.unit p.rows.step x on m

      right_moment : Moment w h (down x m) both
      right_moment = either (ltb 0 x) _ (λ e. next (to_right w h y in-y (x - 1) (let some = ltb-true 0 x e in omega arith)))

      -- the candidate of the vector in the hand is that of the left neighbour, if there is one
      swept : offer_given last (negsuc 0) (index w x y) (down x m) ≡ both
      swept = go (dec_lt 0 x)
        where
          go : Dec (0 < x) → offer_given last (negsuc 0) (index w x y) (down x m) ≡ both
          go (yes l) =
              let e : x - 1 + 1 ≡ x = omega arith in
              let q = p.behind l in
              let s = down_elsewhere x m (index w (x - 1) y) (λ z. let n = (index-one w (x - 1) y x y (omega arith) on z).0 in omega arith) in
              rw (lt-ltb 0 x l, e)
              (held-relax (on_sheet-later p.row.sheet down_moment) (x - 1) y (omega arith) in-y
              (record { dx = q.dx ∙ sym s.0; dy = q.dy ∙ sym s.1; keyed = q.keyed }) (index w x y) (negsuc 0))
          go (no l) = rw (le-ltb 0 x (omega arith), p.none (omega arith))

      done_next : both ≡ passed (x + 1) m₀
      unfolding ascend
      done_next = go (dec_lt 0 x)
        where
          go : Dec (0 < x) → both ≡ passed (x + 1) m₀
          go (yes l) = rw (lt-ltb 0 x l, p.done) (sym (passed_next x l on m₀))
          go (no l) = let e : x ≡ 0 = omega arith in rw (e, p.done, e)

      -- the pixel beside it in the row before labels it
      labels : unlabelled_at both (index w x y) ≡ false
      labels =
          let before = some-within m (index w x b) (p.labelled x on) in
          let here = by_middle w h corners y b in-y in_b o p.rows.unit p.rows.step (λ i j. true) p.row.sheet.wide x on m p.row.sheet.ends _ before in
          ((grows (λ i j. true) w h p.row.sheet.wide (on_sheet-later p.row.sheet down_moment).ends right_moment).keeps _ _ here).labelled

      -- pixels other than x are as they were
      turn_elsewhere : {n : List ℤ} → n ≡ offer_given last (negsuc 0) (index w x y) (down x m) → (q : ℕ) → q ≢ index w x y → Unchanged m n q
      turn_elsewhere e q other =
          let f = down_elsewhere x m q other in
          let g = elsewhere_if (index w (x - 1 + 1) y) (index w (x - 1) y) (negsuc 0) (pos 0) (down x m) (ltb 0 x) q
          (λ t. let k : x - 1 + 1 ≡ x = omega (arith, ltb-true 0 x t) in rw k other) in
          rw (e ∙ swept) (g.0 ∙ f.0, g.1 ∙ f.1)

      -- so is the row before
      pub row_before : {n : List ℤ} → n ≡ offer_given last (negsuc 0) (index w x y) (down x m) → (z : ℕ) → z < w → Unchanged m n (index w z b)
      row_before e z l = turn_elsewhere e (index w z b) (other_row w y b rows x z on l)

      pub passing_turn : {r : KeyedVector} {n : List ℤ} → n ≡ offer_given last (negsuc 0) (index w x y) (down x m) → AtPixel r n (index w x y)
          → Passing m₀ (x + 1) r n (set keys x r.key)
      passing_turn {r} {n} e held = record {
        done = e ∙ swept ∙ done_next;
        row = later;
        rows = rows-later p.row now p.rows;
        labelled = λ z l. ((grows (λ i j. true) w h p.row.sheet.wide p.row.sheet.ends now).keeps _ _ (some-within m (index w z b) (p.labelled z l))).labelled;
        given = (held-given later.sheet x y on (on_y later) held (rw (e ∙ swept) labels)).0;
        none = λ z. absurd (omega arith);
        behind = λ l. let f : x + 1 - 1 ≡ x = omega arith in rw f held;
        room = rw length-set p.room;
        known =
            keys_next w y x keys m n p.known
            (λ z l. turn_elsewhere e (index w z y) (λ q. let k = (index-one w z y x y (omega arith) on q).0 in omega arith)) (omega (arith, p.room)) held;
      }
        where
          now : Moment w h m n
          now = rw (e ∙ swept) (onward down_moment right_moment)

          later : RowOf w y n
          later = row-later p.row now
