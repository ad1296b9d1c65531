use mathlib.Core.Path.{◌≡◌, ap, ◌∙◌}
use mathlib.Core.Bool.{true, false, false≢true, true≢false}
use mathlib.Core.List.{List}
use Prim.Native.Nat.{ℕ, ◌+◌, ◌-◌, ◌<◌}
use native.Mathlib.Nat.{add-zero}
use native.Mathlib.Omega.{arith}
use lib.Dec.{ltb}
use lib.IntN.{ℤ, negsuc, pos}
use lib.ListN.{set}
use mir.Syntax.{w32}
use mir.Val.{to_z, of_z}
use mir.ValLaws.{to_z-of_z}
use borrow.Author.Tests.{lt-ltb, le-ltb}
use Rattle.raster.specs.Pixels.{index}
use Rattle.raster.specs.Map.{unlabelled_at}
use Rattle.candidate.specs.declared.KeyedVector.{KeyedVector}
use Rattle.candidate.specs.Holding.{AtPixel, Ahead, Given, is_given, offer_given}
use Rattle.candidate.proofs.Neighbours.{Unchanged}
use Rattle.candidate.proofs.OnCopper.{near-pixel}
use Rattle.scan.specs.Scan.{from_three}
use Rattle.scan.proofs.OnRow.{on_b}
use Rattle.scan.proofs.Fused.{Passing, passing_start, passing_turn, passing_end, near_before, row_before}
use Rattle.scan.proofs.Window.{IfThere, if_there_stays, three_offers}
use Rattle.scan.proofs.EightSedNeighbours.from_labelled.Goals as goal

-- a vector that is read is there; one that is not read is not
read : {o : ℤ} {c : KeyedVector} {m : List ℤ} {p : ℕ} → Ahead o c m p → unlabelled_at m p ≡ false → IfThere true o c m p
read a l = record { there = λ e. (a, l); none = λ e. absurd (true≢false e); given = a.given }

unread : {o : ℤ} {c : KeyedVector} {m : List ℤ} {p : ℕ} → Given c × (is_given c ≡ false) → IfThere false o c m p
unread n = record { there = λ e. absurd (false≢true e); none = λ e. n.1; given = n.0 }

-- one pixel more, and the row before is as it was
module _ {w y b : ℕ} {o : ℤ} {m₀ m n : List ℤ} {keys : List ℕ} {last left mid right : KeyedVector} {x : ℕ} (p : Passing w true y b o m₀ x last m keys) (on : x < w)
    (l : IfThere (ltb 0 x) o left m (index w (x - 1) b)) (c : IfThere true o mid m (index w x b)) (e : IfThere (ltb (x + 1) w) o right m (index w (x + 1) b))
    (written : n ≡ offer_given last (negsuc 0) (index w x y) (offer_given right (pos 1) (index w x y) (offer_given mid (pos 0) (index w x y) (offer_given left (negsuc 0) (index w x y) m)))) where
  three-written : n ≡ offer_given last (negsuc 0) (index w x y) (from_three w true y b o x m)
  three-written = written ∙ ap (offer_given last (negsuc 0) (index w x y)) (three_offers w y b p.rows.other o x on l c e)

  turned : {r : KeyedVector} → AtPixel r n (index w x y) → Passing w true y b o m₀ (x + 1) r n (set keys x r.key)
  turned held = passing_turn w true y b o p.rows.other p on three-written held

  same : (z : ℕ) → z < w → Unchanged m n (index w z b)
  same = row_before w true y b o p.rows.other p on three-written

pub ahead-mid-requires-clause-near : goal.ahead-mid-requires-clause-near
ahead-mid-requires-clause-near c =
    let r = c.requires in
    rw add-zero at (near-pixel r.row.sheet 0 c.args.before r.row.some (on_b r.row r.rows) (r.labelled 0 r.row.some))

pub loop-x-init : goal.loop-x-init
loop-x-init c =
    let a = c.args in
    let r = c.requires in
    record {
      passing = simp (to_z-of_z, c.ranges.o) (passing_start a.w true a.y a.before a.o r.row r.rows r.labelled c.nothing-last.ensures (omega (arith, r.row.sheet.wide)));
      behind = unread c.nothing-left.ensures;
      beside = rw add-zero (read c.ahead-mid.ensures (rw add-zero at (r.labelled 0 r.row.some)));
    }

pub ahead-right-requires-clause-near : goal.ahead-right-requires-clause-near
ahead-right-requires-clause-near c = near_before _ _ _ _ _ c.loop-x.invariant.passing (c.loop-x.x + 1) (omega arith)

pub loop-x-preserved : goal.loop-x-preserved
loop-x-preserved c =
    let t = c.three-last.ensures in
    let l = c.loop-x in
    let a = c.args in
    let i = l.invariant in
    let on : l.x < a.w = omega arith in
    let more : l.x + 1 < a.w = omega arith in
    let r = read c.ahead-right.ensures (i.passing.labelled (l.x + 1) more) in
    let g : IfThere (ltb (l.x + 1) a.w) (to_z w32 (of_z w32 a.o)) c.ahead-right.result l.map (index a.w (l.x + 1) a.before) = rw (lt-ltb (l.x + 1) a.w more) r in
    let e : l.x + 1 - 1 ≡ l.x = omega arith in
    let stays = same i.passing on i.behind i.beside g t.written in
    record {
      passing = turned i.passing on i.behind i.beside g t.written t.handed_on;
      behind = rw (lt-ltb 0 (l.x + 1) (omega arith), e) (if_there_stays (λ _. stays l.x on) i.beside);
      beside = if_there_stays (λ _. stays (l.x + 1) more) r;
    }

-- the last pixel has none to its right
pub returns : goal.returns
returns c =
    let t = c.three-last-2.ensures in
    let l = c.loop-x in
    let a = c.args in
    let n : l.x ≡ a.w - 1 = omega arith in
    let i = rw n at l.invariant in
    let on : a.w - 1 < a.w = omega (arith, c.requires.row.some) in
    let k : a.w - 1 + 1 ≡ a.w = omega arith in
    let g : IfThere (ltb (a.w - 1 + 1) a.w) (to_z w32 (of_z w32 a.o)) c.nothing.result l.map (index a.w (a.w - 1 + 1) a.before) =
    rw (le-ltb (a.w - 1 + 1) a.w (omega arith)) (unread c.nothing.ensures) in
    let r = simp (to_z-of_z, c.ranges.o) at (passing_end a.w true a.y a.before _ (rw k at (turned i.passing on i.behind i.beside g t.written t.handed_on))) in
    record { written = r.0; known = r.1 }
