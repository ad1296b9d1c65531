-- Demand 3: the theorem over all lists of calls and writes by something else, by induction over the list with the invariant of `Invariant`; and what it says of
-- lists of calls alone: the guarantee, in the workshop's words too, and the closest approach.
-- Assumes nothing.
use mathlib.Core.Path.{◌≡◌, refl, sym}
use mathlib.Core.Bool.{Bool, true, false, ◌&&◌, ◌||◌, true≢false}
use mathlib.Core.List.{List, [], ◌∷◌, map}
use Prim.Native.Nat.{ℕ}
use native.Mathlib.Omega.{arith}
use lib.Dec.{eqb}
use Rattle.cutter.specs.Kinds.{Maps}
use Rattle.session.specs.State.{fresh, closest_sound, cutter_sound, map_sound, sheet_sound, sound}
use Rattle.session.specs.Lists.{Call, opening, paint, erase, build, place, run, lift, expand, shrink, skeleton, rebuild, probe, aside, World, world, answer, left_by}
use Rattle.guarantee.specs.Board.{Board, blank}
use Rattle.guarantee.specs.Claims.{ClaimsHold, Guarantee, KeptFree, Workshop, Along, ApproachRecorded, TrueApproachRecorded, ClosestApproach, TrueApproach}
use Rattle.guarantee.specs.Writes.{Entry, call, overwrite, Stage, stage, is_build, after, Holds, HoldsAlong, GuaranteeAmidWrites}
use Rattle.guarantee.proofs.Approach.{no_approach}
use Rattle.guarantee.proofs.Invariant.{Inv, exact_approach}
use Rattle.guarantee.proofs.Steps.{
  StepHolds,
  open_step,
  paint_step,
  erase_step,
  build_step,
  place_step,
  run_step,
  run_free,
  lift_step,
  expand_step,
  shrink_step,
  skeleton_step,
  rebuild_step,
  probe_step,
  aside_step,
}

step : (c : Call) {b : Board} {w : World} {own : Bool} → Inv b w own → StepHolds c b w own
step (opening x y o) inv = open_step inv x y o
step (paint x y c r) inv = paint_step inv x y c r
step (erase x y c r) inv = erase_step inv x y c r
step (build e s) inv = build_step inv e s
step (place x y q) inv = place_step inv x y q
step (run d n) inv = run_step inv d n
step lift inv = lift_step inv
step (expand q s) inv = expand_step inv q s
step (shrink q s) inv = shrink_step inv q s
step (skeleton o) inv = skeleton_step inv o
step (rebuild m o) inv = rebuild_step inv m o
step (probe p s o) inv = probe_step inv p s o
step aside inv = aside_step inv

-- at the start
start : (sheet : List ℕ) (m : Maps) → Inv blank (world fresh sheet m) true
unfolding sound sheet_sound map_sound cutter_sound closest_sound
start sheet m = record {
  agree = record { width = refl; height = refl; engine = refl; cutter = refl; opened = refl; current = refl; copper = λ i j k l. absurd (omega arith) };
  fine = refl;
  owned = λ o. record { built = λ e. absurd (true≢false (sym e)); stands = λ e. absurd (true≢false (sym e)); approach = no_approach };
}

-- what the invariant says
says : {b : Board} {w : World} {own : Bool} → Inv b w own → Holds (stage b w own)
says inv = record {
  agree = inv.agree;
  kept_free = λ o lowered. ((inv.owned o).stands lowered, λ d n done. run_free inv d n o done);
  closest = λ o. (inv.owned o).approach;
  closest_true = exact_approach inv;
}

-- after a write session and sheet are as they were
written : {b : Board} {w : World} {own : Bool} (m : Maps) → Inv b w own → Inv b (world w.session w.sheet m) false
written m inv = record {
  agree = record {
    width = inv.agree.width;
    height = inv.agree.height;
    engine = inv.agree.engine;
    cutter = inv.agree.cutter;
    opened = inv.agree.opened;
    current = inv.agree.current;
    copper = inv.agree.copper;
  };
  fine = inv.fine;
  owned = λ o. absurd (true≢false (sym o));
}

holds : (es : List Entry) {b : Board} {w : World} {own : Bool} → Inv b w own → HoldsAlong es (stage b w own)
holds [] inv = says inv
holds (call c ∷ es) inv = let s = step c inv in (says inv, (s.claim, holds es s.next))
holds (overwrite m ∷ es) inv = (says inv, (tt, holds es (written m inv)))

-- whatever list of calls and writes
pub guarantee_amid_writes : GuaranteeAmidWrites
guarantee_amid_writes es sheet m = holds es (start sheet m)

-- ---- lists of calls alone

abbrev calls : List Call → List Entry
calls cs = map call cs

-- what holds along a list holds at its start
at_first : (cs : List Call) (t : Stage) → HoldsAlong (calls cs) t → Holds t
at_first [] t h = h
at_first (c ∷ cs) t h = h.0

-- without writes the maps stay the session's own
still-own : (c : Call) (t : Stage) → t.own ≡ true → (after (call c) t).own ≡ true
still-own c t o = go (eqb (answer c t.world) 0 && is_build c)
  where
    go : (u : Bool) → u || t.own ≡ true
    go true = refl
    go false = o

claims : (cs : List Call) (t : Stage) → t.own ≡ true → HoldsAlong (calls cs) t → ClaimsHold cs t.board t.world
claims [] t o h = tt
claims (c ∷ cs) t o h = let u = after (call c) t in (h.1.0 o, ((at_first cs u h.1.1).agree, claims cs u (still-own c t o) h.1.1))

free-at-last : (cs : List Call) (t : Stage) → t.own ≡ true → HoldsAlong (calls cs) t → KeptFree (left_by cs t.world)
free-at-last [] t o h = h.kept_free o
free-at-last (c ∷ cs) t o h = free-at-last cs (after (call c) t) (still-own c t o) h.1.1

along : (P : Board → World → Type 0) → ((t : Stage) → t.own ≡ true → Holds t → P t.board t.world)
    → (cs : List Call) (t : Stage) → t.own ≡ true → HoldsAlong (calls cs) t → Along P cs t.board t.world
along P what [] t o h = tt
along P what (c ∷ cs) t o h =
    let u = after (call c) t in
    (what u (still-own c t o) (at_first cs u h.1.1), along P what cs u (still-own c t o) h.1.1)

-- whatever list of calls: at every call the claim holds, and after it session and sheet agree with the board
pub guarantee : Guarantee
guarantee cs sheet m = claims cs _ refl (guarantee_amid_writes (calls cs) sheet m)

-- no lowered cutter stands on or passes a pixel within q of copper, or a point between two of a run
pub workshop : Workshop
workshop cs sheet m = free-at-last cs _ refl (guarantee_amid_writes (calls cs) sheet m)

-- after every call the least size met since the last placing is recorded
pub closest_approach : ClosestApproach
closest_approach cs sheet m = along ApproachRecorded (λ t o h. h.closest o) cs _ refl (guarantee_amid_writes (calls cs) sheet m)

-- on an exact map it is the least true squared distance
pub true_approach : TrueApproach
true_approach cs sheet m = along TrueApproachRecorded (λ t o h. h.closest_true o) cs _ refl (guarantee_amid_writes (calls cs) sheet m)
