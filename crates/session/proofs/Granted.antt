-- What a sound session says, and what a table of refusals that answers 0 grants the effect of its call: slices of the right lengths, numbers within
-- their limits.
-- Assumes nothing.
use mathlib.Core.Path.{◌≡◌, refl, sym, ◌∙◌}
use mathlib.Core.Bool.{Bool, true, false, ◌&&◌, ◌||◌, not}
use mathlib.Core.List.{List}
use Prim.Native.Nat.{ℕ, ◌+◌, ◌*◌, ◌≤◌, ◌<◌}
use native.Mathlib.Omega.{arith}
use lib.Dec.{eqb, leb, ltb}
use lib.IntN.{ℤ}
use lib.ListN.{length}
use borrow.Author.Tests.{leb-true, ltb-true, leb-false, ltb-false, eqb-true, not-true, not-false}
use Rattle.raster.specs.Limits.{max_side, side, max_q}
use Rattle.raster.specs.Refusal.{first_of}
use Rattle.raster.specs.RefusalLaws.{none-holds, last-fails, last-holds}
use Rattle.raster.specs.Tests.{and_left, and_right, or_left, or_right}
use Rattle.exact.specs.Nearest.{scratch_need}
use Rattle.probe.specs.Points.{point_off, rows_fall}
use Rattle.cutter.specs.Kinds.{Maps, has_pixels}
use Rattle.cutter.specs.Gates.{known_engine, OnSheet, may_stand, leaves_sheet, blocked}
use Rattle.cutter.proofs.Walk.{on_sheet_lem}
use Rattle.session.specs.declared.Session.{Session}
use Rattle.session.specs.State.{cutter_sound, map_sound, sheet_sound, sound, active, cutter_of, own_cutter}
use Rattle.session.specs.Refusals.{not_sheet, not_map, not_map_by, short_scratch, open_table, fill_table, build_table, build_table_by, place_rows, place_table, run_rows, run_table, resize_table, resize_table_by, read_table, probe_table}

both : (a b : Bool) → a && b ≡ true → (a ≡ true) × (b ≡ true)
both a b e = (and_left a b e, and_right a b e)

-- ---- what a sound session says

-- an open sheet's sides are within their limits
pub record Limited (s : Session) : Type 0 where
  pub some : 0 < s.width
  pub wide : s.width ≤ max_side
  pub high : s.height ≤ max_side

pub active_sides : (s : Session) → active s ≡ true → side s.width && side s.height ≡ true
unfolding sound sheet_sound
active_sides s e = let o = both s.opened _ e in rw o.0 at (and_left (sheet_sound s) _ o.1)

pub active-limits : (s : Session) → active s ≡ true → Limited s
active-limits s e =
    let sides = both (side s.width) _ (active_sides s e) in
    let across = both (leb 1 s.width) _ sides.0 in
    record { some = leb-true _ _ across.0; wide = leb-true _ _ across.1; high = leb-true _ _ (and_right (leb 1 s.height) _ sides.1) }

-- a lowered cutter is on the sheet over a current map, its q within the limit
pub record Lowered (s : Session) : Type 0 where
  pub current : s.current ≡ true
  pub across : s.x < s.width
  pub down : s.y < s.height
  pub small : s.q ≤ max_q

pub lowered_says : (s : Session) → sound s ≡ true → s.lowered ≡ true → Lowered s
unfolding sound cutter_sound
lowered_says s fine l =
    let part = and_left (cutter_sound s) _ (and_right (map_sound s) _ (and_right (sheet_sound s) _ fine)) in
    let all = both s.current _ (rw l at part) in
    let rest = both (ltb s.x s.width && ltb s.y s.height) _ all.1 in
    let on = both (ltb s.x s.width) _ rest.0 in
    record { current = all.0; across = ltb-true _ _ on.0; down = ltb-true _ _ on.1; small = leb-true _ _ rest.1 }

-- ---- open

pub open_granted : (sheet : List ℕ) (w h : ℕ) → first_of (open_table sheet w h) ≡ 0 → (side w && side h ≡ true) × (length sheet ≡ h * w)
unfolding open_table
open_granted sheet w h done = let f = none-holds _ refl done in (not-false _ (f 0), eqb-true _ _ (not-false _ (f 1)))

-- ---- paint and erase

pub record Filling (s : Session) (sheet : List ℕ) (x y cols rows : ℕ) : Type 0 where
  pub open_sheet : active s ≡ true
  pub held : length sheet ≡ s.height * s.width
  pub across : x + cols ≤ s.width
  pub down : y + rows ≤ s.height

pub fill_granted : (s : Session) (sheet : List ℕ) (x y cols rows : ℕ) {answer : ℕ}
    → answer ≡ first_of (fill_table s sheet x y cols rows) → answer ≡ 0 → Filling s sheet x y cols rows
unfolding fill_table
fill_granted s sheet x y cols rows table done =
    let f = none-holds _ refl (sym table ∙ done) in
    let outside = or_right (eqb cols 0 || eqb rows 0) _ (f 2) in
    record {
      open_sheet = not-false _ (f 0);
      held = eqb-true _ _ (not-false _ (f 1));
      across = ltb-false _ _ (or_left (ltb s.width (x + cols)) _ outside);
      down = ltb-false _ _ (or_right (ltb s.width (x + cols)) _ outside);
    }

-- ---- build

pub record Building (s : Session) (sheet : List ℕ) (m : Maps) (scratch : List ℤ) (engine : ℕ) : Type 0 where
  pub open_sheet : active s ≡ true
  pub held : length sheet ≡ s.height * s.width
  pub mapped : has_pixels engine (s.height * s.width) m ≡ true
  pub spare : eqb engine 1 && short_scratch s scratch ≡ false
  pub known : known_engine engine ≡ true

pub build_granted : (s : Session) (sheet : List ℕ) (m : Maps) (scratch : List ℤ) (e : ℕ) {answer : ℕ}
    → answer ≡ first_of (build_table s sheet m scratch e) → answer ≡ 0 → Building s sheet m scratch e
unfolding build_table build_table_by
build_granted s sheet m scratch e table done =
    let f = none-holds _ refl (sym table ∙ done) in
    let others = or_right (not_sheet s sheet) _ (f 1) in
    record {
      open_sheet = not-false _ (f 0);
      held = eqb-true _ _ (not-false _ (or_left (not_sheet s sheet) _ (f 1)));
      mapped = not-false _ (or_left (not_map_by e s m) _ others);
      spare = or_right (not_map_by e s m) _ others;
      known = not-false _ (f 2);
    }

-- ---- place: as far as the gate

pub record Placing (s : Session) (m : Maps) (x y q : ℕ) : Type 0 where
  pub open_sheet : active s ≡ true
  pub held : has_pixels s.engine (s.height * s.width) m ≡ true
  pub small : q ≤ max_q
  pub across : x < s.width
  pub down : y < s.height
  pub current : s.current ≡ true

pub place_granted : (s : Session) (m : Maps) (x y q : ℕ) {answer : ℕ}
    → answer ≡ first_of (place_rows s m x y q) → answer ≡ 0 → Placing s m x y q
unfolding place_rows
place_granted s m x y q table done =
    let f = none-holds _ refl (sym table ∙ done) in
    record {
      open_sheet = not-false _ (f 0);
      held = not-false _ (f 1);
      small = ltb-false _ _ (f 2);
      across = leb-false _ _ (or_left (leb s.width x) _ (f 3));
      down = leb-false _ _ (or_right (leb s.width x) _ (f 3));
      current = not-false _ (f 4);
    }

module _ (s : Session) (m : Maps) (x y q : ℕ) where
  -- the whole table answers 0, or 34
  pub place_done : first_of (place_table s m x y q) ≡ 0 → Placing s m x y q × (may_stand (cutter_of s x y q) m ≡ true)
  unfolding place_table place_rows
  place_done z =
      let r = last-fails (not (may_stand (cutter_of s x y q) m)) 34 (omega arith) (place_rows s m x y q) refl z in
      (place_granted s m x y q refl r.0, not-false _ r.1)

  pub place_stopped : first_of (place_table s m x y q) ≡ 34 → Placing s m x y q × (may_stand (cutter_of s x y q) m ≡ false)
  unfolding place_table place_rows
  place_stopped z =
      let r = last-holds (not (may_stand (cutter_of s x y q) m)) 34 (omega arith) (place_rows s m x y q) refl z in
      (place_granted s m x y q refl r.0, not-true _ r.1)

-- ---- run: as far as the gates

pub record RunGranted (s : Session) (m : Maps) (direction n : ℕ) : Type 0 where
  pub open_sheet : active s ≡ true
  pub lowered : s.lowered ≡ true
  pub cutter : Lowered s
  pub inside : leaves_sheet (own_cutter s) direction n ≡ false
  pub on : OnSheet (own_cutter s) m direction n

pub run_granted : (s : Session) (m : Maps) (d n : ℕ) {answer : ℕ} → answer ≡ first_of (run_rows s m d n) → answer ≡ 0 → RunGranted s m d n
unfolding run_rows
run_granted s m d n table done =
    let f = none-holds _ refl (sym table ∙ done) in
    let cutter = lowered_says s (and_right s.opened _ (not-false _ (f 0))) (not-false _ (f 3)) in
    let known = ltb-false 7 d (or_left (ltb 7 d) _ (f 2)) in
    record {
      open_sheet = not-false _ (f 0);
      lowered = not-false _ (f 3);
      cutter = cutter;
      inside = f 4;
      on = on_sheet_lem (own_cutter s) d known cutter.across cutter.down n (not-false _ (f 1)) (f 4);
    }

module _ (s : Session) (m : Maps) (d n : ℕ) where
  -- the whole table answers 0, or 34
  pub run_done : first_of (run_table s m d n) ≡ 0 → RunGranted s m d n × (blocked (own_cutter s) m d n ≡ false)
  unfolding run_table run_rows
  run_done z =
      let r = last-fails (blocked (own_cutter s) m d n) 34 (omega arith) (run_rows s m d n) refl z in
      (run_granted s m d n refl r.0, r.1)

  pub run_stopped : first_of (run_table s m d n) ≡ 34 → RunGranted s m d n × (blocked (own_cutter s) m d n ≡ true)
  unfolding run_table run_rows
  run_stopped z =
      let r = last-holds (blocked (own_cutter s) m d n) 34 (omega arith) (run_rows s m d n) refl z in
      (run_granted s m d n refl r.0, r.1)

-- ---- expand and shrink

pub record Resizing (s : Session) (sheet : List ℕ) (map scratch : List ℤ) (q : ℕ) : Type 0 where
  pub open_sheet : active s ≡ true
  pub held : length sheet ≡ s.height * s.width
  pub mapped : length map ≡ 2 * (s.height * s.width)
  pub spare : scratch_need s.width ≤ length scratch
  pub small : q ≤ max_q

pub resize_granted : (s : Session) (sheet : List ℕ) (map scratch : List ℤ) (q : ℕ) {answer : ℕ}
    → answer ≡ first_of (resize_table s sheet map scratch q) → answer ≡ 0 → Resizing s sheet map scratch q
unfolding resize_table resize_table_by
resize_granted s sheet map scratch q table done =
    let f = none-holds _ refl (sym table ∙ done) in
    let others = or_right (not_sheet s sheet) _ (f 1) in
    record {
      open_sheet = not-false _ (f 0);
      held = eqb-true _ _ (not-false _ (or_left (not_sheet s sheet) _ (f 1)));
      mapped = eqb-true _ _ (not-false _ (or_left (not_map s map) _ others));
      spare = ltb-false _ _ (or_right (not_map s map) _ others);
      small = ltb-false _ _ (f 2);
    }

-- what expand and shrink below the session require
pub resize_requires : {s : Session} {sheet : List ℕ} {map scratch : List ℤ} {q : ℕ} → Resizing s sheet map scratch q
    → ((s.width ≤ 2048) × ((s.height ≤ 2048) × (q ≤ max_q)))
    × ((length sheet ≡ s.height * s.width) × ((length map ≡ 2 * (s.height * s.width)) × (scratch_need s.width ≤ length scratch)))
resize_requires {s} r = let l = active-limits s r.open_sheet in ((l.wide, (l.high, r.small)), (r.held, (r.mapped, r.spare)))

-- ---- skeleton and rebuild

pub record Reading (s : Session) (map : List ℤ) (wrong : Bool) : Type 0 where
  pub open_sheet : active s ≡ true
  pub held : length map ≡ 2 * (s.height * s.width)
  pub right : wrong ≡ false

pub read_granted : (s : Session) (map : List ℤ) (wrong : Bool) {answer : ℕ} → answer ≡ first_of (read_table s map wrong) → answer ≡ 0 → Reading s map wrong
unfolding read_table
read_granted s map wrong table done =
    let f = none-holds _ refl (sym table ∙ done) in
    record {
      open_sheet = not-false _ (f 0);
      held = eqb-true _ _ (not-false _ (or_left (not_map s map) _ (f 1)));
      right = or_right (not_map s map) _ (f 1);
    }

-- ---- probe

pub record Probing (s : Session) (sheet points : List ℕ) (scratch : List ℤ) (out : List ℕ) : Type 0 where
  pub open_sheet : active s ≡ true
  pub held : length sheet ≡ s.height * s.width
  pub spare : scratch_need s.width ≤ length scratch
  pub paired : length points ≡ 2 * length out
  pub on : point_off s.width s.height (length out) points ≡ false
  pub level : rows_fall (length out) points ≡ false

pub probe_granted : (s : Session) (sheet points : List ℕ) (scratch : List ℤ) (out : List ℕ) {answer : ℕ}
    → answer ≡ first_of (probe_table s sheet points scratch out) → answer ≡ 0 → Probing s sheet points scratch out
unfolding probe_table
probe_granted s sheet points scratch out table done =
    let f = none-holds _ refl (sym table ∙ done) in
    let others = or_right (not_sheet s sheet) _ (f 1) in
    record {
      open_sheet = not-false _ (f 0);
      held = eqb-true _ _ (not-false _ (or_left (not_sheet s sheet) _ (f 1)));
      spare = ltb-false _ _ (or_left (short_scratch s scratch) _ others);
      paired = eqb-true _ _ (not-false _ (or_right (short_scratch s scratch) _ others));
      on = f 2;
      level = f 3;
    }
