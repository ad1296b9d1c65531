-- The sessions that calls hand back are sound, and what a sound session says.
-- Assumes nothing.
use mathlib.Core.Path.{◌≡◌, refl, sym, ◌∙◌}
use mathlib.Core.Bool.{Bool, true, false, cond, ◌&&◌, true≢false}
use Prim.Native.Nat.{ℕ, ◌<◌, ◌≤◌}
use lib.Dec.{eqb, leb}
use borrow.Author.Tests.{le-leb, lt-ltb, leb-true, not-true}
use Rattle.raster.specs.Limits.{side, max_q}
use Rattle.raster.specs.LoopLaws.{up_keeps}
use Rattle.raster.specs.Tests.{and_left, and_right, cond_ind}
use Rattle.cutter.specs.declared.Closest.{Closest}
use Rattle.cutter.specs.declared.Cutter.{Cutter}
use Rattle.cutter.specs.Closest.{nearer, closest_with, closest_along}
use Rattle.cutter.specs.Gates.{known_engine}
use Rattle.cutter.specs.Kinds.{Maps, unlabelled_in, size_in}
use Rattle.session.specs.declared.Session.{Session}
use Rattle.session.specs.State.{closest_sound, cutter_sound, map_sound, sheet_sound, sound, active, opened_as, stale, built_by, down_at, up_of}
use Rattle.session.proofs.Granted.{active_sides}

pub open_sound : (w h : ℕ) → side w && side h ≡ true → sound (opened_as w h) ≡ true
unfolding sound sheet_sound map_sound cutter_sound closest_sound
open_sound w h e = rw e

-- ---- a closest approach

-- where it has met none, it says so with the size 0
abbrev pub SaysNone : Closest → Type 0
SaysNone k = cond k.met true (eqb k.size 0) ≡ true

-- it does with one pixel more, and with those of a run
pub with_says_none : (e : ℕ) (m : Maps) (p : ℕ) (k : Closest) → SaysNone k → SaysNone (closest_with e m p k)
unfolding closest_with nearer
with_says_none e m p k n =
    cond_ind SaysNone (unlabelled_in e m p) (λ u. n) (λ u. cond_ind SaysNone (k.met && leb k.size (size_in e m p)) (λ l. n) (λ l. refl))

pub along-says-none : (c : Cutter) (m : Maps) (d n : ℕ) (k : Closest) → SaysNone k → SaysNone (closest_along c m d n k)
unfolding closest_along
along-says-none c m d n k s = up_keeps _ SaysNone n k (λ i l t. with_says_none _ m _ t) s

-- ---- what a sound session says

module _ (s : Session) (fine : sound s ≡ true) where
  sheet_part : sheet_sound s ≡ true
  unfolding sound
  sheet_part = and_left (sheet_sound s) _ fine

  map-part : map_sound s ≡ true
  unfolding sound
  map-part = and_left (map_sound s) _ (and_right (sheet_sound s) _ fine)

  closest_part : closest_sound s ≡ true
  unfolding sound
  closest_part = and_right (cutter_sound s) _ (and_right (map_sound s) _ (and_right (sheet_sound s) _ fine))

  -- a current map has a sheet
  pub current-active : s.current ≡ true → active s ≡ true
  unfolding sheet_sound
  current-active c = go s.opened refl
    where
      go : (t : Bool) → s.opened ≡ t → t && sound s ≡ true
      go true o = fine
      go false o = absurd (true≢false (sym c ∙ not-true _ (and_right (eqb s.height 0) _ (and_right (eqb s.width 0) _ (rw o at sheet_part)))))

  -- and a known engine
  pub known_engine_lem : s.current ≡ true → (1 ≤ s.engine) × (s.engine ≤ 6)
  unfolding map_sound
  known_engine_lem c =
      let e : leb 1 s.engine && leb s.engine 6 ≡ true = rw c at map-part in
      (leb-true 1 s.engine (and_left (leb 1 s.engine) _ e), leb-true s.engine 6 (and_right (leb 1 s.engine) _ e))

  pub up-sound : sound (up_of s) ≡ true
  unfolding sound sheet_sound map_sound cutter_sound closest_sound
  up-sound = rw (sheet_part, map-part, closest_part)

  -- its closest approach says so
  pub says_none : SaysNone s.closest
  unfolding closest_sound
  says_none = go s.closest.met refl
    where
      go : (t : Bool) → s.closest.met ≡ t → cond t true (eqb s.closest.size 0) ≡ true
      go true e = refl
      go false e = rw e at closest_part

  pub down-sound : (x y q : ℕ) (k : Closest) → SaysNone k
      → s.current ≡ true → x < s.width → y < s.height → q ≤ max_q → sound (down_at x y q k s) ≡ true
  unfolding sound sheet_sound map_sound cutter_sound closest_sound
  down-sound x y q k none c i j l = rw (sheet_part, map-part, c, lt-ltb x s.width i, lt-ltb y s.height j, le-leb q max_q l) none

-- ---- of an open sheet

module _ (s : Session) (open_sheet : active s ≡ true) where
  pub fine : sound s ≡ true
  fine = and_right s.opened _ open_sheet

  pub stale-sound : sound (stale s) ≡ true
  stale-sound = open_sound s.width s.height (active_sides s open_sheet)

  pub built_sound : (e : ℕ) → known_engine e ≡ true → sound (built_by e s) ≡ true
  unfolding sound sheet_sound map_sound cutter_sound closest_sound
  built_sound e k = rw (active_sides s open_sheet, k)
