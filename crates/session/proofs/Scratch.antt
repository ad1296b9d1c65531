-- Scratch: document 01 asks for W × H numbers of it, document 02 (C-22) for 4 × W. Where there are enough by both, build, expand and shrink go by
-- document 01's tables, and what they leave in session, sheet and maps does not depend on scratch.
-- Assumes nothing.
use mathlib.Core.Path.{◌≡◌, sym, ◌∙◌}
use mathlib.Core.Bool.{Bool, true, false}
use mathlib.Core.List.{List}
use Prim.Native.Nat.{ℕ, ◌*◌, ◌≤◌}
use native.Mathlib.Omega.{arith}
use lib.Dec.{ltb}
use lib.IntN.{ℤ}
use lib.ListN.{length}
use borrow.Author.Tests.{le-ltb}
use Rattle.raster.specs.Refusal.{Table, first_of}
use Rattle.exact.specs.Nearest.{scratch_need}
use Rattle.session.specs.declared.Session.{Session}
use Rattle.session.specs.State.{active}
use Rattle.session.specs.Refusals.{short_scratch, build_table, build_table_by, resize_table, resize_table_by}
use Rattle.session.specs.Lists.{Call, build, expand, shrink, World, answer, left, world_after}
use Rattle.session.proofs.Granted.{active-limits}

-- document 01's rule: fewer numbers than pixels
abbrev short_by_pixels : Session → List ℤ → Bool
short_by_pixels s scratch = ltb (length scratch) (s.height * s.width)

-- with that scratch the call answers by that table; and whatever scratch it is lent, on that answer it leaves the same session, sheet and maps
pub record GoesBy (t : Table) (c : List ℤ → Call) (scratch : List ℤ) (w : World) : Type 0 where
  pub answers : answer (c scratch) w ≡ first_of t
  pub leaves : (other : List ℤ) → world_after (c scratch) w ≡ left (c other) (first_of t) w

module _ (w : World) (scratch : List ℤ)
    (enough : scratch_need w.session.width ≤ length scratch) (by-pixels : w.session.height * w.session.width ≤ length scratch) where
  -- it is short by neither
  same : short_scratch w.session scratch ≡ short_by_pixels w.session scratch
  same = le-ltb _ _ enough ∙ sym (le-ltb _ _ by-pixels)

  pub build_by_either : (e : ℕ) → GoesBy (build_table_by (short_by_pixels w.session scratch) w.session w.sheet w.maps e) (build e) scratch w
  unfolding build_table
  build_by_either e = record { answers = rw same; leaves = λ other. rw same }

  pub expand_by_either : (q : ℕ) → GoesBy (resize_table_by (short_by_pixels w.session scratch) w.session w.sheet w.maps.pairs q) (expand q) scratch w
  unfolding resize_table
  expand_by_either q = record { answers = rw same; leaves = λ other. rw same }

  pub shrink_by_either : (q : ℕ) → GoesBy (resize_table_by (short_by_pixels w.session scratch) w.session w.sheet w.maps.pairs q) (shrink q) scratch w
  unfolding resize_table
  shrink_by_either q = record { answers = rw same; leaves = λ other. rw same }

-- 8,192 numbers, as `mill` has, are enough for every sheet
pub enough_for_all : (s : Session) (scratch : List ℤ) → active s ≡ true → 8192 ≤ length scratch → short_scratch s scratch ≡ false
enough_for_all s scratch e long = let l = active-limits s e in le-ltb (length scratch) (scratch_need s.width) (omega (arith, l.wide))
