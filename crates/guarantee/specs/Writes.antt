-- Demand 3 where something else writes a map (document 02, C-24): the claims of `Claims`, over lists that hold such writes between the calls.
--   Session and sheet agree with the board at every moment all the same. The claims on place and run, those between pixels and those on the closest approach
--   lapse with a write, and hold again from the next build that is done. `GuaranteeAmidWrites` says so of every list. `Guarantee`, `Workshop`, `ClosestApproach`
--   and `TrueApproach` are its case without writes.
-- Assumes nothing.
use Rattle.std.specs.Prelude.{Bool, true, false, ◌&&◌, ◌||◌, List, [], ◌∷◌, ◌≡◌, ℕ, eqb}
use Rattle.cutter.specs.Kinds.{Maps}
use Rattle.session.specs.State.{fresh}
use Rattle.session.specs.Lists.{Call, opening, paint, erase, build, place, run, lift, expand, shrink, skeleton, rebuild, probe, aside, World, world, answer, world_after}
use Rattle.guarantee.specs.Board.{Board, blank, feed}
use Rattle.guarantee.specs.Claims.{Claim, Agree, KeptFree, ApproachRecorded, TrueApproachRecorded}

-- an entry of a list: a call, or a write by something else that leaves both maps with any length and any contents. A read-back into the session's map is one.
pub data Entry : Type 0 where
  call : Call → Entry
  overwrite : Maps → Entry

-- where a list is between two entries: the board, what is handed on, and whether the maps are as the session's calls left them
pub record Stage : Type 0 where
  pub board : Board
  pub world : World
  pub own : Bool

abbrev pub stage : Board → World → (own : Bool) → Stage
stage b w own = record { board = b; world = w; own = own }

-- a build, whatever its engine
abbrev pub is_build : Call → Bool
is_build (opening w h o) = false
is_build (paint x y c r) = false
is_build (erase x y c r) = false
is_build (build e s) = true
is_build (place x y q) = false
is_build (run d n) = false
is_build lift = false
is_build (expand q s) = false
is_build (shrink q s) = false
is_build (skeleton out) = false
is_build (rebuild marks out) = false
is_build (probe points s out) = false
is_build aside = false

-- whether they are so after a call with its answer: a build that is done makes them so
abbrev pub own_after : Call → (answer : ℕ) → (own : Bool) → Bool
own_after c a own = (eqb a 0 && is_build c) || own

-- after an entry; a write by something else ends it
abbrev pub after : Entry → Stage → Stage
after (call c) t = let a = answer c t.world in stage (feed c a t.board) (world_after c t.world) (own_after c a t.own)
after (overwrite m) t = stage t.board (world t.world.session t.world.sheet m) false

-- what is claimed at an entry
abbrev pub ClaimAt : Entry → Stage → Type 0
ClaimAt (call c) t = t.own ≡ true → Claim c (answer c t.world) t.board
ClaimAt (overwrite m) t = Unit {0}

-- and between two
pub record Holds (t : Stage) : Type 0 where
  pub agree : Agree t.board t.world
  pub kept_free : t.own ≡ true → KeptFree t.world
  pub closest : t.own ≡ true → ApproachRecorded t.board t.world
  pub closest_true : t.own ≡ true → TrueApproachRecorded t.board t.world

-- at every entry of a list, before the first and after each
abbrev pub HoldsAlong : List Entry → Stage → Type 0
HoldsAlong [] t = Holds t
HoldsAlong (e ∷ es) t = Holds t × (ClaimAt e t × HoldsAlong es (after e t))

-- the theorem: from a fresh session, whatever sheet and maps hold, for every list of calls and writes
abbrev pub GuaranteeAmidWrites : Type 0
GuaranteeAmidWrites = (es : List Entry) (sheet : List ℕ) (m : Maps) → HoldsAlong es (stage blank (world fresh sheet m) true)
