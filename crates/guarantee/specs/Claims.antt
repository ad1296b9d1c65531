-- Demand 3: one claim about a whole list of calls, for all lists (document 01, "Lists of calls", and document 02, C-12 and C-20); and over the same lists the
-- closest approach (document 02, C-11).
--   At every call that is done, all of the board's copper is at squared distance above q from every pixel to which the call brings a lowered cutter of q,
--   those within a run too (`Safe`), and from every point between two pixels that divides a step of a run in a ratio of whole numbers (`SafeBetween`). After
--   it session and sheet agree with the board (`Agree`). A place or run answered 34 has a pixel that it tests with copper within the engine's fraction of q
--   (`Fair`). `Guarantee` says so of every list; `Workshop` says it of the session and sheet alone.
--   After every call the session has recorded the least size, on the current map, of the pixels visited since the last placing that was done
--   (`ClosestApproach`); on an exact map that is their least true squared distance (`TrueApproach`).
-- Assumes nothing.
use Rattle.std.specs.Prelude.{Bool, true, false, cond, not, ◌&&◌, List, [], ◌∷◌, ◌⊎◌, ◌≡◌, ℕ, ◌+◌, ◌*◌, ◌<◌, ◌≤◌, eqb, leb, ℤ, pos}
use Rattle.raster.specs.Distance.{apart, Copper, Clear, ClearBetween}
use Rattle.raster.specs.Pixels.{Mask, index}
use Rattle.raster.specs.Place.{is_pixel}
use Rattle.raster.specs.Sheet.{copper_of}
use Rattle.cutter.specs.Kinds.{Maps, unlabelled_in, size_in}
use Rattle.cutter.specs.declared.Closest.{Closest}
use Rattle.cutter.specs.Closest.{unmet, met_at}
use Rattle.cutter.specs.Directions.{walk}
use Rattle.session.specs.declared.Session.{Session}
use Rattle.session.specs.State.{fresh}
use Rattle.session.specs.Lists.{Call, place, run, World, world, answer, world_after, left_by}
use Rattle.guarantee.specs.Board.{BoardCutter, up, down, Board, blank, feed}

-- ---- what a call visits, and how it gets there

-- the call, made with this cutter, tests the pixel (x, y) for a cutter of q, and brings it there if it is done: place its pixel, run each that its single
-- steps reach after the start
pub data Visits : Call → BoardCutter → (x y q : ℕ) → Type 0 where
  at_place : (x y q : ℕ) (c : BoardCutter) → Visits (place x y q) c x y q
  at_step : (d n : ℕ) (start : ℤ × ℤ) (q step x y : ℕ) → 1 ≤ step → step ≤ n → walk d step start ≡ (pos x, pos y) → Visits (run d n) (down start q) x y q

-- the call, made with this cutter of q, takes it by one step from the pixel (x, y) to (u, v) if it is done: run by each of its single steps, the first from
-- where the cutter stands
pub data Travels : Call → BoardCutter → (x y u v q : ℕ) → Type 0 where
  by_step : (d n : ℕ) (start : ℤ × ℤ) (q i x y u v : ℕ) → i < n → walk d i start ≡ (pos x, pos y) → walk d (i + 1) start ≡ (pos u, pos v)
      → Travels (run d n) (down start q) x y u v q

-- ---- what is claimed at a call, the board being as it was before it

-- all of the board's copper is at squared distance above q from each pixel visited
abbrev pub Safe : Call → Board → Type 0
Safe c b = (x y q : ℕ) → Visits c b.cutter x y q → Clear b.copper b.width b.height x y q

-- and so it is from each point that divides, in a ratio of whole numbers, a step by which the call takes the cutter (document 02, C-20)
abbrev pub SafeBetween : Call → Board → Type 0
SafeBetween c b = (x y u v q : ℕ) → Travels c b.cutter x y u v q → ClearBetween b.copper b.width b.height x y u v q

-- squared distance e is at most q on the exact map, at most 169/144 of q on 8SED, at most twice q on 4SED, city block and chessboard, at most 5/4 of q on
-- chamfer
abbrev pub within_fraction : (engine e q : ℕ) → Bool
within_fraction n e q =
    cond (eqb n 1) (leb e q)
    (cond (eqb n 2) (leb (144 * e) (169 * q))
    (cond (eqb n 6) (leb (4 * e) (5 * q))
    (cond (leb 3 n && leb n 5) (leb e (2 * q)) false)))

-- some copper of the board is that near to (x, y)
pub record Close (b : Board) (q x y : ℕ) : Type 0 where
  pub column : ℕ
  pub row : ℕ
  pub copper : Copper b.copper b.width b.height column row
  pub fraction : within_fraction b.engine (apart x y column row) q ≡ true

-- so it is to some pixel visited
pub record Fair (c : Call) (b : Board) : Type 0 where
  pub x : ℕ
  pub y : ℕ
  pub q : ℕ
  pub visited : Visits c b.cutter x y q
  pub close : Close b q x y

-- demand 3 at one call, with C-20
pub record Claim (c : Call) (answer : ℕ) (b : Board) : Type 0 where
  pub safe : answer ≡ 0 → Safe c b
  pub between : answer ≡ 0 → SafeBetween c b
  pub fair : answer ≡ 34 → Fair c b

-- ---- session and sheet agree with the board

-- where the session's cutter is
abbrev pub place_of : Session → ℤ × ℤ
place_of s = (pos s.x, pos s.y)

-- up in both, or down in both at the same pixel with the same q
abbrev pub SameCutter : BoardCutter → Session → Type 0
SameCutter up s = s.lowered ≡ false
SameCutter (down p q) s = (s.lowered ≡ true) × ((p ≡ place_of s) × (s.q ≡ q))

-- W, H, engine and cutter are equal; a sheet is open, the map current, the pixel copper in both or in neither
pub record Agree (b : Board) (w : World) : Type 0 where
  pub width : w.session.width ≡ b.width
  pub height : w.session.height ≡ b.height
  pub engine : w.session.engine ≡ b.engine
  pub cutter : SameCutter b.cutter w.session
  pub opened : w.session.opened ≡ not (eqb b.width 0)
  pub current : w.session.current ≡ not (eqb b.engine 0)
  pub copper : (i j : ℕ) → i < w.session.width → j < w.session.height → copper_of w.sheet w.session.width i j ≡ b.copper i j

-- ---- lists of calls

-- at each call of a list its claim holds, and agreement after it
abbrev pub ClaimsHold : List Call → Board → World → Type 0
ClaimsHold [] b w = Unit {0}
ClaimsHold (c ∷ cs) b w =
    Claim c (answer c w) b × (Agree (feed c (answer c w) b) (world_after c w) × ClaimsHold cs (feed c (answer c w) b) (world_after c w))

-- the theorem: from a fresh session, whatever sheet and maps hold, for every list of calls
abbrev pub Guarantee : Type 0
Guarantee = (cs : List Call) (sheet : List ℕ) (m : Maps) → ClaimsHold cs blank (world fresh sheet m)

-- ---- for the workshop: session and sheet alone

-- all copper of the sheet is at squared distance above the lowered cutter's q from (x, y)
abbrev pub Free : World → (x y : ℕ) → Type 0
Free w x y = Clear (copper_of w.sheet w.session.width) w.session.width w.session.height x y w.session.q

-- and from each point that divides the way from (x, y) to (u, v) in a ratio of whole numbers
abbrev pub FreeBetween : World → (x y u v : ℕ) → Type 0
FreeBetween w x y u v = ClearBetween (copper_of w.sheet w.session.width) w.session.width w.session.height x y u v w.session.q

-- n steps in direction d from where the cutter stands are free: each of their pixels, the start too, and the way from each to the next
pub record FreeRun (w : World) (d n : ℕ) : Type 0 where
  pub pixels : (i x y : ℕ) → i ≤ n → walk d i (place_of w.session) ≡ (pos x, pos y) → Free w x y
  pub between : (i x y u v : ℕ) → i < n → walk d i (place_of w.session) ≡ (pos x, pos y) → walk d (i + 1) (place_of w.session) ≡ (pos u, pos v)
      → FreeBetween w x y u v

-- a lowered cutter stands free, and a run of it that is done is free
abbrev pub KeptFree : World → Type 0
KeptFree w = w.session.lowered ≡ true → Free w w.session.x w.session.y × ((d n : ℕ) → answer (run d n) w ≡ 0 → FreeRun w d n)

-- so it is whatever calls were made
abbrev pub Workshop : Type 0
Workshop = (cs : List Call) (sheet : List ℕ) (m : Maps) → KeptFree (left_by cs (world fresh sheet m))

-- ---- the closest approach: document 02, C-11

-- the place p is one of a list
abbrev pub Among : (p : ℤ × ℤ) → List (ℤ × ℤ) → Type 0
Among p [] = ⊥
Among p (o ∷ os) = (o ≡ p) ⊎ Among p os

-- what is recorded is the least of the numbers that the visited pixels have; none if no visited pixel has a number
pub data Least (Has : (x y n : ℕ) → Type 0) (visited : List (ℤ × ℤ)) : Closest → Type 0 where
  none_met : ((x y : ℕ) → Among (pos x, pos y) visited → (n : ℕ) → Has x y n → ⊥) → Least Has visited unmet
  least_met : (x y n : ℕ) → Among (pos x, pos y) visited → Has x y n
      → ((i j : ℕ) → Among (pos i, pos j) visited → (m : ℕ) → Has i j m → n ≤ m) → Least Has visited (met_at n)

-- on an engine's map of w columns the pixel (x, y) is labelled, and n is its size
pub record HasSize (engine : ℕ) (m : Maps) (w x y n : ℕ) : Type 0 where
  pub labelled : unlabelled_in engine m (index w x y) ≡ false
  pub size : size_in engine m (index w x y) ≡ n

-- n is the squared distance of the pixel (x, y) to a copper pixel
pub record HasDistance (copper : Mask) (w h x y n : ℕ) : Type 0 where
  pub column : ℕ
  pub row : ℕ
  pub on_copper : Copper copper w h column row
  pub distance : apart x y column row ≡ n

-- the places visited are pixels, and what is recorded is the least size of those that are labelled
pub record Approach (engine : ℕ) (m : Maps) (w h : ℕ) (visited : List (ℤ × ℤ)) (closest : Closest) : Type 0 where
  pub pixels : (p : ℤ × ℤ) → Among p visited → is_pixel w h p ≡ true
  pub least : Least (HasSize engine m w) visited closest

-- something holds after each call of a list
abbrev pub Along : (P : Board → World → Type 0) → List Call → Board → World → Type 0
Along P [] b w = Unit {0}
Along P (c ∷ cs) b w = P (feed c (answer c w) b) (world_after c w) × Along P cs (feed c (answer c w) b) (world_after c w)

-- the session has recorded the closest approach on the current map
abbrev pub ApproachRecorded : Board → World → Type 0
ApproachRecorded b w = Approach w.session.engine w.maps w.session.width w.session.height b.visited w.session.closest

-- on an exact map that is the least true squared distance of the pixels visited; none without copper
abbrev pub TrueApproachRecorded : Board → World → Type 0
TrueApproachRecorded b w = b.engine ≡ 1 → Least (HasDistance b.copper b.width b.height) b.visited w.session.closest

-- the two theorems, over the same lists
abbrev pub ClosestApproach : Type 0
ClosestApproach = (cs : List Call) (sheet : List ℕ) (m : Maps) → Along ApproachRecorded cs blank (world fresh sheet m)

abbrev pub TrueApproach : Type 0
TrueApproach = (cs : List Call) (sheet : List ℕ) (m : Maps) → Along TrueApproachRecorded cs blank (world fresh sheet m)
