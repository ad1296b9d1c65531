-- The plain board: document 01, "Lists of calls", and for the places visited document 02, C-11. It is fed each call's numbers and its answer, and nothing
-- from session or slices.
-- Assumes nothing.
use Rattle.std.specs.Prelude.{false, cond, not, ◌&&◌, ◌||◌, List, [], ◌∷◌, ◌++◌, ℕ, zero, suc, eqb, ℤ, pos}
use Rattle.raster.specs.Pixels.{Mask}
use Rattle.raster.specs.Sheet.{in_rectangle}
use Rattle.morphology.specs.Resize.{grows, stays}
use Rattle.cutter.specs.Directions.{walk}
use Rattle.session.specs.Lists.{Call, opening, paint, erase, build, place, run, lift, expand, shrink, skeleton, rebuild, probe, aside}

-- up, or down at a place with a q. A run is taken in single steps of the table of directions (`walk`).
pub data BoardCutter : Type 0 where
  up : BoardCutter
  down : (at : ℤ × ℤ) (q : ℕ) → BoardCutter

-- W, H, the copper, the engine, the cutter, and the places that it has visited since the last placing that was done
pub record Board : Type 0 where
  pub width : ℕ
  pub height : ℕ
  pub copper : Mask
  pub engine : ℕ
  pub cutter : BoardCutter
  pub visited : List (ℤ × ℤ)

-- its cutter is up and has visited nothing
abbrev pub board_of : (w h : ℕ) (copper : Mask) (engine : ℕ) → Board
board_of w h m e = record { width = w; height = h; copper = m; engine = e; cutter = up; visited = [] }

-- at the start
abbrev pub blank : Board
blank = board_of 0 0 (λ i j. false) 0

-- with other copper, and with another cutter and what that has visited
abbrev pub recoppered : Mask → Board → Board
recoppered m b = board_of b.width b.height m 0

abbrev pub with_cutter : BoardCutter → (visited : List (ℤ × ℤ)) → Board → Board
with_cutter c v b = record { width = b.width; height = b.height; copper = b.copper; engine = b.engine; cutter = c; visited = v }

-- where a run of n steps leaves the cutter
abbrev pub cutter_run : (direction n : ℕ) → BoardCutter → BoardCutter
cutter_run d n up = up
cutter_run d n (down p q) = down (walk d n p) q

-- the places that its single steps reach, from a place and from where the cutter stands, the last one first
unfoldable pub tool_path : (direction n : ℕ) → ℤ × ℤ → List (ℤ × ℤ)
tool_path d zero p = []
tool_path d (suc n) p = walk d (suc n) p ∷ tool_path d n p

abbrev pub tool_path_of : (direction n : ℕ) → BoardCutter → List (ℤ × ℤ)
tool_path_of d n up = []
tool_path_of d n (down p q) = tool_path d n p

-- after a call that is done
abbrev pub done : Call → Board → Board
done (opening w h o) b = board_of w h (λ i j. false) 0
done (paint x y c r) b = recoppered (λ i j. in_rectangle x y c r i j || b.copper i j) b
done (erase x y c r) b = recoppered (λ i j. not (in_rectangle x y c r i j) && b.copper i j) b
done (build e s) b = board_of b.width b.height b.copper e
done (place x y q) b = with_cutter (down (pos x, pos y) q) ((pos x, pos y) ∷ []) b
done (run d n) b = with_cutter (cutter_run d n b.cutter) (tool_path_of d n b.cutter ++ b.visited) b
done lift b = with_cutter up b.visited b
done (expand q s) b = recoppered (grows b.copper b.width b.height q) b
done (shrink q s) b = recoppered (stays b.copper b.width b.height q) b
done (skeleton out) b = b
done (rebuild marks out) b = b
done (probe points s out) b = b
done aside b = b

-- after a call with its answer: 0 is done, any other changes nothing
abbrev pub feed : Call → (answer : ℕ) → Board → Board
feed c a b = cond (eqb a 0) (done c b) b
