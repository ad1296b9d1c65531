-- The closest approach of a cutter: document 02, C-11 and C-12. The least size of the labelled pixels that it has met, if it has met one.
-- Assumes nothing.
use Rattle.std.specs.Prelude.{true, false, cond, ◌&&◌, ℕ, ◌+◌, leb}
use Rattle.raster.specs.Loop.{ascend}
use Rattle.raster.specs.Pixels.{index}
use Rattle.cutter.specs.declared.Closest.{Closest}
use Rattle.cutter.specs.declared.Cutter.{Cutter}
use Rattle.cutter.specs.Kinds.{Maps, unlabelled_in, size_in}
use Rattle.cutter.specs.Gates.{cutter_after}

-- it has met none, which is said with the size 0
abbrev pub unmet : Closest
unmet = record { met = false; size = 0 }

-- a least size
abbrev pub met_at : (size : ℕ) → Closest
met_at a = record { met = true; size = a }

-- with one more labelled pixel, of size a
unfoldable pub nearer : (a : ℕ) → Closest → Closest
nearer a k = cond (k.met && leb k.size a) k (met_at a)

-- with one more pixel of an engine's kind of map, labelled or not
unfoldable pub closest_with : (engine : ℕ) → Maps → (pixel : ℕ) → Closest → Closest
closest_with e m p k = cond (unlabelled_in e m p) k (nearer (size_in e m p) k)

-- with the pixel under the cutter
abbrev pub closest_at : Cutter → Maps → Closest → Closest
closest_at c m k = closest_with c.engine m (index c.width c.x c.y) k

-- with the pixels of a run after its start
unfoldable pub closest_along : Cutter → Maps → (direction count : ℕ) → Closest → Closest
closest_along c m d n k = ascend (λ i. closest_at (cutter_after d (i + 1) c) m) n k
