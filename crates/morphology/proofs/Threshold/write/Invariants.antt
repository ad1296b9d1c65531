-- `morphology::Threshold::write` meets its contract. The invariant: the first y rows are written.
use mathlib.Core.Path.{◌≡◌}
use Prim.Native.Nat.{ℕ, ◌<◌}
use lib.ListN.{length, get_or}
use Rattle.raster.specs.Pixels.{index}
use Rattle.morphology.specs.Threshold.{thresholded_at}
use Rattle.morphology.proofs.Threshold.write.Given as goal

abbrev pub invariant-loop-y : goal.invariant-loop-y
invariant-loop-y l =
    let t = l.self in
    ((x j : ℕ) → x < t.w → j < l.y → get_or l.sheet (index t.w x j) 0 ≡ thresholded_at l.map t.w t.h t.q t.within t.rim x j)
    × (length l.sheet ≡ length l.initial.sheet)
