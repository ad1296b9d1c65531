-- M1 to M9 and the boards of C-12, C-14 and C-16 hold, computed from the definitions.
-- Assumes nothing.
use mathlib.Core.Path.{refl}
use Rattle.raster.specs.Distance.{gap, apart, least_to_copper, true_distance}
use Rattle.raster.specs.Gate.{passes}
use Rattle.raster.specs.Loop.{ascend, descend, any_below, count_below, least_below}
use Rattle.raster.specs.Map.{put, vectors}
use Rattle.raster.specs.Pixels.{tabulate, pixels}
use Rattle.raster.specs.Refusal.{first_of}
use Rattle.raster.specs.Sheet.{copper_of}
use Rattle.raster.specs.Vector.{size, replaces}
use Rattle.candidate.specs.Candidate.{offer}
use Rattle.scan.specs.Scan.{seeds, rightward, leftward, from_three, from_row, scanned}
use Rattle.chamfer.specs.Chamfer.{chamfer_distance, value, chamfer_map}
use Rattle.chamfer.specs.Engines.{weights}
use Rattle.exact.specs.Nearest.{nearest, exact_map}
use Rattle.probe.specs.Points.{distances_at, rows_among}
use Rattle.morphology.specs.Resize.{near, steps_off, shrunk}
use Rattle.rebuild.specs.Rebuild.{covered, rebuilt}
use Rattle.skeleton.specs.Table.{least, g}
use Rattle.skeleton.specs.Skeleton.{taken_by, removed, skeleton_of}
use Rattle.radius.specs.Radius.{measurable, radius_answer, radius_q}
use Rattle.cutter.specs.Gates.{passes_at}
use Rattle.guarantee.specs.Table.{four_sheet, four, probes, room, three, ends, corner, full, middle, Marked, m1, m2, m3, m4, m5, m6, m7, m8, m9, c12, c14, c16, c19, Says}

pub boards : (m : Marked) → Says m
unfolding four_sheet four probes room distances_at rows_among true_distance least_to_copper least_below count_below chamfer_map value chamfer_distance weights three ends corner full middle shrunk near steps_off exact_map vectors tabulate pixels nearest ascend descend any_below apart gap size copper_of scanned from_row from_three rightward leftward seeds offer replaces put passes_at passes g least skeleton_of removed taken_by rebuilt covered radius_q radius_answer measurable first_of
boards m1 = (refl, (refl, (refl, (refl, refl))))
boards m2 = (refl, refl)
boards m3 = (refl, refl)
boards m4 = (refl, refl)
boards m5 = (refl, (refl, refl))
boards m6 = (refl, refl)
boards m7 = (refl, refl)
boards m8 = (refl, (refl, (refl, refl)))
boards m9 = (refl, refl)
boards c12 = ((refl, (refl, refl)), ((refl, (refl, refl)), (refl, (refl, refl))))
boards c14 = (refl, refl)
boards c16 = (refl, refl)
boards c19 = (refl, (refl, refl))
