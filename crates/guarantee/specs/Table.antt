-- The boards that document 01 marks for proof, M1 to M9, and those of document 02's C-12, C-14 and C-16, and one for C-19, as one table of what the definitions say
-- on them.
-- Assumes nothing.
use Rattle.std.specs.Prelude.{true, false, List, [], ◌∷◌, ◌≡◌, ℕ, ℤ, pos, negsuc, get_or}
use Rattle.raster.specs.Distance.{no_distance}
use Rattle.raster.specs.Map.{dx_at, dy_at}
use Rattle.raster.specs.Sheet.{bare}
use Rattle.morphology.specs.Resize.{shrunk}
use Rattle.rebuild.specs.Rebuild.{rebuilt}
use Rattle.skeleton.specs.Table.{g}
use Rattle.skeleton.specs.Skeleton.{skeleton_of}
use Rattle.radius.specs.Radius.{radius_q}
use Rattle.cutter.specs.Kinds.{Maps, maps, size_in}
use Rattle.cutter.specs.Gates.{passes_at}
use Rattle.session.specs.State.{opened_as}
use Rattle.session.specs.Maps.{engine_pairs, maps_built}
use Rattle.session.specs.Calls.{distances_by, rows_by}

-- 4 × 4 with copper at (3, 0), (0, 3) and (2, 2), and its map by an engine
unfoldable pub four_sheet : List ℕ
four_sheet = 0 ∷ 0 ∷ 0 ∷ 1 ∷ 0 ∷ 0 ∷ 0 ∷ 0 ∷ 0 ∷ 0 ∷ 1 ∷ 0 ∷ 1 ∷ 0 ∷ 0 ∷ 0 ∷ []

unfoldable pub four : (engine : ℕ) → Maps
four e = maps_built (opened_as 4 4) four_sheet e (maps [] [])

-- the points (0, 0), (3, 1) and (1, 1), and room for their distances
unfoldable pub probes : List ℕ
probes = 0 ∷ 0 ∷ 3 ∷ 1 ∷ 1 ∷ 1 ∷ []

unfoldable pub room : List ℕ
room = 7 ∷ 7 ∷ 7 ∷ []

-- 3 × 1 with copper at 0: what each engine makes of it
unfoldable pub three : List ℤ
three = pos 0 ∷ pos 0 ∷ negsuc 0 ∷ pos 0 ∷ negsuc 1 ∷ pos 0 ∷ []

-- 5 × 1 with copper at both ends: its exact map
unfoldable pub ends : List ℤ
ends = engine_pairs (opened_as 5 1) (1 ∷ 0 ∷ 0 ∷ 0 ∷ 1 ∷ []) 1

-- 2 × 2 with copper at (1, 0) and (0, 1): its map by 4SED
unfoldable pub corner : List ℤ
corner = engine_pairs (opened_as 2 2) (0 ∷ 1 ∷ 1 ∷ 0 ∷ []) 3

-- 3 × 3, copper everywhere; and in its middle alone
unfoldable pub full : List ℕ
full = 1 ∷ 1 ∷ 1 ∷ 1 ∷ 1 ∷ 1 ∷ 1 ∷ 1 ∷ 1 ∷ []

unfoldable pub middle : List ℕ
middle = 0 ∷ 0 ∷ 0 ∷ 0 ∷ 1 ∷ 0 ∷ 0 ∷ 0 ∷ 0 ∷ []

pub data Marked : Type 0 where
  m1 m2 m3 m4 m5 m6 m7 m8 m9 c12 c14 c16 c19 : Marked

-- what the documents say of each
abbrev pub Says : Marked → Type 0
Says m1 =
    (size_in 1 (four 1) 0 ≡ 8)
    × ((size_in 2 (four 2) 0 ≡ 8) × ((size_in 3 (four 3) 0 ≡ 9) × ((dx_at (four 3).pairs 0 ≡ pos 3) × (dy_at (four 3).pairs 0 ≡ pos 0))))
Says m2 = (passes_at 1 (four 1) 0 7 ≡ true) × (passes_at 1 (four 1) 0 8 ≡ false)
Says m3 = (passes_at 2 (four 2) 0 6 ≡ true) × (passes_at 2 (four 2) 0 7 ≡ false)
Says m4 = (passes_at 3 (four 3) 0 4 ≡ true) × (passes_at 3 (four 3) 0 5 ≡ false)
Says m5 =
    (engine_pairs (opened_as 3 1) (1 ∷ 0 ∷ 0 ∷ []) 1 ≡ three)
    × ((engine_pairs (opened_as 3 1) (1 ∷ 0 ∷ 0 ∷ []) 2 ≡ three) × (engine_pairs (opened_as 3 1) (1 ∷ 0 ∷ 0 ∷ []) 3 ≡ three))
Says m6 = (dx_at (engine_pairs (opened_as 3 1) (1 ∷ 0 ∷ 1 ∷ []) 1) 1 ≡ negsuc 0) × (dy_at (engine_pairs (opened_as 3 1) (1 ∷ 0 ∷ 1 ∷ []) 1) 1 ≡ pos 0)
Says m7 = (skeleton_of ends 5 1 ≡ (0 ∷ 0 ∷ 1 ∷ 0 ∷ 0 ∷ [])) × (rebuilt ends 5 1 (0 ∷ 0 ∷ 1 ∷ 0 ∷ 0 ∷ []) ≡ (0 ∷ 1 ∷ 1 ∷ 1 ∷ 0 ∷ []))
Says m8 = (g false 25 ≡ 16) × ((g true 25 ≡ 13) × ((g false 16 ≡ 9) × (g true 16 ≡ 8)))
Says m9 = (radius_q 100 25 ≡ 16) × (radius_q 110 25 ≡ 19)
Says c12 =
    ((get_or (four 4).values 0 0 ≡ 3) × ((passes_at 4 (four 4) 0 4 ≡ true) × (passes_at 4 (four 4) 0 5 ≡ false)))
    × (((get_or (four 5).values 0 0 ≡ 2) × ((passes_at 5 (four 5) 0 3 ≡ true) × (passes_at 5 (four 5) 0 4 ≡ false)))
    × ((get_or (four 6).values 0 0 ≡ 8) × ((passes_at 6 (four 6) 0 6 ≡ true) × (passes_at 6 (four 6) 0 7 ≡ false))))
Says c14 = (shrunk 3 3 1 full ≡ middle) × (shrunk 3 3 0 full ≡ full)
Says c16 = (dx_at corner 3 ≡ negsuc 0) × (dy_at corner 3 ≡ pos 0)
Says c19 =
    (distances_by (opened_as 4 4) four_sheet probes room ≡ (8 ∷ 1 ∷ 2 ∷ []))
    × ((rows_by (opened_as 4 4) probes room ≡ 2) × (distances_by (opened_as 4 4) (bare four_sheet) probes room ≡ (no_distance ∷ no_distance ∷ no_distance ∷ [])))
