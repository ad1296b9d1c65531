-- Two maps joined into one: document 02, C-21. At each pixel the labelled vector is taken, of two labelled ones the smaller, among equals that of the smaller
-- dx, then of the smaller dy; the pixel is unlabelled where both maps are.
-- Assumes nothing.
use Rattle.std.specs.Prelude.{◌≡◌, Bool, not, cond, ◌&&◌, ◌||◌, List, [], ◌∷◌, ℕ, ◌*◌, ◌/◌, ◌<◌, eqb, ltb, ℤ, pos, length, get_or}
use Rattle.std.specs.Int.Signed.{lt_z}
use Rattle.raster.specs.Limits.{side}
use Rattle.raster.specs.Map.{dx_at, dy_at}
use Rattle.raster.specs.Pixels.{Mask, tabulate}
use Rattle.raster.specs.Refusal.{Table}
use Rattle.raster.specs.Vector.{size, unlabelled}

-- (ax, ay) has the smaller dx, or the same and the smaller dy: seen from one pixel it ends further left, or in the same column further up
abbrev pub left_or_above : (ax ay bx by : ℤ) → Bool
left_or_above ax ay bx by = lt_z ax bx || (not (lt_z bx ax) && lt_z ay by)

-- of two labelled vectors (ax, ay) is the one to take, and they are not the same
unfoldable pub precedes : (ax ay bx by : ℤ) → Bool
precedes ax ay bx by = ltb (size ax ay) (size bx by) || (eqb (size ax ay) (size bx by) && left_or_above ax ay bx by)

-- the vector of the second map is taken: it is labelled, and that of the first is not or has to give way
unfoldable pub second_taken : (ax ay bx by : ℤ) → Bool
second_taken ax ay bx by = not (unlabelled bx by) && (unlabelled ax ay || precedes bx by ax ay)

-- the map of the two from which pixel p is taken
abbrev pub taken_from : (first second : List ℤ) (p : ℕ) → List ℤ
taken_from first second p = cond (second_taken (dx_at first p) (dy_at first p) (dx_at second p) (dy_at second p)) second first

-- the map that two of one length are joined to: its number i is of pixel i / 2
unfoldable pub joined : (first second : List ℤ) → List ℤ
joined first second = tabulate (length first) (λ i. get_or (taken_from first second (i / 2)) i (pos 0))

-- the sheet of w × h pixels with the copper `both` has it where one or the other has
abbrev pub HasEither : (w h : ℕ) (one other both : Mask) → Type 0
HasEither w h one other both = (x y : ℕ) → x < w → y < h → both x y ≡ one x y || other x y

-- the refusals, tested in this order
unfoldable pub join_table : (w h : ℕ) (first second target : List ℤ) → Table
join_table w h first second target =
    (not (side w && side h), 11)
    ∷ (not (eqb (length first) (2 * (h * w)) && (eqb (length second) (2 * (h * w)) && eqb (length target) (2 * (h * w)))), 12)
    ∷ []
