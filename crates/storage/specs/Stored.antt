-- Stored maps, C-24's word for the map of a small sheet in a signed byte a component: dx then dy, both −128 in an unlabelled pixel (document 02, C-24).
-- Assumes nothing.
use Rattle.std.specs.Prelude.{◌≡◌, Bool, true, false, not, cond, ◌&&◌, ◌||◌, List, [], ◌∷◌, ◌++◌, map, ℕ, ◌*◌, ◌<◌, eqb, leb, ltb, ℤ, pos, negsuc, nat_abs, length, get_or}
use Rattle.std.specs.Bool.{xor}
use Rattle.std.specs.Int.Signed.{mag}
use Rattle.raster.specs.Limits.{side}
use Rattle.raster.specs.Loop.{any_below}
use Rattle.raster.specs.Map.{dx_at, dy_at, unlabelled_at}
use Rattle.raster.specs.Refusal.{Table}
use Rattle.raster.specs.Vector.{mark, is_mark}

-- ---- a component

-- −128 to 127
abbrev pub Byte : ℤ → Type 0
Byte z = mag z < 128

-- −128
abbrev pub byte_mark : ℤ
byte_mark = negsuc 127

-- z is −128
abbrev pub is_byte_mark : ℤ → Bool
is_byte_mark (pos n) = false
is_byte_mark (negsuc n) = eqb n 127

-- −127 to 127, which are stored as they stand
abbrev pub small_component : ℤ → Bool
small_component z = leb (nat_abs z) 127

-- in a byte, and back in 16 bits
abbrev pub to_byte : ℤ → ℤ
to_byte z = cond (is_mark z) byte_mark z

abbrev pub from_byte : ℤ → ℤ
from_byte z = cond (is_byte_mark z) mark z

-- ---- a map

-- stored, and read back
abbrev pub stored : (pairs : List ℤ) → List ℤ
stored pairs = map to_byte pairs

abbrev pub read_back : (bytes : List ℤ) → List ℤ
read_back bytes = map from_byte bytes

-- pixel p can be stored: it is unlabelled, or both its components are small
abbrev pub storable : (pairs : List ℤ) → (p : ℕ) → Bool
storable pairs p = unlabelled_at pairs p || (small_component (dx_at pairs p) && small_component (dy_at pairs p))

-- every component is the mark or small: so it is where all pixels can be stored
abbrev pub EachStorable : (pairs : List ℤ) → Type 0
EachStorable pairs = (i : ℕ) → i < length pairs → is_mark (get_or pairs i (pos 0)) || small_component (get_or pairs i (pos 0)) ≡ true

-- of the bytes of pixel p one alone is −128
abbrev pub half_marked : (bytes : List ℤ) → (p : ℕ) → Bool
half_marked bytes p = xor (is_byte_mark (dx_at bytes p)) (is_byte_mark (dy_at bytes p))

-- ---- the refusals, tested in this order

-- the longest side of a sheet whose map is stored
abbrev pub max_stored_side : ℕ
max_stored_side = 128

-- by sides and lengths alone
unfoldable pub length_rows : (w h : ℕ) (from to : ℕ) → Table
length_rows w h from to =
    (not (side w && side h), 11)
    ∷ (not (eqb from (2 * (h * w)) && eqb to (2 * (h * w))), 12)
    ∷ (ltb max_stored_side w || ltb max_stored_side h, 45)
    ∷ []

unfoldable pub store_table : (w h : ℕ) (pairs bytes : List ℤ) → Table
store_table w h pairs bytes = length_rows w h (length pairs) (length bytes) ++ ((any_below (h * w) (λ p. not (storable pairs p)), 45) ∷ [])

unfoldable pub read_back_table : (w h : ℕ) (bytes pairs : List ℤ) → Table
read_back_table w h bytes pairs = length_rows w h (length bytes) (length pairs) ++ ((any_below (h * w) (half_marked bytes), 45) ∷ [])
