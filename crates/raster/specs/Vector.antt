-- A vector of the map, two signed 16-bit numbers: document 01, "Sheet, map, session", and its "Engines" on candidates.
-- Assumes nothing.
use Rattle.std.specs.Prelude.{◌≡◌, Bool, false, ◌&&◌, ◌||◌, ℕ, ◌+◌, ◌*◌, ◌<◌, ◌≤◌, eqb, ltb, ℤ, pos, negsuc, nat_abs, ◌+ℤ◌}
use Rattle.std.specs.Int.Signed.{mag}
use Rattle.raster.specs.Pixels.{Mask}
use Rattle.raster.specs.Distance.{Copper}

-- a component, −32,768 to 32,767
abbrev pub Short : ℤ → Type 0
Short z = mag z < 32768

-- a component after one step, and a step: −1, 0 or 1
abbrev pub Wide : ℤ → Type 0
Wide z = nat_abs z ≤ 32769

abbrev pub UnitStep : ℤ → Type 0
UnitStep z = nat_abs z ≤ 1

-- size, document 01's word for dx² + dy²
unfoldable pub size : ℤ → ℤ → ℕ
size dx dy = nat_abs dx * nat_abs dx + nat_abs dy * nat_abs dy

-- −32,768
abbrev pub mark : ℤ
mark = negsuc 32767

-- z is the mark
abbrev pub is_mark : ℤ → Bool
is_mark (pos n) = false
is_mark (negsuc n) = eqb n 32767

-- both components are the mark: one alone is a vector like any other
abbrev pub unlabelled : ℤ → ℤ → Bool
unlabelled dx dy = is_mark dx && is_mark dy

-- document 02, C-16: (cx, cy) replaces (dx, dy) if that is unlabelled or larger in size, and among equal sizes if its own dx is the larger one in
-- magnitude; otherwise (dx, dy) stays
unfoldable pub replaces : ℤ → ℤ → ℤ → ℤ → Bool
replaces dx dy cx cy =
    unlabelled dx dy || (ltb (size cx cy) (size dx dy) || (eqb (size cx cy) (size dx dy) && ltb (nat_abs dx) (nat_abs cx)))

-- the way from (x, y) by (dx, dy) ends at the pixel (i, j)
pub record Ends (x y : ℕ) (dx dy : ℤ) (i j : ℕ) : Type 0 where
  pub column : pos x +ℤ dx ≡ pos i
  pub row : pos y +ℤ dy ≡ pos j

-- it ends on a copper pixel of the sheet
pub record Target (copper : Mask) (w h x y : ℕ) (dx dy : ℤ) : Type 0 where
  pub column : ℕ
  pub row : ℕ
  pub on_copper : Copper copper w h column row
  pub ends : Ends x y dx dy column row
