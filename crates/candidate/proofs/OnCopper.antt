-- Document 02, C-18: a candidate ends where its neighbour's vector ends. So at every moment of a scan every labelled vector ends on copper, and no component is
-- as long as the sheet's side.
-- Assumes nothing.
use mathlib.Core.Path.{◌≡◌, refl, ◌∙◌}
use mathlib.Core.Bool.{true, false}
use mathlib.Core.List.{List}
use Prim.Native.Nat.{ℕ, ◌+◌, ◌*◌, ◌≤◌, ◌<◌}
use native.Mathlib.Decide.{ℕ_discrete, dec_lt}
use native.Mathlib.Nat.{mul-le-mul_right}
use native.Mathlib.Omega.{arith}
use lib.IntN.{ℤ, nat_abs, ◌+ℤ◌}
use lib.ListN.{length}
use Rattle.raster.specs.Limits.{max_side}
use Rattle.raster.specs.Pixels.{Mask, index}
use Rattle.raster.specs.PixelsLaws.{index-inside, index-one}
use Rattle.raster.specs.Vector.{Target}
use Rattle.raster.specs.VectorLaws.{ends-step, target_near}
use Rattle.raster.specs.Map.{Inside, dx_at, dy_at, unlabelled_at, put}
use Rattle.raster.specs.MapLaws.{put-length, put-dx, put-dy, put-dx-other, put-dy-other}
use Rattle.candidate.specs.Candidate.{relax}
use Rattle.candidate.specs.OnSheet.{OnCopper, OnSheet, Hop, Moment, start, later}
use Rattle.candidate.proofs.Neighbours.{relax_ind}

module _ {copper : Mask} {w h : ℕ} {m : List ℤ} (sound : OnCopper copper w h m) where
  pub pixel-inside : (x y : ℕ) → x < w → y < h → Inside (index w x y) m
  pixel-inside x y across down = omega (arith, sound.long, index-inside w x y across h down)

  -- no component of a labelled vector is as long as its side
  pub short_of_sides : (x y : ℕ) → x < w → y < h → unlabelled_at m (index w x y) ≡ false
      → (nat_abs (dx_at m (index w x y)) < w) × (nat_abs (dy_at m (index w x y)) < h)
  short_of_sides x y across down l = target_near across down (sound.target x y across down l)

  module _ (x y a b : ℕ) (ox oy : ℤ) (hop : Hop w h x y a b ox oy) where
    abbrev at : ℕ
    at = index w x y

    abbrev cx : ℤ
    cx = dx_at m (index w a b) +ℤ ox

    abbrev cy : ℤ
    cy = dy_at m (index w a b) +ℤ oy

    -- the candidate ends where the neighbour's vector ends
    moved : unlabelled_at m (index w a b) ≡ false → Target copper w h x y cx cy
    moved l =
        let t = sound.target a b hop.across' hop.down' l in
        record { column = t.column; row = t.row; on_copper = t.on_copper; ends = ends-step hop.step t.ends }

    pub candidate-near : unlabelled_at m (index w a b) ≡ false → (nat_abs cx < w) × (nat_abs cy < h)
    candidate-near l = target_near hop.across hop.down (moved l)

    -- a pixel after the candidate is written: the pixel itself, or another
    written : unlabelled_at m (index w a b) ≡ false → (i j : ℕ) → i < w → j < h → Dec (index w i j ≡ at)
        → unlabelled_at (put at cx cy m) (index w i j) ≡ false
        → Target copper w h i j (dx_at (put at cx cy m) (index w i j)) (dy_at (put at cx cy m) (index w i j))
    written n i j k l (yes e) u =
        let p = index-one w i j x y k hop.across e in
        let inside = pixel-inside x y hop.across hop.down in
        rw (p.0, p.1, put-dx at cx cy m inside, put-dy at cx cy m inside) (moved n)
    written n i j k l (no e) u =
        let f = put-dx-other at cx cy m (index w i j) e in
        let g = put-dy-other at cx cy m (index w i j) e in
        rw (f, g) (sound.target i j k l (rw (f, g) at u))

    pub relax-on-copper : OnCopper copper w h (relax at (index w a b) ox oy m)
    relax-on-copper =
        relax_ind at (index w a b) ox oy m (OnCopper copper w h) sound
        (λ n r. record { long = put-length at cx cy m ∙ sound.long; target = λ i j k l. written n i j k l (ℕ_discrete (index w i j) at) })

-- every labelled vector ends on copper, at every moment
pub moment_on_copper : {copper : Mask} {w h : ℕ} {m n : List ℤ} → OnCopper copper w h m → Moment w h m n → OnCopper copper w h n
moment_on_copper sound start = sound
moment_on_copper sound (later n x y a b ox oy t hop) = relax-on-copper (moment_on_copper sound t) x y a b ox oy hop

-- ---- what the code asks for

-- where vectors end on copper they end on the sheet
pub ends-on_sheet : {copper : Mask} {w h : ℕ} {m : List ℤ} → w ≤ max_side → h ≤ max_side → OnCopper copper w h m → OnSheet w m
ends-on_sheet {copper} {w} {h} {m} wide tall sound = record {
  height = h;
  wide = wide;
  tall = tall;
  ends = record { long = sound.long; target = λ x y k l u. anywhere (sound.target x y k l u) };
}
  where
    anywhere : {x y : ℕ} {dx dy : ℤ} → Target copper w h x y dx dy → Target (λ i j. true) w h x y dx dy
    anywhere t = record {
      column = t.column;
      row = t.row;
      on_copper = record { across = t.on_copper.across; down = t.on_copper.down; is_copper = refl };
      ends = t.ends;
    }

module _ {w : ℕ} {m : List ℤ} (sheet : OnSheet w m) where
  -- it is handed on from moment to moment
  abbrev pub on_sheet-later : {n : List ℤ} → Moment w sheet.height m n → OnSheet w n
  on_sheet-later t = record { height = sheet.height; wide = sheet.wide; tall = sheet.tall; ends = moment_on_copper sheet.ends t }

  pub near-pixel : (x y : ℕ) → x < w → y < sheet.height → unlabelled_at m (index w x y) ≡ false
      → (nat_abs (dx_at m (index w x y)) < max_side) × (nat_abs (dy_at m (index w x y)) < max_side)
  near-pixel x y across down l =
      let n = short_of_sides sheet.ends x y across down l in (omega (arith, n.0, sheet.wide), omega (arith, n.1, sheet.tall))

  -- a row that lies in the map is one of the sheet
  pub row_on_sheet : (y : ℕ) → 0 < w → 2 * (y * w + w) ≤ length m → y < sheet.height
  row_on_sheet y some inside = elim (dec_lt y sheet.height) [
    | yes l ↦ l
    | no n ↦ absurd (omega (arith, sheet.ends.long, mul-le-mul_right w (let k : sheet.height ≤ y = omega arith in k)))
  ]
