-- What the scans guarantee, on every sheet of up to 2,048 × 2,048 pixels, whatever its bytes: document 01, "Engines", and demand 3's two fractions.
-- a is the size at a pixel, e its true squared distance:
--   every labelled vector ends on a copper pixel, at every moment of a scan; so no component is outside ±2,047, e ≤ a, and copper has size 0;
--   without copper every pixel stays unlabelled, with copper every one is labelled;
--   144 × a ≤ 169 × e by 8SED, a ≤ 2 × e by 4SED;
--   the gate passes only where all copper is above q, and fails only where some is within that fraction of q.
-- Assumes nothing.
use mathlib.Core.Path.{◌≡◌, refl, subst, subst₂}
use mathlib.Core.Bool.{Bool, true, false}
use mathlib.Core.List.{List}
use Prim.Native.Nat.{ℕ, ◌*◌, ◌-◌, ◌≤◌, ◌<◌}
use native.Mathlib.Decide.{dec_le}
use native.Mathlib.Omega.{arith}
use lib.IntN.{ℤ, pos, negsuc, nat_abs}
use lib.ListN.{length}
use Rattle.raster.specs.Limits.{max_side}
use Rattle.raster.specs.Pixels.{Mask, index}
use Rattle.raster.specs.Distance.{gap, apart, Copper, Clear, Near}
use Rattle.raster.specs.DistanceLaws.{gap_up, gap-swap}
use Rattle.raster.specs.Sheet.{copper_of}
use Rattle.raster.specs.Vector.{size, unlabelled, Target}
use Rattle.raster.specs.VectorLaws.{ends-size, target_near}
use Rattle.raster.specs.Map.{dx_at, dy_at}
use Rattle.raster.specs.Gate.{passes, NearBy}
use Rattle.raster.specs.GateLaws.{passed-above, failed_near}
use Rattle.raster.specs.Loop.{ascend}
use Rattle.candidate.specs.OnSheet.{OnCopper, Moment}
use Rattle.candidate.proofs.OnCopper.{moment_on_copper}
use Rattle.scan.specs.Scan.{seeds, down_row, scanned, gate}
use Rattle.scan.proofs.Seeds.{seed-within, seeds-on-copper}
use Rattle.scan.proofs.Within.{Within}
use Rattle.scan.proofs.Cost.{cost, way, fraction}
use Rattle.scan.proofs.Progress.{onward, Grows, grows}
use Rattle.scan.proofs.Passes.{downwards, upwards, row_at, pass_moment, pass_within, scan_two}

module _ (w h : ℕ) (wide : w ≤ max_side) (tall : h ≤ max_side) (sheet : List ℕ) (whole : length sheet ≡ h * w) where
  abbrev copper : Mask
  copper = copper_of sheet w

  begins : OnCopper copper w h (seeds sheet)
  begins = seeds-on-copper w h sheet whole

  -- document 02, C-18: at every moment of a scan every labelled vector ends on a copper pixel of the sheet
  pub moments : {m : List ℤ} → Moment w h (seeds sheet) m → OnCopper copper w h m
  moments t = moment_on_copper begins t

  -- ---- both scans

  module _ (corners : Bool) where
    abbrev halfway : List ℤ
    halfway = ascend (down_row w corners) h (seeds sheet)

    one_moment : Moment w h (seeds sheet) halfway
    one_moment = pass_moment w h corners (λ k. k) (negsuc 0) (downwards h) h (omega arith) (seeds sheet)

    two_moment : Moment w h halfway (scanned w corners h sheet)
    unfolding scanned
    two_moment = rw (scan_two w h corners halfway) (pass_moment w h corners (λ k. h - 1 - k) (pos 1) (upwards h) h (omega arith) halfway)

    half-grows : Grows copper w h wide (seeds sheet) halfway
    half-grows = grows copper w h wide begins one_moment

    two-grows : Grows copper w h wide halfway (scanned w corners h sheet)
    two-grows = grows copper w h wide half-grows.sound two_moment

    -- every pixel is within the cost of its way to every copper pixel: at or below the copper by scan one, above it by scan two
    module _ (x y i j : ℕ) (across : x < w) (down : y < h) (c : Copper copper w h i j) where
      abbrev At : List ℤ → (row rows : ℕ) → Type 0
      At m row rows = Within m (index w x row) (cost corners (gap x i) rows)

      seeded : Within (seeds sheet) (index w i j) 0
      seeded = seed-within w h sheet whole i j c.across c.down c.is_copper

      one : j ≤ y → At halfway y (gap y j)
      one l =
          let e : y - j ≡ gap y j = omega (arith, gap_up j y l, gap-swap y j) in
          subst (At halfway y) e
          (pass_within w h corners (λ k. k) (negsuc 0) (downwards h) copper wide i c.across j (cost corners) (way corners)
          (seeds sheet) begins seeded h (omega arith) y l down x across)

      two : y ≤ j → At (scanned w corners h sheet) y (gap y j)
      unfolding scanned
      two l =
          let e : h - 1 - (h - 1 - j) ≡ j = omega (arith, c.down) in
          let f : h - 1 - (h - 1 - y) ≡ y = omega arith in
          let g : h - 1 - y - (h - 1 - j) ≡ gap y j = omega (arith, c.down, gap_up y j l) in
          rw (scan_two w h corners halfway)
          (subst₂ (At (ascend (row_at w h corners (λ k. h - 1 - k) (pos 1) (upwards h)) h halfway)) f g
          (pass_within w h corners (λ k. h - 1 - k) (pos 1) (upwards h) copper wide i c.across (h - 1 - j) (cost corners) (way corners)
          halfway half-grows.sound (rw e (half-grows.keeps _ _ seeded)) h (omega arith) (h - 1 - y) (omega arith) (omega arith) x across))

      costs : At (scanned w corners h sheet) y (gap y j)
      costs = elim (dec_le j y) [ yes l ↦ two-grows.keeps _ _ (one l) | no n ↦ two (omega arith) ]

    -- ---- the theorems

    -- a scan goes from its seeds by one candidate after the other; so each of its moments is one of `moments`
    pub scan_moment : Moment w h (seeds sheet) (scanned w corners h sheet)
    scan_moment = onward one_moment two_moment

    abbrev pub map : List ℤ
    map = scanned w corners h sheet

    module _ (x y : ℕ) (across : x < w) (down : y < h) where
      abbrev pub dx : ℤ
      dx = dx_at map (index w x y)

      abbrev pub dy : ℤ
      dy = dy_at map (index w x y)

      -- every labelled vector ends on a copper pixel of the sheet
      pub ends-on-copper : unlabelled dx dy ≡ false → Target copper w h x y dx dy
      ends-on-copper = (moments scan_moment).target x y across down

      -- so no component is outside ±2,047
      pub in_range : unlabelled dx dy ≡ false → (nat_abs dx ≤ 2047) × (nat_abs dy ≤ 2047)
      in_range l = let n = target_near across down (ends-on-copper l) in (omega (arith, n.0), omega (arith, n.1))

      -- without copper the pixel stays unlabelled; with any it is labelled
      pub without-copper : ((i j : ℕ) → Copper copper w h i j → ⊥) → unlabelled dx dy ≡ true
      without-copper none = go (unlabelled dx dy) refl
        where
          go : (t : Bool) → unlabelled dx dy ≡ t → t ≡ true
          go true e = refl
          go false e = let t = ends-on-copper e in absurd (none t.column t.row t.on_copper)

      pub with_copper : (i j : ℕ) → Copper copper w h i j → unlabelled dx dy ≡ false
      with_copper i j c = (costs x y i j across down c).labelled

      -- so its true squared distance is at most its size
      pub at_most : unlabelled dx dy ≡ false → Near copper w h x y (size dx dy)
      at_most l = let t = ends-on-copper l in record { column = t.column; row = t.row; copper = t.on_copper; within = omega (arith, ends-size t.ends) }

      -- copper has size 0
      pub on_copper : copper x y ≡ true → size dx dy ≡ 0
      on_copper c = omega (arith, (two-grows.keeps _ _ (half-grows.keeps _ _ (seed-within w h sheet whole x y across down c))).near)

      -- 8SED: 144 × a ≤ 169 × e; 4SED: a ≤ 2 × e
      pub within-fraction : (i j : ℕ) → Copper copper w h i j → (gate corners).den * size dx dy ≤ (gate corners).num * apart x y i j
      unfolding apart
      within-fraction i j c = fraction corners (gap x i) (gap y j) (size dx dy) (costs x y i j across down c).near

      -- the gate passes only where all copper is above q
      pub gate_safe : (q : ℕ) → passes (gate corners) (size dx dy) q ≡ true → Clear copper w h x y q
      gate_safe q p i j c = passed-above (gate corners) (size dx dy) q (apart x y i j) (within-fraction i j c) p

      -- it fails only where some copper is within that fraction of q
      pub gate_fair : (q : ℕ) → unlabelled dx dy ≡ false → passes (gate corners) (size dx dy) q ≡ false → NearBy (gate corners) copper w h x y q
      gate_fair q l p = failed_near (gate corners) (ends-on-copper l) p
