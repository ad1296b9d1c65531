-- Every map that a build with engine 1, 2 or 3 leaves on a sheet with sides of at most 128 can be stored: document 02, C-24. For its labelled vectors end on the
-- sheet (C-18), so that each component is shorter than its side.
-- Assumes nothing.
use mathlib.Core.Path.{◌≡◌, refl, ap}
use mathlib.Core.Bool.{Bool, true, false, not, ◌&&◌, ◌||◌}
use mathlib.Core.List.{List}
use Prim.Native.Nat.{ℕ, ◌*◌, ◌/◌, ◌%◌, ◌<◌, ◌≤◌}
use native.Mathlib.Omega.{arith}
use lib.Dec.{eqb}
use lib.IntN.{ℤ, nat_abs}
use lib.ListN.{length}
use borrow.Author.Tests.{eq-eqb, le-leb, lt-leb, le-ltb}
use Rattle.raster.specs.Limits.{max_side, side}
use Rattle.raster.specs.Loop.{any_below}
use Rattle.raster.specs.LoopLaws.{any_none}
use Rattle.raster.specs.Map.{dx_at, dy_at, unlabelled_at}
use Rattle.raster.specs.MapLaws.{vectors-length}
use Rattle.raster.specs.Pixels.{Mask}
use Rattle.raster.specs.PixelsLaws.{index_back, back-across, back-down}
use Rattle.raster.specs.Refusal.{first_of}
use Rattle.raster.specs.Sheet.{copper_of}
use Rattle.raster.specs.Tests.{cond_ind}
use Rattle.raster.specs.VectorLaws.{target_near}
use Rattle.candidate.specs.OnSheet.{OnCopper}
use Rattle.scan.proofs.Theorems as scan
use Rattle.exact.specs.Nearest.{exact_map}
use Rattle.exact.proofs.Theorems as exact
use Rattle.storage.specs.Stored.{small_component, storable, max_stored_side, length_rows, store_table}
use Rattle.session.specs.declared.Session.{Session}
use Rattle.session.specs.Maps.{engine_pairs}
use Rattle.session.specs.Lists.{build, World, answer, world_after}
use Rattle.session.proofs.Granted.{build_granted, active_sides, active-limits}

module _ (copper : Mask) (w h : ℕ) (wide : w ≤ max_stored_side) (tall : h ≤ max_stored_side) (m : List ℤ) (c : OnCopper copper w h m) where
  -- every pixel is unlabelled, or shorter than the sides
  pixel-storable : (p : ℕ) → p < h * w → storable m p ≡ true
  pixel-storable p l = go (unlabelled_at m p) refl
    where
      x : p % w < w
      x = back-across w h p l

      y : p / w < h
      y = back-down w h p l

      go : (t : Bool) → unlabelled_at m p ≡ t → t || (small_component (dx_at m p) && small_component (dy_at m p)) ≡ true
      go true u = refl
      go false u =
          let t = target_near x y (c.target (p % w) (p / w) x y (rw (index_back w p) u)) in
          let n = rw (index_back w p) at t in
          rw (le-leb (nat_abs (dx_at m p)) 127 (omega (arith, n.0)), le-leb (nat_abs (dy_at m p)) 127 (omega (arith, n.1))) refl

  pub on-copper-storable : (bytes : List ℤ) → side w && side h ≡ true → length bytes ≡ 2 * (h * w) → first_of (store_table w h m bytes) ≡ 0
  unfolding store_table length_rows first_of
  on-copper-storable bytes sides room =
      let none : any_below (h * w) (λ p. not (storable m p)) ≡ false = any_none (h * w) _ (λ p l. ap not (pixel-storable p l)) in
      rw (sides, eq-eqb _ _ c.long, eq-eqb _ _ room, le-ltb max_stored_side w wide, le-ltb max_stored_side h tall, none) refl

-- the exact map's labelled vectors end on copper
exact_on_copper : (copper : Mask) (w h : ℕ) → w ≤ max_side → h ≤ max_side → OnCopper copper w h (exact_map copper w h)
unfolding exact_map
exact_on_copper copper w h wide tall = record { long = vectors-length w h _ _; target = exact.ends-on-copper copper w h wide tall }

-- so do those of engines 1 to 3
pairs-on-copper : (s : Session) (sheet : List ℕ) (e : ℕ) → s.width ≤ max_side → s.height ≤ max_side → length sheet ≡ s.height * s.width
    → OnCopper (copper_of sheet s.width) s.width s.height (engine_pairs s sheet e)
pairs-on-copper s sheet e wide tall whole =
    cond_ind (λ m. OnCopper (copper_of sheet s.width) s.width s.height m) (eqb e 1)
    (λ o. exact_on_copper (copper_of sheet s.width) s.width s.height wide tall)
    (λ o. scan.moments s.width s.height wide tall sheet whole (scan.scan_moment s.width s.height wide tall sheet whole (eqb e 2)))

-- whatever build with one of them leaves, store takes
pub built_storable : (w : World) (e : ℕ) (scratch bytes : List ℤ) → answer (build e scratch) w ≡ 0 → e ≤ 3
    → w.session.width ≤ max_stored_side → w.session.height ≤ max_stored_side → length bytes ≡ 2 * (w.session.height * w.session.width)
    → first_of (store_table w.session.width w.session.height (world_after (build e scratch) w).maps.pairs bytes) ≡ 0
built_storable w e scratch bytes done pairs wide tall room =
    let s = w.session in
    let g = build_granted s w.sheet w.maps scratch e refl done in
    let l = active-limits s g.open_sheet in
    rw (done, lt-leb 4 e (omega arith))
    (on-copper-storable (copper_of w.sheet s.width) s.width s.height wide tall (engine_pairs s w.sheet e)
    (pairs-on-copper s w.sheet e l.wide l.high g.held) bytes (active_sides s g.open_sheet) room)
