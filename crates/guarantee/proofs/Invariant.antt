-- What holds between two entries of a list: session and sheet agree with the board, and the session is sound; and while the maps are the session's own, a
-- current map is its engine's map of the sheet, a lowered cutter stands free of copper, and the closest approach is recorded. And what a gate says then, and an
-- exact map.
-- Assumes nothing.
use mathlib.Core.Path.{◌≡◌, refl, sym, subst, ◌∙◌}
use mathlib.Core.Bool.{Bool, true, false, not}
use Prim.Native.Nat.{ℕ, ◌*◌, ◌<◌, ◌≤◌}
use native.Mathlib.Omega.{arith}
use lib.Dec.{eqb}
use lib.ListN.{length}
use borrow.Author.Tests.{ne_eqb}
use Rattle.raster.specs.Distance.{apart, Copper, Clear, ClearBetween}
use Rattle.raster.specs.Pixels.{index}
use Rattle.raster.specs.Sheet.{copper_of}
use Rattle.cutter.specs.Gates.{passes_at}
use Rattle.session.specs.declared.Session.{Session}
use Rattle.session.specs.State.{sound, active}
use Rattle.session.specs.Lists.{World}
use Rattle.session.proofs.Granted.{Limited, active-limits}
use Rattle.guarantee.specs.Board.{Board}
use Rattle.guarantee.specs.Claims.{within_fraction, Close, Agree, Free, ApproachRecorded, TrueApproachRecorded}
use Rattle.guarantee.proofs.Gates.{EngineMap, gate_clear, gate_close, in_fraction}
use Rattle.guarantee.proofs.Approach.{least_distance, same-least}
use Rattle.guarantee.proofs.Sound.{current-active, known_engine_lem}

pub record CurrentMap (w : World) : Type 0 where
  pub whole : length w.sheet ≡ w.session.height * w.session.width
  pub map_is : EngineMap w.session w.sheet w.session.engine w.maps

pub record Owned (b : Board) (w : World) : Type 0 where
  pub built : w.session.current ≡ true → CurrentMap w
  pub stands : w.session.lowered ≡ true → Free w w.session.x w.session.y
  pub approach : ApproachRecorded b w

pub record Inv (b : Board) (w : World) (own : Bool) : Type 0 where
  pub agree : Agree b w
  pub fine : sound w.session ≡ true
  pub owned : own ≡ true → Owned b w

-- an open sheet has a side other than 0
pub opens : (s : Session) → active s ≡ true → true ≡ not (eqb s.width 0)
opens s e = let l = active-limits s e in rw (ne_eqb s.width 0 (omega (arith, l.some)))

module _ {b : Board} {w : World} {own : Bool} (inv : Inv b w own) where
  -- the board's copper is the sheet's
  on_sheet_lem : {i j : ℕ} → Copper b.copper b.width b.height i j → Copper (copper_of w.sheet w.session.width) w.session.width w.session.height i j
  on_sheet_lem {i} {j} c =
      let a = inv.agree in
      let x : i < w.session.width = omega (arith, c.across, a.width) in
      let y : j < w.session.height = omega (arith, c.down, a.height) in
      record { across = x; down = y; is_copper = a.copper i j x y ∙ c.is_copper }

  on_board : {i j : ℕ} → Copper (copper_of w.sheet w.session.width) w.session.width w.session.height i j → Copper b.copper b.width b.height i j
  on_board {i} {j} c =
      let a = inv.agree in
      record { across = omega (arith, c.across, a.width); down = omega (arith, c.down, a.height); is_copper = sym (a.copper i j c.across c.down) ∙ c.is_copper }

  pub above : (q x y : ℕ) → Clear (copper_of w.sheet w.session.width) w.session.width w.session.height x y q → Clear b.copper b.width b.height x y q
  above q x y clear i j c = clear i j (on_sheet_lem c)

  pub above-between : (q x y u v : ℕ) → ClearBetween (copper_of w.sheet w.session.width) w.session.width w.session.height x y u v q
      → ClearBetween b.copper b.width b.height x y u v q
  above-between q x y u v clear m n some i j c = clear m n some i j (on_sheet_lem c)

  -- ---- the gate at a pixel of a current map

  module _ (ours : own ≡ true) (open_sheet : active w.session ≡ true) (current : w.session.current ≡ true)
      (x y q : ℕ) (across : x < w.session.width) (down : y < w.session.height) where
    limits : Limited w.session
    limits = active-limits w.session open_sheet

    engine : (1 ≤ w.session.engine) × (w.session.engine ≤ 6)
    engine = known_engine_lem w.session inv.fine current

    -- it passes: all copper of the sheet is above q
    pub passed_clear : passes_at w.session.engine w.maps (index w.session.width x y) q ≡ true
        → Clear (copper_of w.sheet w.session.width) w.session.width w.session.height x y q
    passed_clear p =
        let m = (inv.owned ours).built current in
        gate_clear w.session limits.wide limits.high w.sheet m.whole x y across down w.session.engine w.maps m.map_is q p

    -- it fails: some copper of the board is within the engine's fraction of q
    pub failed_close : passes_at w.session.engine w.maps (index w.session.width x y) q ≡ false → Close b q x y
    failed_close p =
        let m = (inv.owned ours).built current in
        let n = gate_close w.session limits.wide limits.high w.sheet m.whole x y across down w.session.engine w.maps m.map_is q p in
        record {
          column = n.column;
          row = n.row;
          copper = on_board n.copper;
          fraction =
              subst (λ (e : ℕ). within_fraction e (apart x y n.column n.row) q ≡ true) inv.agree.engine
              (in_fraction w.session.engine (apart x y n.column n.row) q engine.0 engine.1 n.within);
        }

  -- ---- the closest approach on an exact map

  pub exact_approach : own ≡ true → TrueApproachRecorded b w
  exact_approach ours exact =
      let s = w.session in
      let current : s.current ≡ true = rw exact at inv.agree.current in
      let l = active-limits s (current-active s inv.fine current) in
      let e = inv.agree.engine ∙ exact in
      let pairs = rw e at ((inv.owned ours).built current).map_is.pairs in
      same-least (λ i j. on_board) (λ i j. on_sheet_lem)
      (least_distance (copper_of w.sheet s.width) s.width s.height l.wide l.high (pairs refl) (rw e at (inv.owned ours).approach))
