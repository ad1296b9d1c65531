-- What the six engines' gates promise, in one form: document 01, "Engines", document 02, C-12, and the fractions of demand 3.
-- Assumes nothing.
use mathlib.Core.Path.{◌≡◌, refl, sym, ◌∙◌}
use mathlib.Core.Bool.{Bool, true, false, cond, ◌||◌, true≢false}
use mathlib.Core.List.{List}
use Prim.Native.Nat.{ℕ, zero, suc, ◌*◌, ◌<◌, ◌≤◌}
use native.Mathlib.Omega.{arith}
use lib.Dec.{eqb}
use lib.ListN.{length}
use borrow.Author.Tests.{le-leb}
use Rattle.raster.specs.Distance.{Copper, Clear}
use Rattle.raster.specs.Gate.{Gate, passes, NearBy}
use Rattle.raster.specs.Limits.{max_side}
use Rattle.raster.specs.Pixels.{Mask, index}
use Rattle.raster.specs.Sheet.{copper_of}
use Rattle.scan.proofs.Theorems as scan
use Rattle.chamfer.specs.Engines.{fair_fraction}
use Rattle.chamfer.proofs.Theorems as chamfer
use Rattle.exact.proofs.Theorems as exact
use Rattle.cutter.specs.Kinds.{Maps, by_values, unlabelled_in, size_in}
use Rattle.cutter.specs.Gates.{gate_of, passes_at}
use Rattle.cutter.proofs.Lengths.{values_engine}
use Rattle.session.specs.declared.Session.{Session}
use Rattle.session.specs.Maps.{engine_pairs, engine_values}
use Rattle.guarantee.specs.Claims.{within_fraction}

-- the map of an engine's kind is its map of the sheet
pub record EngineMap (s : Session) (sheet : List ℕ) (e : ℕ) (m : Maps) : Type 0 where
  pub pairs : by_values e ≡ false → m.pairs ≡ engine_pairs s sheet e
  pub values : by_values e ≡ true → m.values ≡ engine_values s sheet e

-- the fraction of q within which some copper lies where an engine's gate fails: for pairs that of the gate itself
abbrev pub fraction_of : (engine : ℕ) → Gate
fraction_of e = cond (by_values e) (fair_fraction e) (gate_of e)

module _ (s : Session) (wide : s.width ≤ max_side) (tall : s.height ≤ max_side) (sheet : List ℕ) (whole : length sheet ≡ s.height * s.width) where
  abbrev copper : Mask
  copper = copper_of sheet s.width

  module _ (x y : ℕ) (across : x < s.width) (down : y < s.height) (e : ℕ) (m : Maps) (built : EngineMap s sheet e m) where
    abbrev p : ℕ
    p = index s.width x y

    -- what the gate promises at the pixel
    record Promise : Type 0 where
      labelled : (i j : ℕ) → Copper copper s.width s.height i j → unlabelled_in e m p ≡ false
      safe : (q : ℕ) → passes (gate_of e) (size_in e m p) q ≡ true → Clear copper s.width s.height x y q
      fair : (q : ℕ) → unlabelled_in e m p ≡ false → passes (gate_of e) (size_in e m p) q ≡ false → NearBy (fraction_of e) copper s.width s.height x y q

    by_values_lem : by_values e ≡ true → Promise
    by_values_lem k =
        let r = values_engine e k in
        let v = built.values k in
        record {
          labelled = λ i j c. rw (k, v) (chamfer.with_copper copper s.width s.height e r.0 r.1 x y across down wide tall i j c);
          safe = λ q t. chamfer.gate_safe copper s.width s.height e r.0 r.1 x y across down q (rw (k, v) at t);
          fair = λ q l t. rw k (chamfer.gate_fair copper s.width s.height e r.0 r.1 x y across down q (rw (k, v) at l) (rw (k, v) at t));
        }

    by_pairs : by_values e ≡ false → Promise
    by_pairs k = go (eqb e 1) refl
      where
        go : (t : Bool) → eqb e 1 ≡ t → Promise
        go true o = record {
          labelled = λ i j c. rw (k, built.pairs k, o) (exact.with_copper copper s.width s.height wide tall x y across down i j c);
          safe = λ q t. exact.gate_safe copper s.width s.height wide tall x y across down q (rw (k, built.pairs k, o) at t);
          fair = λ q l t. rw (k, o) (exact.gate_fair copper s.width s.height wide tall x y across down q (rw (k, built.pairs k, o) at l) (rw (k, built.pairs k, o) at t));
        }
        go false o = record {
          labelled = λ i j c. rw (k, built.pairs k, o) (scan.with_copper s.width s.height wide tall sheet whole (eqb e 2) x y across down i j c);
          safe = λ q t. scan.gate_safe s.width s.height wide tall sheet whole (eqb e 2) x y across down q (rw (k, built.pairs k, o) at t);
          fair = λ q l t. rw (k, o) (scan.gate_fair s.width s.height wide tall sheet whole (eqb e 2) x y across down q (rw (k, built.pairs k, o) at l) (rw (k, built.pairs k, o) at t));
        }

    promised : Promise
    promised = go (by_values e) refl
      where
        go : (t : Bool) → by_values e ≡ t → Promise
        go true k = by_values_lem k
        go false k = by_pairs k

    module _ (q : ℕ) where
      -- a cutter that passes has all copper above q
      pub gate_clear : passes_at e m p q ≡ true → Clear copper s.width s.height x y q
      unfolding passes_at
      gate_clear = go (unlabelled_in e m p) refl
        where
          go : (t : Bool) → unlabelled_in e m p ≡ t → t || passes (gate_of e) (size_in e m p) q ≡ true → Clear copper s.width s.height x y q
          go true u t = λ i j c. absurd (true≢false (sym u ∙ promised.labelled i j c))
          go false u t = promised.safe q t

      -- one that does not has some within the engine's fraction of q
      pub gate_close : passes_at e m p q ≡ false → NearBy (fraction_of e) copper s.width s.height x y q
      unfolding passes_at
      gate_close = go (unlabelled_in e m p) refl
        where
          go : (t : Bool) → unlabelled_in e m p ≡ t → t || passes (gate_of e) (size_in e m p) q ≡ false → NearBy (fraction_of e) copper s.width s.height x y q
          go true u t = absurd (true≢false t)
          go false u t = promised.fair q u t

-- the engines' fractions are the claim's
pub in_fraction : (e a q : ℕ) → 1 ≤ e → e ≤ 6 → (fraction_of e).den * a ≤ (fraction_of e).num * q → within_fraction e a q ≡ true
in_fraction zero a q l k f = absurd (omega arith)
in_fraction (suc zero) a q l k f = le-leb a q (omega arith)
in_fraction (suc (suc zero)) a q l k f = le-leb (144 * a) (169 * q) f
in_fraction (suc (suc (suc zero))) a q l k f = le-leb a (2 * q) (omega arith)
in_fraction (suc (suc (suc (suc zero)))) a q l k f = le-leb a (2 * q) (omega arith)
in_fraction (suc (suc (suc (suc (suc zero))))) a q l k f = le-leb a (2 * q) (omega arith)
in_fraction (suc (suc (suc (suc (suc (suc zero)))))) a q l k f = le-leb (4 * a) (5 * q) f
in_fraction (suc (suc (suc (suc (suc (suc (suc e))))))) a q l k f = absurd (omega arith)
