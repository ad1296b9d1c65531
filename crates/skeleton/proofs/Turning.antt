-- Row after row of the skeleton: how it starts, one row more, a turn past the last row, and how it ends.
-- Assumes nothing.
use mathlib.Core.Path.{◌≡◌, ◌∙◌}
use mathlib.Core.List.{List}
use Prim.Native.Nat.{ℕ, ◌+◌, ◌*◌, ◌<◌, ◌≤◌}
use native.Mathlib.Decide.{dec_lt}
use native.Mathlib.Omega.{arith}
use lib.IntN.{ℤ}
use lib.ListN.{length}
use Rattle.raster.specs.PixelsLaws.{pixels_is}
use Rattle.raster.specs.Rows.{RowWritten}
use Rattle.raster.proofs.Rows.{row_other}
use Rattle.skeleton.specs.declared.Band.{Band}
use Rattle.skeleton.specs.Skeleton.{skeleton_of}
use Rattle.skeleton.specs.Bands.{Framed, BandOf, kept_in, Turning}
use Rattle.skeleton.proofs.Neighbours.{kept_is}

module _ {m : List ℤ} {w h : ℕ} {out : List ℕ} {above row below : Band} where
  pub turn-none : length out ≡ h * w → BandOf m w h 0 above → BandOf m w h 1 row → Framed w below → Turning m w h 0 out above row below
  turn-none n a r f = record { long = n; rows = λ i j k l b. absurd (omega arith); bands = λ l. (a, r); framed = (a.framed, (r.framed, f)) }

  module _ {y : ℕ} (t : Turning m w h y out above row below) where
    pub turn_more : {new : Band} {after : List ℕ} → y < h → BandOf m w h (y + 1 + 1) new → RowWritten (y * w) w (kept_in above row new) out after
        → Turning m w h (y + 1) after row new above
    turn_more {new} {after} l b o =
        let s = t.bands l in record {
          long = o.long ∙ t.long;
          rows = λ i j p q k. elim (dec_lt j y) [
            | yes e ↦ row_other w y o i j p (omega arith) ∙ t.rows i j p q e
            | no e ↦ let d : j ≡ y = omega arith in rw d (o.here i p ∙ kept_is m w h i y p l s.0 s.1 b)
          ];
          bands = λ k. (s.1, b);
          framed = (s.1.framed, (b.framed, s.0.framed));
        }

    pub turn-past : h ≤ y → Turning m w h (y + 1) out row below above
    turn-past l = record {
      long = t.long;
      rows = λ i j p q k. t.rows i j p q (omega arith);
      bands = λ k. absurd (omega arith);
      framed = (t.framed.1.0, (t.framed.1.1, t.framed.0));
    }

    pub turn-all : h ≤ y → out ≡ skeleton_of m w h
    unfolding skeleton_of
    turn-all l = pixels_is w h _ out 0 t.long (λ i j p q. t.rows i j p q (omega arith))
