-- A cutter's radius r and the pitch p of the pixels, both in micrometres, to the q of place: document 01, Calls, "radius", with the refusals
-- 18 and 15. And what q is for: a copper pixel at squared distance e is farther off than the radius exactly if e is above q.
-- Assumes nothing.
use Rattle.std.specs.Prelude.{◌≡◌, ◌↔◌, Bool, true, not, cond, ◌&&◌, [], ◌∷◌, ℕ, ◌*◌, ◌/◌, ◌<◌, ◌≤◌, eqb, leb, ltb}
use mathlib.Core.Logic.Iff
use Rattle.std.proofs.Common.{div-lt_iff_lt-mul, arith, leb-true}
use Rattle.std.proofs.Math.Nat.{one-le-mul}
use Rattle.std.proofs.lemmas.Bool.{not-false}
use Rattle.raster.specs.Limits.{max_q}
use Rattle.raster.specs.Refusal.{first_of}
use Rattle.raster.specs.RefusalLaws.{passed}
use Rattle.raster.specs.Tests.{and_left, and_right}

-- refusal 18 asks for 1 to 20,000 and 1 to 1,000
unfoldable pub measurable : (r p : ℕ) → Bool
measurable r p = (leb 1 r && leb r 20000) && (leb 1 p && leb p 1000)

-- the largest whole number not above r² / p²
abbrev pub squares : (r p : ℕ) → ℕ
squares r p = r * r / (p * p)

-- the answer: 18 goes before 15 here
unfoldable pub radius_answer : (r p : ℕ) → ℕ
radius_answer r p = first_of ((not (measurable r p), 18) ∷ (ltb max_q (squares r p), 15) ∷ [])

-- q, and 0 beside a refusal
unfoldable pub radius_q : (r p : ℕ) → ℕ
radius_q r p = cond (eqb (radius_answer r p) 0) (squares r p) 0

-- what r and p are where they can be measured
pub record Measurable (r p : ℕ) : Type 0 where
  pub radius_limit : r ≤ 20000
  pub some_pitch : 1 ≤ p
  pub pitch_limit : p ≤ 1000

pub measured : (r p : ℕ) → measurable r p ≡ true → Measurable r p
unfolding measurable
measured r p e =
    let c = and_left (leb 1 r && leb r 20000) _ e in
    let d = and_right (leb 1 r && leb r 20000) _ e in record {
      radius_limit = leb-true r 20000 (and_right (leb 1 r) _ c);
      some_pitch = leb-true 1 p (and_left (leb 1 p) _ d);
      pitch_limit = leb-true p 1000 (and_right (leb 1 p) _ d);
    }

-- the theorem: when the answer is 0, e × p² > r² exactly if e > q
pub clearance : (r p e : ℕ) → radius_answer r p ≡ 0 → (r * r < e * (p * p)) ↔ (radius_q r p < e)
unfolding radius_answer radius_q
clearance r p e done =
    let m = measured r p (not-false _ (passed (not (measurable r p)) 18 _ (omega arith) done).0) in
    rw done (Iff.symm (div-lt_iff_lt-mul (one-le-mul m.some_pitch m.some_pitch)))
