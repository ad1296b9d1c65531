-- What splitting a job file answers: document 01, "Job file". The number of records and 0, or 0 records and 19.
-- Assumes nothing.
use Rattle.std.specs.Prelude.{◌≡◌, true, false, cond, List, ℕ, length}
use Rattle.std.proofs.Common.{ap, arith}
use Rattle.raster.specs.Tests.{cond_ind}
use Rattle.records.specs.Format.{is_job, records_of}
use Rattle.planner.specs.declared.Counted.{Counted}

unfoldable pub split_of : List ℕ → Counted
split_of bytes = cond (is_job bytes) (record { records = length (records_of bytes); answer = 0 }) (record { records = 0; answer = 19 })

-- what splitting answered
pub split_done : (job : List ℕ) {c : Counted} → c ≡ split_of job → c.answer ≡ 0 → (is_job job ≡ true) × (c.records ≡ length (records_of job))
unfolding split_of
split_done job {c} e done =
    cond_ind (λ (d : Counted). c ≡ d → (is_job job ≡ true) × (c.records ≡ length (records_of job))) (is_job job)
    (λ is q. (is, ap (λ (d : Counted). d.records) q))
    (λ _ q. absurd (omega (arith, done, ap (λ (d : Counted). d.answer) q))) e

pub split_refused : (job : List ℕ) {c : Counted} → c ≡ split_of job → (c.answer ≡ 0 → ⊥) → is_job job ≡ false
unfolding split_of
split_refused job {c} e some =
    cond_ind (λ (d : Counted). c ≡ d → is_job job ≡ false) (is_job job)
    (λ _ q. absurd (some (ap (λ (d : Counted). d.answer) q)))
    (λ is _. is) e
