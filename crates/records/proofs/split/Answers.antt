use Rattle.std.proofs.Common.{◌≡◌, ◌+◌, ◌-◌, ◌≤◌, ◌<◌, ◌∙◌, refl, sym, suc, length, length-drop, arith, ap}
use Rattle.std.proofs.lemmas.Bool.{eqb-false, eqb-true}
use borrow.Author.Tests.{le-leb}
use Rattle.records.specs.Format.{length_here, records_in, is_job, records_of, record_count}
use Rattle.records.specs.FormatLaws.{none_is, some_is, size_fits, rest_is, splits-turn, records_turn, splits-not, splits_end, records_end}
use Rattle.records.proofs.split.Goals.{In_default, In-Some}
use Rattle.records.proofs.split.Goals as goal

pub returns-in_default : goal.returns-in_default
unfolding record_count is_job
returns-in_default c =
    let l = c.loop-rest in
    let j = c.args.job.now in
    let more = eqb-false (length l.rest.now) 0 (sym c.loop-rest-test.ensures) in
    let not = splits-not (length j - l.records) (length j - (l.records + 1)) l.rest.now (omega (arith, more)) (sym (none_is _ c.in_default.ensures)) (omega (arith, more)) refl in
    rw (le-leb (length j) 65536 (omega arith), l.invariant.splitting, not)

pub slice_bounds-rest-count : goal.slice_bounds-rest-count
slice_bounds-rest-count c = omega (arith, (some_is _ c.in-Some.ensures).0, size_fits c.loop-rest.rest.now)

pub slice_bounds-rest-start : goal.slice_bounds-rest-start
slice_bounds-rest-start c = let fits = slice_bounds-rest-count c in omega (arith, fits)

pub loop-rest-preserved : goal.loop-rest-preserved
loop-rest-preserved c =
    let l = c.loop-rest in
    let j = c.args.job.now in
    let more = eqb-false (length l.rest.now) 0 (sym c.loop-rest-test.ensures) in
    let is : (c.in-Some.length ≡ length_here l.rest.now) × (0 < c.in-Some.length) = some_is (length_here l.rest.now) c.in-Some.ensures in
    let one : length j - l.records ≡ suc (length j - (l.records + 1)) = omega (arith, more, l.invariant.left) in
    let fits : c.in-Some.length ≤ length l.rest.now = omega (arith, is.0, size_fits l.rest.now) in
    rw rest_is (record {
      splitting = l.invariant.splitting ∙ splits-turn (length j - l.records) (length j - (l.records + 1)) l.rest.now one is.0 (omega (arith, more)) (λ z. omega (arith, is.1, z));
      counted = omega (arith, l.invariant.counted, ap length (records_turn (length j - l.records) (length j - (l.records + 1)) l.rest.now one is.0 (omega (arith, more))));
      left = omega (arith, l.invariant.left, is.1, length-drop c.in-Some.length l.rest.now);
    })

pub returns : goal.returns
unfolding record_count is_job records_of
returns c =
    let l = c.loop-rest in
    let j = c.args.job.now in
    let none = eqb-true (length l.rest.now) 0 (sym c.loop-rest-test.ensures) in
    let n : length (records_in (length j) j) ≡ l.records = omega (arith, l.invariant.counted, ap length (records_end (length j - l.records) l.rest.now none)) in
    rw (le-leb (length j) 65536 (omega arith), l.invariant.splitting, splits_end (length j - l.records) l.rest.now none, n)
