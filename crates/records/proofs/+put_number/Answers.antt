-- `records::put_number` meets its contract. A number below ten is one digit; another is its tenth, then its last digit.
use mathlib.Core.Path.{ap}
use mathlib.Core.List.{[], ◌∷◌}
use Prim.Native.Nat.{◌+◌, ◌-◌, ◌/◌, ◌%◌}
use native.Mathlib.Omega.{arith}
use lib.ListN.{length, length-append}
use Rattle.records.specs.Text.{decimal_digits}
use Rattle.records.specs.TextLaws.{put-none, put-more, digits_last, digits_more}
use Rattle.records.proofs.+put_number.Goals as goal

-- no digit
pub returns-then-most-eq0 : goal.returns-then-most-eq0
unfolding decimal_digits
returns-then-most-eq0 t c = rw c.if-most-eq0.true (put-none _ _)

-- one digit: it has its room, and is the number
pub put_byte-requires : goal.put_byte-requires
put_byte-requires t c = omega (arith, ap length (digits_last c.args.most c.args.n c.if-most-eq0.false c.if-n-lt10.true))

pub returns-then-n-lt10 : goal.returns-then-n-lt10
returns-then-n-lt10 t c = rw (digits_last c.args.most c.args.n c.if-most-eq0.false c.if-n-lt10.true, ← c.digit.ensures) c.put_byte.ensures

-- the digits before the last: fewer at most, and they have their room
pub put_number-end-requires : goal.put_number-end-requires
put_number-end-requires t c =
    let a = c.args in
    let d = digits_more a.most a.n c.if-most-eq0.false c.if-n-lt10.false in
    (omega (arith, c.if-most-eq0.false), omega (arith, ap length d, length-append (decimal_digits (a.most - 1) (a.n / 10)) ((48 + a.n % 10) ∷ [])))

-- the last digit likewise, and behind the others it completes the number
pub put_byte-requires-2 : goal.put_byte-requires-2
put_byte-requires-2 t c =
    let a = c.args in
    let d = digits_more a.most a.n c.if-most-eq0.false c.if-n-lt10.false in
    omega (
      arith,
      c.put_number-end.ensures.ends,
      c.put_number-end.auto.out,
      ap length d,
      length-append (decimal_digits (a.most - 1) (a.n / 10)) ((48 + a.n % 10) ∷ []),
    )

pub returns : goal.returns
returns t c =
    rw (digits_more c.args.most c.args.n c.if-most-eq0.false c.if-n-lt10.false, ← c.digit-2.ensures)
    (put-more c.put_number-end.ensures c.put_byte-2.ensures)
