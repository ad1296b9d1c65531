-- `records::put_line` meets its contract: number, space, answer and line feed are written one after the other.
use native.Mathlib.Omega.{arith}
use Rattle.records.specs.Text.{answer_line}
use Rattle.records.specs.TextLaws.{put-more, line_length}
use Rattle.records.proofs.put_line.Goals as goal

pub put_number-numbered-requires : goal.put_number-numbered-requires
put_number-numbered-requires c = let a = c.args in omega (arith, line_length a.number a.answer)

pub put_byte-spaced-requires : goal.put_byte-spaced-requires
put_byte-spaced-requires c =
    let a = c.args in
    omega (arith, line_length a.number a.answer, c.put_number-numbered.ensures.ends, c.put_number-numbered.auto.out)

pub put_number-answered-requires : goal.put_number-answered-requires
put_number-answered-requires c =
    let a = c.args in
    omega (arith, line_length a.number a.answer, c.put_number-numbered.ensures.ends, c.put_number-numbered.auto.out, c.put_byte-spaced.ensures.ends, c.put_byte-spaced.auto.out)

pub put_byte-requires : goal.put_byte-requires
put_byte-requires c =
    let a = c.args in
    omega (
      arith,
      line_length a.number a.answer,
      c.put_number-numbered.ensures.ends,
      c.put_number-numbered.auto.out,
      c.put_byte-spaced.ensures.ends,
      c.put_byte-spaced.auto.out,
      c.put_number-answered.ensures.ends,
      c.put_number-answered.auto.out,
    )

pub returns : goal.returns
unfolding answer_line
returns c =
    put-more c.put_number-numbered.ensures (put-more c.put_byte-spaced.ensures (put-more c.put_number-answered.ensures c.put_byte.ensures))
