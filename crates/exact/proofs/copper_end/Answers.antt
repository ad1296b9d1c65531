use mathlib.Core.Path.{◌≡◌, sym, ◌∙◌}
use mathlib.Core.Bool.{true}
use native.Mathlib.Omega.{arith}
use Rattle.exact.specs.Rows.{copper_from}
use Rattle.exact.proofs.Split.{copper-on}
use Rattle.exact.proofs.copper_end.Goals as goal

pub loop-x-preserved : goal.loop-x-preserved
loop-x-preserved c =
    let e : copper_from c.args.ways.now c.loop-x.x 8 ≡ true = sym c.is_copper.ensures ∙ c.if-not-is_copper.false in
    (omega arith, (omega arith, copper-on c.args.ways.now c.args.from c.loop-x.x e c.loop-x.invariant.1.1))

pub returns-else-not-is_copper : goal.returns-else-not-is_copper
returns-else-not-is_copper c =
    let e : copper_from c.args.ways.now c.loop-x.x 8 ≡ true = sym c.is_copper.ensures ∙ c.if-not-is_copper.false in
    record {
      after = omega arith;
      on = omega arith;
      copper = λ k i l. copper-on c.args.ways.now c.args.from c.loop-x.x e c.loop-x.invariant.1.1 k i (omega arith);
      some = λ i j. omega arith;
    }
