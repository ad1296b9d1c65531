-- `rebuild::rebuild` meets its contract: the sheet starts at 0, and the two passes together rebuild it (`passes_rebuild`).
use native.Mathlib.Omega.{arith}
use lib.ListN.{length, get_or-replicate}
use Rattle.rebuild.proofs.Passing.{passes_rebuild}
use Rattle.rebuild.proofs.rebuild.Goals as goal

pub returns : goal.returns
returns c =
    let zero = c.fill.ensures.after (λ y e. e) in
    passes_rebuild c.args.map.now c.args.w c.args.h c.args.marks.now (omega arith)
    (λ p l. rw zero (get_or-replicate (length c.args.out.now) p 0 0 (omega arith)))
    c.pass.ensures c.pass-2.ensures
