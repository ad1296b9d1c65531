use Rattle.std.proofs.Common.{arith, to_z, of_z, ◌≡◌, ◌∙◌}
use mir.Syntax.{w32}
use mir.ValLaws.{to_z-of_z}
use Rattle.exact.proofs.Runs.{across_site, along_site, run_more}
use Rattle.exact.proofs.write_run.Goals as goal

pub loop-x-preserved : goal.loop-x-preserved
loop-x-preserved c =
    let e = to_z-of_z w32 _ (record { sfits = c.column_way.type_inv }) ∙ c.column_way.ensures.0 ∙ across_site c.args.s (omega arith) c.loop-x.x in
    let d = along_site c.args.s (omega arith) (λ b. to_z w32 (of_z w32 c.args.v)) in
    run_more c.loop-x.invariant (omega arith) (omega arith) e d c.put_at.ensures

pub returns : goal.returns
returns c =
    let e : c.loop-x.x ≡ c.args.to = omega arith in
    simp (to_z-of_z, c.ranges.v) at (rw e at c.loop-x.invariant)
