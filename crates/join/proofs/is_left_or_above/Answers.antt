-- `join::is_left_or_above` meets its contract: 32 bits hold both keys, and keys are in the order of their vectors.
use mir.ValLaws.{to_z-of_z}
use Rattle.join.proofs.Signed.{times_fits, raised-fits, key_fits, key-order}
use Rattle.join.proofs.is_left_or_above.Goals as goal

pub returns : goal.returns
returns c =
    let a = times_fits c.args.ax c.requires.0.0 in
    let b = raised-fits c.args.ay c.requires.0.1 in
    let d = times_fits c.args.bx c.requires.1.0 in
    let e = raised-fits c.args.by c.requires.1.1 in
    let f = key_fits c.args.ax c.args.ay c.requires.0.0 c.requires.0.1 in
    let g = key_fits c.args.bx c.args.by c.requires.1.0 c.requires.1.1 in
    simp (to_z-of_z, c.ranges.ax, c.ranges.ay, c.ranges.bx, c.ranges.by, a, b, d, e, f, g)
    (key-order c.args.ax c.args.ay c.args.bx c.args.by c.requires.0.1 c.requires.1.1)
