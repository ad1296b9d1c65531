-- `candidate::straight` meets its contract: two candidates in turn are one write (`written_next`).
use lib.IntN.{pos, negsuc}
use mir.ValLaws.{to_z-of_z}
use Rattle.candidate.proofs.Carried.{fits-dx, fits-dy}
use Rattle.candidate.proofs.Offer.{written_first, written_next, written_last}
use Rattle.candidate.proofs.straight.Goals as goal

pub returns : goal.returns
returns c =
    let i = c.requires.inside in
    let at = c.args.at in
    let m = c.args.map.now in
    let a = written_next at m (pos 0) i (written_first at m c.read-d.ensures) c.better-a.ensures in
    let v = written_next at m (negsuc 0) i a c.better-b.ensures in
    let r = written_last at m i v (simp (to_z-of_z, fits-dx v.keyed, fits-dy v.keyed) at c.put_at.ensures) in
    record { written = r.0; handed_on = r.1 }
