-- `candidate::KeyedVector::better` meets its contract: keys alone say what replaces what (`offered`), and each number is picked by that.
use mathlib.Core.Path.{refl, ◌∙◌}
use lib.Dec.{ltb}
use mir.Syntax.{w32}
use mir.ValLaws.{to_z-of_z}
use Rattle.candidate.proofs.Carried.{fits-dx, fits-dy, given-dx, given-dy, side-fits}
use Rattle.candidate.proofs.Offer.{offered}
use Rattle.candidate.proofs.KeyedVector.better.Goals as goal

pub returns : goal.returns
returns c =
    let a = c.args in
    let d = c.requires.0.0 in
    let g = c.requires.0.1 in
    let u = c.requires.1 in
    let e = simp (to_z-of_z, c.ranges.o) at c.key_after-key.ensures in
    offered a.self a.c a.o d g u c.key_after-key.result e.candidate e.none (ltb c.key_after-key.result a.self.key) refl
    (to_z-of_z w32 _ (record { sfits = c.pick.type_inv }) ∙ (simp (to_z-of_z, given-dx g, c.ranges.o, side-fits g a.o u, fits-dx d) at c.pick.ensures))
    (to_z-of_z w32 _ (record { sfits = c.pick-2.type_inv }) ∙ (simp (to_z-of_z, given-dy g, fits-dy d) at c.pick-2.ensures))
    c.pick-3.ensures
