-- `cutter::Cutter::look_with` meets its contract: the two tests of `passes_at`, at a pixel that the map holds, and its size.
use mathlib.Core.Path.{◌≡◌, refl}
use mathlib.Core.Bool.{Bool, true, false, cond}
use Prim.Native.Nat.{ℕ}
use Rattle.std.specs.Prelude.{None, Some}
use Rattle.raster.specs.Gate.{passes}
use Rattle.cutter.specs.Gates.{passes_at}
use Rattle.cutter.specs.Closest.{closest_with}
use Rattle.cutter.proofs.Cutter.look_with.Goals as goal

none_seen : (u : Bool) (a : ℕ) → None ≡ cond u None (Some a) → u ≡ true
none_seen true a e = refl
none_seen false a e = cc

some_seen : (u : Bool) (a b : ℕ) → Some b ≡ cond u None (Some a) → (u ≡ false) × (a ≡ b)
some_seen true a b e = cc
some_seen false a b e = (refl, cc)

pub returns-in-None-clause-stopped : goal.returns-in-None-clause-stopped
unfolding passes_at
returns-in-None-clause-stopped c = rw (none_seen _ _ (rw c.requires.1.kind at c.in-None.ensures))

pub returns-in-None-clause-met : goal.returns-in-None-clause-met
unfolding closest_with
returns-in-None-clause-met c = rw (none_seen _ _ (rw c.requires.1.kind at c.in-None.ensures))

pub returns-in-Some-clause-stopped : goal.returns-in-Some-clause-stopped
unfolding passes_at passes
returns-in-Some-clause-stopped c =
    let g = c.requires.1 in
    let seen = some_seen _ _ _ (rw g.kind at c.in-Some.ensures) in
    rw (seen.0, seen.1, c.passes.ensures, g.times, g.limit)

pub returns-in-Some-clause-met : goal.returns-in-Some-clause-met
unfolding closest_with
returns-in-Some-clause-met c =
    let seen = some_seen _ _ _ (rw c.requires.1.kind at c.in-Some.ensures) in
    rw (seen.0, seen.1, c.nearer.ensures)
