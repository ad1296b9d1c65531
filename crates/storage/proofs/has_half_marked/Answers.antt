-- `storage::has_half_marked` meets its contract: the blocks, one after the other, and what is left are all the pixels.
use mathlib.Core.Path.{◌≡◌, refl, sym, ap, ap₂, ◌∙◌}
use mathlib.Core.Bool.{Bool, ◌||◌}
use Prim.Native.Nat.{ℕ, zero, suc, ◌+◌, ◌-◌, ◌*◌, ◌/◌}
use native.Mathlib.Omega.{arith}
use borrow.Author.Rules.{rules}
use Rattle.raster.specs.Loop.{any_below}
use Rattle.raster.specs.LoopLaws.{any_join}
use Rattle.storage.specs.Stored.{half_marked}
use Rattle.storage.proofs.has_half_marked.Goals as goal

any_block : (n : ℕ) (f : ℕ → Bool) → any_below n (λ k. any_below 16 (λ p. f (16 * k + p))) ≡ any_below (16 * n) f
unfolding any_below
any_block zero f = refl
any_block (suc n) f =
    let e : 16 * suc n ≡ 16 * n + 16 = omega arith in
    rw e (ap (λ (t : Bool). any_below 16 (λ p. f (16 * n + p)) || t) (any_block n f) ∙ sym (any_join (16 * n) 16 f))

pub returns : goal.returns
returns c =
    let n = c.args.n in
    let f = half_marked c.args.bytes.now in
    let blocks : c.any_below-found.result ≡ any_below (n / 16) (λ k. any_below 16 (λ p. f (16 * k + p))) = search rules in
    let e : 16 * (n / 16) + (n - 16 * (n / 16)) ≡ n = omega arith in
    ap₂ ◌||◌ c.has_half_marked_from.ensures (blocks ∙ any_block (n / 16) f) ∙ (rw e at (sym (any_join (16 * (n / 16)) (n - 16 * (n / 16)) f)))
