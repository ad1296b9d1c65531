-- The two tables of differences. One test, which antt computes, goes over all entries of a table; by it each one and its g make n (`listed`), and n less the
-- entry is the least over all whole h and k (`table_rule`).
-- Assumes nothing.
use mathlib.Core.Path.{◌≡◌}
use mathlib.Core.List.{List}
use mathlib.Core.Bool.{Bool, false, not}
use Prim.Native.Nat.{ℕ, ◌+◌, ◌-◌, ◌≤◌}
use native.Mathlib.Omega.{arith}
use lib.Dec.{eqb}
use lib.ListN.{length, get_or}
use borrow.Author.Tests.{eqb-true, not-false}
use Rattle.raster.specs.Loop.{any_below}
use Rattle.raster.specs.LoopLaws.{any_false}
use Rattle.skeleton.specs.Table.{g, Rule}
use Rattle.skeleton.specs.Bands.{Listed}
use Rattle.skeleton.proofs.Outside.{g_rule}

module _ {corner : Bool} {s : List ℕ} where
  -- a table that passes the test: no entry is wrong
  pub listed : length s ≡ 400 → any_below 400 (λ k. not (eqb (get_or s k 0 + g corner (k + 1)) (k + 1))) ≡ false → Listed corner s
  listed long none = record { long = long; entry = λ k l. eqb-true _ _ (not-false _ (any_false 400 _ k none l)) }

  -- n less its entry, for n from 1 to 400, is the least (h − 1)² + k², or (h − 1)² + (k − 1)², over all whole h, k with h² + k² at least n
  pub table_rule : Listed corner s → (n : ℕ) → 1 ≤ n → n ≤ 400 → Rule corner n (n - get_or s (n - 1) 0)
  table_rule t n one small =
      let e : n - 1 + 1 ≡ n = omega arith in
      let d : n - get_or s (n - 1) 0 ≡ g corner n = omega (arith, rw e at (t.entry (n - 1) (omega arith))) in
      rw d (g_rule corner n small)
