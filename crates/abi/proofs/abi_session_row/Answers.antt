-- `abi::abi_session_row` meets its contract: a row that is handed out has 2 × W numbers, not none, and y such rows stand before it.
use mathlib.Core.Path.{◌≡◌, refl, sym, ap, ◌∙◌}
use mathlib.Core.Bool.{Bool, true, false}
use mathlib.Core.List.{List}
use Prim.Native.Nat.{ℕ, min, ◌*◌, ◌-◌, ◌<◌, ◌≤◌}
use native.Mathlib.Nat.{mul-le-mul_right}
use native.Mathlib.Omega.{arith}
use lib.Dec.{ltb}
use lib.IntN.{ℤ}
use lib.ListN.{length, take, drop, length-take, length-drop}
use borrow.Author.Tests.{eqb-true, ltb-true}
use Rattle.raster.specs.PixelsLaws.{nothing}
use Rattle.raster.specs.Tests.{and_left, and_right}
use Rattle.session.specs.declared.Session.{Session}
use Rattle.session.specs.State.{active}
use Rattle.session.specs.Calls.{has_row, map_row}
use Rattle.session.proofs.Granted.{active-limits}
use Rattle.abi.proofs.abi_session_row.Goals.{Else-len-eq0}
use Rattle.abi.proofs.abi_session_row.Goals as goal

-- what a row is that the map has
record Handed (s : Session) (map : List ℤ) (y : ℕ) : Type 0 where
  has : has_row s map y ≡ true
  long : length (map_row s map y) ≡ 2 * s.width
  some : 0 < s.width
  small : s.width ≤ 2048

handed : (s : Session) (map : List ℤ) (y : ℕ) → has_row s map y ≡ true → Handed s map y
handed s map y e =
    let fit = and_right (active s) _ e in
    let below = ltb-true y s.height (and_left (ltb y s.height) _ fit) in
    let long : length map ≡ 2 * (s.height * s.width) = eqb-true _ _ (and_right (ltb y s.height) _ fit) in
    let fits : 2 * s.width ≤ length map - 2 * (y * s.width) = omega (arith, long, mul-le-mul_right s.width below) in
    let counted : length (take (2 * s.width) (drop (2 * (y * s.width)) map)) ≡ 2 * s.width =
    length-take (2 * s.width) (drop (2 * (y * s.width)) map) ∙ ap (min (2 * s.width)) (length-drop (2 * (y * s.width)) map) ∙ omega arith
    in
    let limits = active-limits s (and_left (active s) _ e) in
    record { has = e; long = rw e counted; some = limits.some; small = limits.wide }

-- the map has the row, or the row is empty
handed_if : (s : Session) (map : List ℤ) (y : ℕ) → (length (map_row s map y) ≡ 0 → ⊥) → Handed s map y
handed_if s map y some = go (has_row s map y) refl
  where
    go : (t : Bool) → has_row s map y ≡ t → Handed s map y
    go false e = absurd (some (rw e))
    go true e = handed s map y e

-- an empty row is one that the map does not have
empty : (s : Session) (map : List ℤ) (y : ℕ) → length (map_row s map y) ≡ 0 → has_row s map y ≡ false
empty s map y none = go (has_row s map y) refl
  where
    go : (t : Bool) → has_row s map y ≡ t → has_row s map y ≡ false
    go false e = e
    go true e = let h = handed s map y e in absurd (omega (arith, none, h.long, h.some))

of : (c : Else-len-eq0) → Handed c.args.s c.args.map.now c.args.y
of c = handed_if _ _ _ (λ e. c.if-len-eq0.false (ap length c.map_row-len.ensures ∙ e))

-- as many numbers as the row has
counted : (c : Else-len-eq0) → length c.map_row-len.result.now ≡ 2 * c.args.s.width
counted c = ap length c.map_row-len.ensures ∙ (of c).long

pub returns-then-len-eq0 : goal.returns-then-len-eq0
returns-then-len-eq0 c =
    let a = c.args in
    let e = sym (ap length c.map_row-len.ensures) ∙ c.if-len-eq0.true in
    let none = empty a.s a.map.now a.y e in record { spanned = rw none; row_there = nothing _ e }

pub returns : goal.returns
returns c =
    let a = c.args in
    let n : length c.map_row-len.result.now * a.y ≡ 2 * (a.y * a.s.width) = omega (arith, ap (λ (n : ℕ). n * a.y) (counted c)) in record { spanned = rw (n, counted c, (of c).has); row_there = rw (n, counted c, (of c).has) }
