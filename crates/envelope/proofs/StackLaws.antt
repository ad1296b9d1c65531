-- Laws of the entry that holds a place, and of a walk over the entries from the last to the first.
-- Assumes nothing.
use Prim.Native.Nat.{ℕ, zero, suc, ◌-◌, ◌<◌, ◌≤◌}
use native.Mathlib.Omega.{arith}
use mathlib.Core.Path.{◌≡◌, refl, ◌∙◌}
use mathlib.Core.List.{List}
use lib.ListN.{get_or}
use borrow.Author.Tests.{le-leb, lt-leb}
use Rattle.envelope.specs.Stack.{holder}
use Rattle.envelope.specs.Best.{no_site}

-- with no entry nothing holds x
pub holder-none : (site start : List ℕ) (x : ℕ) → holder site start 0 x ≡ no_site
unfolding holder
holder-none site start x = refl

-- the top entry holds x from its start on
pub holder-top : (site start : List ℕ) (c x : ℕ) → 0 < c → get_or start (c - 1) 0 ≤ x → holder site start c x ≡ get_or site (c - 1) 0
unfolding holder
holder-top site start zero x p h = absurd (omega arith)
holder-top site start (suc j) x p h =
    let e : suc j - 1 ≡ j = omega arith in
    let h' : get_or start j 0 ≤ x = rw e at h in
    rw e (simp (le-leb _ _ h'))

-- before it the entries below do
pub holder-under : (site start : List ℕ) (c x : ℕ) → 0 < c → x < get_or start (c - 1) 0 → holder site start c x ≡ holder site start (c - 1) x
unfolding holder
holder-under site start zero x p h = absurd (omega arith)
holder-under site start (suc j) x p h =
    let e : suc j - 1 ≡ j = omega arith in
    let h' : x < get_or start j 0 = rw e at h in
    rw e (simp (lt-leb _ _ h'))

-- ---- the walk

-- of the line's n places, those before `to` are held by the first c entries
pub record Unstacked (n : ℕ) (site start : List ℕ) (count c to : ℕ) : Type 0 where
  pub few : c ≤ count
  pub on : to ≤ n
  pub left : (x : ℕ) → x < to → holder site start count x ≡ holder site start c x

module _ {n : ℕ} {site start : List ℕ} {count : ℕ} where
  pub unstack_none : Unstacked n site start count count n
  unstack_none = record { few = omega arith; on = omega arith; left = λ x l. refl }

  module _ {c to f : ℕ} (u : Unstacked n site start count c to) (some : 0 < c) (first : f ≡ get_or start (c - 1) 0) where
    -- the last entry holds the places from f on
    pub unstack_top : (x : ℕ) → f ≤ x → x < to → holder site start count x ≡ get_or site (c - 1) 0
    unstack_top x h l = u.left x l ∙ holder-top site start c x some (omega arith)

    -- the others hold those before it
    pub unstack_more : {b : ℕ} → b ≤ to → b ≤ f → Unstacked n site start count (c - 1) b
    unstack_more h k = record {
      few = omega (arith, u.few);
      on = omega (arith, u.on);
      left = λ x l. u.left x (omega arith) ∙ holder-under site start c x some (omega arith);
    }

  -- no entry is left: nothing holds the first places
  pub unstack_all : {c to : ℕ} → Unstacked n site start count c to → c ≡ 0 → (x : ℕ) → x < to → holder site start count x ≡ no_site
  unstack_all u z x l = u.left x l ∙ rw z (holder-none site start x)
