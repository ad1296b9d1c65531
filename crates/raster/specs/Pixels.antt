-- Pixels and lists: document 01, "Sheet, map, session". W × H pixels stand in one list, in rows from the top; x goes to the right, y down.
-- Assumes nothing.
use Rattle.std.specs.Prelude.{ℕ, zero, suc, ◌+◌, ◌*◌, ◌/◌, ◌%◌, List, [], ◌∷◌, Bool}

-- which pixels have something: copper, a mark
abbrev pub Mask : Type 0
Mask = ℕ → ℕ → Bool

-- where pixel (x, y) of a sheet of width w stands in the list
abbrev pub index : (w x y : ℕ) → ℕ
index w x y = y * w + x

-- the list of f 0, f 1, .. of n elements
unfoldable pub tabulate : {A : Type 0} → ℕ → (ℕ → A) → List A
tabulate zero f = []
tabulate (suc n) f = f 0 ∷ tabulate n (λ i. f (suc i))

-- the list that has f x y at pixel (x, y)
unfoldable pub pixels : {A : Type 0} (w h : ℕ) → (ℕ → ℕ → A) → List A
pixels w h f = tabulate (h * w) (λ i. f (i % w) (i / w))
