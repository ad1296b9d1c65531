-- The part of the lent map that holds row y, as the place where it starts and its length: document 01, "map row".
-- Assumes nothing.
use Rattle.std.specs.Prelude.{cond, List, ℕ, ◌*◌, ℤ}
use Rattle.session.specs.declared.Session.{Session}
use Rattle.session.specs.Calls.{has_row}
use Rattle.abi.specs.declared.Span.{Span}

-- an empty part is from 0
abbrev pub nowhere : Span
nowhere = record { from = 0; len = 0 }

-- 2 × W numbers, and before them y such rows
abbrev pub row_span : Session → List ℤ → (y : ℕ) → Span
row_span s map y = cond (has_row s map y) (record { from = 2 * (y * s.width); len = 2 * s.width }) nowhere
