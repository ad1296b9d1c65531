-- The limits that document 01 sets.
-- Assumes nothing.
use Rattle.std.specs.Prelude.{Bool, ◌&&◌, ℕ, leb}

-- "Sheet, map, session": the longest side of a sheet
abbrev pub max_side : ℕ
max_side = 2048

-- a side of 1 to 2,048 pixels
abbrev pub side : ℕ → Bool
side n = leb 1 n && leb n max_side

-- the table of refused input, 15: the largest q
abbrev pub max_q : ℕ
max_q = 4194304

-- the table of refused input, 17: the most steps of a run
abbrev pub max_count : ℕ
max_count = 2047
