-- A vector as one number of 32 bits, so that the code chooses between two vectors in one step.
-- Assumes nothing.
use Rattle.std.specs.Prelude.{ℕ, ◌/◌, ◌%◌, ℤ}
use Rattle.std.specs.Int.{w16, cast_signed}

-- word: a number that has the bits of dx in its lower half and those of dy in its upper one; these are its components
abbrev pub word_dx : ℕ → ℤ
word_dx n = cast_signed w16 (n % 65536)

abbrev pub word_dy : ℕ → ℤ
word_dy n = cast_signed w16 (n / 65536)
