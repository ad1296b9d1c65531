-- The text of a job: document 01, "Job file", what the program prints. A line a record: its number, a space, its answer, a line feed.
-- Assumes nothing.
use Rattle.std.specs.Prelude.{cond, List, [], ◌∷◌, ◌++◌, ◌≡◌, ℕ, zero, suc, ◌+◌, ◌/◌, ◌%◌, ltb, length, take, drop}

-- the last decimal digits of n, at most so many, with no zero in front
unfoldable pub decimal_digits : (most n : ℕ) → List ℕ
decimal_digits zero n = []
decimal_digits (suc k) n = cond (ltb n 10) ((48 + n) ∷ []) (decimal_digits k (n / 10) ++ ((48 + n % 10) ∷ []))

-- a number of up to 32 bits in decimal
abbrev pub decimal : ℕ → List ℕ
decimal n = decimal_digits 10 n

-- number, space, answer, line feed
unfoldable pub answer_line : (number answer : ℕ) → List ℕ
answer_line i a = decimal i ++ ((32 ∷ []) ++ (decimal a ++ (10 ∷ [])))

-- the lines of answers, numbered from i on
unfoldable pub text_from : (i : ℕ) → List ℕ → List ℕ
text_from i [] = []
text_from i (a ∷ rest) = answer_line i a ++ text_from (i + 1) rest

-- ---- writing text into a buffer

-- a text stands at the front of a buffer, and the rest is as it was
abbrev pub written : (text out : List ℕ) → List ℕ
written text out = text ++ drop (length text) out

-- a text was written at a place of a buffer: it ends at `end`, and the rest of the buffer is as it was
pub record Put (out : List ℕ) (at : ℕ) (text : List ℕ) (end : ℕ) (after : List ℕ) : Type 0 where
  pub ends : end ≡ at + length text
  pub front : take end after ≡ take at out ++ text
  pub back : drop end after ≡ drop end out
