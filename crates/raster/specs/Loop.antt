-- The two loops in which document 01 speaks ("top to bottom", "right to left"), over a step f: places 0 .. n − 1 upwards, n − 1 .. 0 downwards. And what is
-- asked of all places below n: whether one passes a test, how many do, the least number of them.
-- Assumes nothing.
use Rattle.std.specs.Prelude.{ℕ, zero, suc, min, Bool, false, cond, ◌||◌}

module _ {S : Type 0} (f : ℕ → S → S) where
  unfoldable pub ascend : ℕ → S → S
  ascend zero s = s
  ascend (suc n) s = f n (ascend n s)

  unfoldable pub descend : ℕ → S → S
  descend zero s = s
  descend (suc n) s = descend n (f n s)

-- some place below n passes the test
unfoldable pub any_below : ℕ → (ℕ → Bool) → Bool
any_below zero f = false
any_below (suc n) f = f n || any_below n f

-- how many places below n pass it
unfoldable pub count_below : ℕ → (ℕ → Bool) → ℕ
count_below zero f = 0
count_below (suc n) f = cond (f n) (suc (count_below n f)) (count_below n f)

-- the least of f 0 .. f (n − 1), and `top` if none of them is less
unfoldable pub least_below : (top n : ℕ) → (ℕ → ℕ) → ℕ
least_below top zero f = top
least_below top (suc n) f = min (f n) (least_below top n f)
