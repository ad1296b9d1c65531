-- Signed numbers: a component made positive, and a vector's two components as one number that keeps their order.
-- Assumes nothing.
use mathlib.Core.Path.{◌≡◌, refl, ap, sym, ◌∙◌}
use mathlib.Core.Bool.{not, ◌&&◌, ◌||◌}
use Prim.Native.Nat.{ℕ, suc, ◌+◌, ◌*◌, ◌-◌, ◌<◌, ◌≤◌}
use native.Mathlib.Decide.{dec_lt}
use native.Mathlib.Omega.{arith}
use lib.Dec.{ltb}
use lib.IntN.{ℤ, pos, negsuc, ◌+ℤ◌, ◌*ℤ◌}
use lib.Signed.{lt_z}
use mir.Syntax.{w32}
use mir.Val.{SFits}
use borrow.Author.Tests.{lt-ltb, le-ltb}
use Rattle.raster.specs.Vector.{Short}
use Rattle.join.specs.Joined.{left_or_above}

-- ---- a component and k, which is not negative if k is large enough

abbrev pub raised : (k : ℕ) → ℤ → ℕ
raised k (pos n) = n + k
raised k (negsuc n) = k - suc n

pub raised_is : (k : ℕ) (z : ℤ) → Short z → 32768 ≤ k → z +ℤ pos k ≡ pos (raised k z)
raised_is k (pos n) s l = refl
raised_is k (negsuc n) s l = rw (le-ltb k (suc n) (omega arith)) refl

pub raised-small : (k : ℕ) (z : ℤ) → Short z → raised k z < k + 32768
raised-small k (pos n) s = omega arith
raised-small k (negsuc n) s = omega arith

raised-order : (a b : ℤ) → Short a → Short b → lt_z a b ≡ ltb (raised 32768 a) (raised 32768 b)
raised-order (pos m) (pos n) s t = elim (dec_lt m n) [
  | yes l ↦ lt-ltb m n l ∙ sym (lt-ltb (m + 32768) (n + 32768) (omega arith))
  | no l ↦ le-ltb m n (omega arith) ∙ sym (le-ltb (m + 32768) (n + 32768) (omega arith))
]
raised-order (pos m) (negsuc n) s t = sym (le-ltb (m + 32768) (32768 - suc n) (omega arith))
raised-order (negsuc m) (pos n) s t = sym (lt-ltb (32768 - suc m) (n + 32768) (omega arith))
raised-order (negsuc m) (negsuc n) s t = elim (dec_lt n m) [
  | yes l ↦ lt-ltb n m l ∙ sym (lt-ltb (32768 - suc m) (32768 - suc n) (omega arith))
  | no l ↦ le-ltb n m (omega arith) ∙ sym (le-ltb (32768 - suc m) (32768 - suc n) (omega arith))
]

-- ---- the key of a vector: 65536 dx + (dy + 32768)

-- its first part
abbrev times_k : ℤ → ℤ
times_k (pos n) = pos (65536 * n)
times_k (negsuc n) = negsuc (65536 * n + 65535)

times_is : (dx : ℤ) → pos 65536 *ℤ dx ≡ times_k dx
times_is (pos n) = refl
times_is (negsuc n) = let e : 65536 * suc n ≡ suc (65536 * n + 65535) = omega arith in rw e refl

-- and all of it, where the last part is r
abbrev key : (dx : ℤ) (r : ℕ) → ℤ
key (pos n) r = pos (65536 * n + r)
key (negsuc n) r = negsuc (65536 * n + (65535 - r))

key_is : (dx dy : ℤ) → Short dy → pos 65536 *ℤ dx +ℤ (dy +ℤ pos 32768) ≡ key dx (raised 32768 dy)
key_is dx dy s = rw (times_is dx, raised_is 32768 dy s (omega arith)) (go dx (raised-small 32768 dy s))
  where
    go : (d : ℤ) {r : ℕ} → r < 65536 → times_k d +ℤ pos r ≡ key d r
    go (pos n) l = refl
    go (negsuc n) {r} l = rw (lt-ltb r (suc (65536 * n + 65535)) (omega arith)) (ap negsuc (omega arith))

-- 32 bits hold it and its parts
pub times_fits : (dx : ℤ) → Short dx → SFits w32 (pos 65536 *ℤ dx)
times_fits dx s = rw (times_is dx) (go dx s)
  where
    go : (d : ℤ) → Short d → SFits w32 (times_k d)
    go (pos n) s = omega arith
    go (negsuc n) s = omega arith

pub raised-fits : (dy : ℤ) → Short dy → SFits w32 (dy +ℤ pos 32768)
raised-fits dy s = rw (raised_is 32768 dy s (omega arith)) (let l = raised-small 32768 dy s in omega arith)

pub key_fits : (dx dy : ℤ) → Short dx → Short dy → SFits w32 (pos 65536 *ℤ dx +ℤ (dy +ℤ pos 32768))
key_fits dx dy s t = rw (key_is dx dy t) (go dx s (raised-small 32768 dy t))
  where
    go : (d : ℤ) → Short d → {r : ℕ} → r < 65536 → SFits w32 (key d r)
    go (pos n) s l = omega arith
    go (negsuc n) s l = omega arith

-- two numbers with a last part below 65536 each
parts : (m n a b : ℕ) → a < 65536 → b < 65536 → ltb (65536 * m + a) (65536 * n + b) ≡ ltb m n || (not (ltb n m) && ltb a b)
parts m n a b s t = elim (dec_lt m n) [
  | yes l ↦ lt-ltb (65536 * m + a) (65536 * n + b) (omega arith) ∙ rw (lt-ltb m n l) refl
  | no l ↦ elim (dec_lt n m) [
    | yes k ↦ le-ltb (65536 * m + a) (65536 * n + b) (omega arith) ∙ rw (le-ltb m n (omega arith), lt-ltb n m k) refl
    | no k ↦ let e : m ≡ n = omega arith in rw (e, le-ltb n n (omega arith)) (last (dec_lt a b))
  ]
]
  where
    last : Dec (a < b) → ltb (65536 * n + a) (65536 * n + b) ≡ ltb a b
    last (yes l) = lt-ltb (65536 * n + a) (65536 * n + b) (omega arith) ∙ sym (lt-ltb a b l)
    last (no l) = le-ltb (65536 * n + a) (65536 * n + b) (omega arith) ∙ sym (le-ltb a b (omega arith))

mirrored : (a b : ℕ) → a < 65536 → b < 65536 → ltb (65535 - b) (65535 - a) ≡ ltb a b
mirrored a b s t = elim (dec_lt a b) [
  | yes l ↦ lt-ltb (65535 - b) (65535 - a) (omega arith) ∙ sym (lt-ltb a b l)
  | no l ↦ le-ltb (65535 - b) (65535 - a) (omega arith) ∙ sym (le-ltb a b (omega arith))
]

-- keys are in the order of their vectors
pub key-order : (ax ay bx by : ℤ) → Short ay → Short by
    → lt_z (pos 65536 *ℤ ax +ℤ (ay +ℤ pos 32768)) (pos 65536 *ℤ bx +ℤ (by +ℤ pos 32768)) ≡ left_or_above ax ay bx by
key-order ax ay bx by s t =
    rw (key_is ax ay s, key_is bx by t, raised-order ay by s t) (go ax bx (raised-small 32768 ay s) (raised-small 32768 by t))
  where
    go : (u v : ℤ) {a b : ℕ} → a < 65536 → b < 65536 → lt_z (key u a) (key v b) ≡ lt_z u v || (not (lt_z v u) && ltb a b)
    go (pos m) (pos n) {a} {b} l k = parts m n a b l k
    go (pos m) (negsuc n) l k = refl
    go (negsuc m) (pos n) l k = refl
    go (negsuc m) (negsuc n) {a} {b} l k = rw (← mirrored a b l k) (parts n m (65535 - b) (65535 - a) (omega arith) (omega arith))
