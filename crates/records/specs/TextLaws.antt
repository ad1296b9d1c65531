-- Laws of the text of a job: how long it gets, and how it is written piece by piece.
-- Assumes nothing.
use Rattle.std.specs.Prelude.{◌≡◌, refl, List, [], ◌∷◌, ◌++◌, ℕ, zero, suc, ◌+◌, ◌-◌, ◌*◌, ◌/◌, ◌%◌, ◌<◌, ◌≤◌, ltb, length, take, drop, set}
use Rattle.std.proofs.Common.{sym, ap, ◌∙◌, append_assoc, append-nil, arith, add-one, lt-ltb, le-ltb, length-append, take-append-drop, drop-drop, take-suc-set, drop-set-lt}
use Rattle.raster.specs.Tests.{cond_ind}
use Rattle.records.specs.Text.{decimal_digits, decimal, answer_line, written, Put}

-- ---- writing

-- nothing, one byte, and one piece after another
pub put-none : (out : List ℕ) (at : ℕ) → Put out at [] at out
put-none out at = record { ends = omega arith; front = sym (append-nil _); back = refl }

pub put_byte : (out : List ℕ) (at v : ℕ) → at < length out → Put out at (v ∷ []) (at + 1) (set out at v)
put_byte out at v h = record {
  ends = refl;
  front = rw add-one (take-suc-set out at v h);
  back = drop-set-lt (at + 1) out at v (omega arith);
}

pub put-more : {out mid after : List ℕ} {at p e : ℕ} {t u : List ℕ} → Put out at t p mid → Put mid p u e after → Put out at (t ++ u) e after
put-more {out} {mid} {after} {at} {p} {e} {t} {u} a b = record {
  ends = omega (arith, a.ends, b.ends, length-append t u);
  front = b.front ∙ ap (λ (l : List ℕ). l ++ u) a.front ∙ append_assoc (take at out) t u;
  back =
      let n : e ≡ p + length u = b.ends in
      b.back ∙ rw n (sym (drop-drop (length u) p mid) ∙ ap (drop (length u)) a.back ∙ drop-drop (length u) p out);
}

-- at the front
pub put_front : {out after text : List ℕ} {e : ℕ} → Put out 0 text e after → (e ≡ length text) × (after ≡ written text out)
put_front {out} {after} {text} {e} p =
    let n : e ≡ length text = omega (arith, p.ends) in
    (n, sym (take-append-drop e after) ∙ rw (p.front, p.back, n))

-- a number's digits: the last one, and those before it
pub digits_last : (most n : ℕ) → (most ≡ 0 → ⊥) → n < 10 → decimal_digits most n ≡ (48 + n) ∷ []
unfolding decimal_digits
digits_last zero n some h = absurd (some refl)
digits_last (suc k) n some h = rw (lt-ltb n 10 h)

pub digits_more : (most n : ℕ) → (most ≡ 0 → ⊥) → 10 ≤ n → decimal_digits most n ≡ decimal_digits (most - 1) (n / 10) ++ ((48 + n % 10) ∷ [])
unfolding decimal_digits
digits_more zero n some h = absurd (some refl)
digits_more (suc k) n some h = let e : suc k - 1 ≡ k = omega arith in rw (le-ltb n 10 h, e)

-- ---- how long it gets

-- the first number of more digits than so many
unfoldable pub tens : (most : ℕ) → ℕ
tens zero = 1
tens (suc k) = 10 * tens k

-- as many digits as the number needs, or fewer
digits_few : (k most n : ℕ) → n < tens (suc k) → length (decimal_digits most n) ≤ suc k
unfolding decimal_digits tens
digits_few k zero n h = omega arith
digits_few zero (suc m) n h = rw (lt-ltb n 10 h) (omega arith)
digits_few (suc k) (suc m) n h =
    cond_ind (λ (l : List ℕ). length l ≤ suc (suc k)) (ltb n 10) (λ _. omega arith)
    (λ _. omega (arith, length-append (decimal_digits m (n / 10)) ((48 + n % 10) ∷ []), digits_few k m (n / 10) (omega arith)))

pub line_length : (i a : ℕ) → length (answer_line i a) ≡ length (decimal i) + (1 + (length (decimal a) + 1))
unfolding answer_line
line_length i a = simp length-append (omega arith)

-- a record's line has at most nine bytes
pub nine_bytes : (i a : ℕ) → i < 100000 → a < 100 → length (answer_line i a) ≤ 9
unfolding tens
nine_bytes i a fi fa = omega (arith, line_length i a, digits_few 4 10 i fi, digits_few 1 10 a fa)

-- ---- the digits are those of the number

-- the number that digits spell, behind those that spell n
unfoldable pub spelled : (n : ℕ) → List ℕ → ℕ
spelled n [] = n
spelled n (d ∷ rest) = spelled (10 * n + (d - 48)) rest

spelled-more : (n : ℕ) (s t : List ℕ) → spelled n (s ++ t) ≡ spelled (spelled n s) t
unfolding spelled
spelled-more n [] t = refl
spelled-more n (d ∷ s) t = spelled-more (10 * n + (d - 48)) s t

-- the theorem: the digits of a number that needs no more than so many spell it
pub decimal_spells : (most n : ℕ) → n < tens most → spelled 0 (decimal_digits most n) ≡ n
unfolding decimal_digits spelled tens
decimal_spells zero n h = omega arith
decimal_spells (suc k) n h =
    cond_ind (λ (l : List ℕ). spelled 0 l ≡ n) (ltb n 10) (λ _. omega arith)
    (λ _. rw (spelled-more 0 (decimal_digits k (n / 10)) ((48 + n % 10) ∷ []), decimal_spells k (n / 10) (omega arith)) (omega arith))
