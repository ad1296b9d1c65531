-- The bytes of a job file that splits are those of its records, written one after the other.
-- Assumes nothing.
use Rattle.std.specs.Prelude.{◌≡◌, refl, true, List, [], ◌∷◌, ◌++◌, leb, length, get_or, take, drop}
use Rattle.std.proofs.Common.{sym, ap, ap₂, ◌∙◌, arith, add-one, take-append-drop, drop-cons, drop-drop, get_or-drop, take-add, eqb-true, ne_eqb}
use Rattle.std.proofs.lemmas.Bool.{false≢true}
use Prim.Native.Nat.{ℕ, zero, suc, ◌+◌, ◌*◌, ◌/◌, ◌%◌, ◌<◌, ◌≤◌}
use Rattle.std.proofs.Math.Decide.{ℕ_discrete}
use Rattle.raster.specs.PixelsLaws.{nothing}
use Rattle.raster.specs.Tests.{and_right}
use Rattle.records.specs.Format.{word, length_of, length_here, record_here, splits, records_in, is_job, records_of, word_bytes, encode, encode_all}
use Rattle.records.specs.FormatLaws.{size_is, here}

-- every element is a byte
abbrev pub Bytes : List ℕ → Type 0
Bytes l = (i : ℕ) → get_or l i 0 < 256

-- so many 16-bit numbers from a place on, written again
words : (count i : ℕ) → List ℕ → List ℕ
words zero i b = []
words (suc c) i b = word_bytes (word b i) ++ words c (i + 2) b

low : (a b : ℕ) → a < 256 → (a + 256 * b) % 256 ≡ a
low a b h = omega arith

high : (a b : ℕ) → a < 256 → (a + 256 * b) / 256 ≡ b
high a b h = omega arith

pair : (b : List ℕ) (i : ℕ) → Bytes b → i + 2 ≤ length b → word_bytes (word b i) ≡ take 2 (drop i b)
pair b i bytes h =
    let one : drop i b ≡ get_or b i 0 ∷ drop (i + 1) b = drop-cons b i 0 (omega arith) ∙ ap (λ (n : ℕ). get_or b i 0 ∷ drop n b) (sym (add-one i)) in
    rw (low (get_or b i 0) (get_or b (i + 1) 0) (bytes i), high (get_or b i 0) (get_or b (i + 1) 0) (bytes i), one, drop-cons b (i + 1) 0 (omega arith))

words_are : (c i : ℕ) (b : List ℕ) → Bytes b → i + 2 * c ≤ length b → words c i b ≡ take (2 * c) (drop i b)
unfolding words
words_are zero i b bytes h = refl
words_are (suc c) i b bytes h =
    let n : 2 * suc c ≡ 2 + 2 * c = omega arith in
    rw (n, take-add 2 (2 * c) (drop i b), drop-drop 2 i b)
    (ap₂ (λ (x y : List ℕ). x ++ y) (pair b i bytes (omega arith)) (words_are c (i + 2) b bytes (omega arith)))

word_limit : (b : List ℕ) (i : ℕ) → Bytes b → word b i < 65536
word_limit b i bytes = omega (arith, bytes i, bytes (i + 1))

halves : (a b : ℕ) → a < 65536 → ((a + 65536 * b) % 65536 ≡ a) × ((a + 65536 * b) / 65536 ≡ b)
halves a b h = (omega arith, omega arith)

-- the record at the front, written again, is the bytes that it had
module _ (b : List ℕ) (bytes : Bytes b) (fits : word b 0 ≤ length b) where
  written_record : (k : ℕ) → word b 2 ≡ k → word b 0 ≡ length_of k → 1 ≤ k → k ≤ 9 → encode (record_here b) ≡ take (word b 0) b
  unfolding words encode record_here length_of
  written_record zero e s l h = absurd (omega arith)
  written_record (suc zero) e s l h = rw (e, s) (rw (s, e) at (words_are 4 0 b bytes (omega arith)))
  written_record (suc (suc zero)) e s l h = rw (e, s) (rw (s, e) at (words_are 6 0 b bytes (omega arith)))
  written_record (suc (suc (suc zero))) e s l h = rw (e, s) (rw (s, e) at (words_are 6 0 b bytes (omega arith)))
  written_record (suc (suc (suc (suc zero)))) e s l h = rw (e, s) (rw (s, e) at (words_are 3 0 b bytes (omega arith)))
  written_record (suc (suc (suc (suc (suc zero))))) e s l h = let n = halves (word b 8) (word b 10) (word_limit b 8 bytes) in rw (e, s, n.0, n.1) (rw (s, e) at (words_are 6 0 b bytes (omega arith)))
  written_record (suc (suc (suc (suc (suc (suc zero)))))) e s l h = rw (e, s) (rw (s, e) at (words_are 4 0 b bytes (omega arith)))
  written_record (suc (suc (suc (suc (suc (suc (suc zero))))))) e s l h = rw (e, s) (rw (s, e) at (words_are 2 0 b bytes (omega arith)))
  written_record (suc (suc (suc (suc (suc (suc (suc (suc zero)))))))) e s l h = let n = halves (word b 4) (word b 6) (word_limit b 4 bytes) in rw (e, s, n.0, n.1) (rw (s, e) at (words_are 4 0 b bytes (omega arith)))
  written_record (suc (suc (suc (suc (suc (suc (suc (suc (suc zero))))))))) e s l h = let n = halves (word b 4) (word b 6) (word_limit b 4 bytes) in rw (e, s, n.0, n.1) (rw (s, e) at (words_are 4 0 b bytes (omega arith)))
  written_record (suc (suc (suc (suc (suc (suc (suc (suc (suc (suc k)))))))))) e s l h = absurd (omega arith)

front : (b : List ℕ) → Bytes b → (length_here b ≡ 0 → ⊥) → encode (record_here b) ≡ take (length_here b) b
front b bytes some =
    let h = here b refl some in
    let fits : word b 0 ≤ length b = rw h.said h.size in
    rw (size_is b h.header h.said fits) (written_record b bytes fits (word b 2) refl h.said h.known.0 h.known.1)

written_again : (n : ℕ) (b : List ℕ) → Bytes b → splits n b ≡ true → encode_all (records_in n b) ≡ b
unfolding splits records_in encode_all
written_again zero b bytes e = nothing b (eqb-true (length b) 0 e)
written_again (suc n) b bytes e = elim (ℕ_discrete (length b) 0) [
  | yes z ↦ rw z (nothing b z)
  | no some ↦
      let f = ne_eqb (length b) 0 some in
      elim (ℕ_discrete (length_here b) 0) [
        | yes z ↦ absurd (false≢true (rw (f, z) at e))
        | no whole ↦
            let rest = written_again n (drop (length_here b) b) (λ i. rw (get_or-drop (length_here b) b i 0) (bytes (length_here b + i))) (rw (f, ne_eqb (length_here b) 0 whole) at e) in
            rw f (ap₂ (λ (x y : List ℕ). x ++ y) (front b bytes whole) rest ∙ take-append-drop (length_here b) b)
      ]
]

-- the theorem: a job file that splits is its records, written one after the other
pub decoded : (job : List ℕ) → Bytes job → is_job job ≡ true → encode_all (records_of job) ≡ job
unfolding is_job records_of
decoded job bytes is = written_again (length job) job bytes (and_right (leb (length job) 65536) _ is)
