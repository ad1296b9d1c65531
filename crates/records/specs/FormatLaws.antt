-- Laws of the job file's bytes.
-- Assumes nothing.
use Rattle.std.specs.Prelude.{◌≡◌, refl, Bool, true, false, cond, ◌&&◌, List, [], ◌∷◌, ◌++◌, ℕ, zero, suc, ◌+◌, ◌-◌, ◌*◌, ◌/◌, ◌%◌, ◌<◌, ◌≤◌, eqb, leb, length, get_or, take, drop, Option, None, Some, Result, Ok, Err}
use Rattle.std.proofs.Common.{sym, ap, ap₂, ◌∙◌, arith, div-add-mod', length-append, length-drop, get_or-drop}
use Rattle.std.proofs.Math.Bool.{and-false}
use Rattle.std.proofs.Math.Decide.{dec_le}
use Rattle.std.proofs.Math.Seq.{drop-append_seam, take-length}
use borrow.Author.Tests.{eq-eqb, ne_eqb, eqb-true, leb-true, le-leb, lt-leb}
use Rattle.std.proofs.lemmas.Bool.{eqb-false}
use Rattle.raster.specs.Tests.{and_left, and_right, cond_ind}
use Rattle.raster.specs.declared.refusal.Refusal.{Refusal}
use Rattle.raster.specs.declared.refusal.Refusal.TheVariants.{NotAJob}
use Rattle.records.specs.declared.Record.{Record}
use Rattle.records.specs.declared.Record.TheVariants.{Open, Paint, Erase, Build, Place, Run, Lift, Expand, Shrink}
use Rattle.records.specs.Format.{
  word,
  length_of,
  length_here,
  some_length,
  Here,
  record_here,
  read_here,
  splits,
  records_in,
  is_job,
  records_of,
  record_count,
  encode,
  encode_all,
}

-- a length that is none is 0, and another is not
pub none_is : (n : ℕ) → None ≡ some_length n → n ≡ 0
none_is n =
    cond_ind (λ (found : Option ℕ). None ≡ found → n ≡ 0) (eqb n 0)
    (λ z _. eqb-true n 0 z)
    (λ _ e. cc)

pub some_is : (n : ℕ) {length : ℕ} → Some length ≡ some_length n → (length ≡ n) × (0 < length)
some_is n {length} =
    cond_ind (λ (found : Option ℕ). Some length ≡ found → (length ≡ n) × (0 < length)) (eqb n 0)
    (λ _ e. cc)
    (λ some e. let same : length ≡ n = cc in (same, omega (arith, eqb-false n 0 some)))

-- two bytes beside each other, read from a part of the bytes
pub word-drop : (bytes : List ℕ) (at i : ℕ) {low high : ℕ} → low ≡ get_or bytes (at + i) 0 → high ≡ get_or bytes ((at + i) + 1) 0
    → low + 256 * high ≡ word (drop at bytes) i
word-drop bytes at i l h =
    let e : at + (i + 1) ≡ (at + i) + 1 = omega arith in
    rw (get_or-drop at bytes i 0, get_or-drop at bytes (i + 1) 0, e) (ap₂ (λ (a b : ℕ). a + 256 * b) l h)

-- the record at the front ends within the bytes
pub size_fits : (bytes : List ℕ) → length_here bytes ≤ length bytes
unfolding length_here
size_fits bytes =
    cond_ind (λ (n : ℕ). n ≤ length bytes) (leb 4 (length bytes))
    (λ _.
    cond_ind (λ (n : ℕ). n ≤ length bytes) (eqb (word bytes 0) (length_of (word bytes 2)) && leb (word bytes 0) (length bytes))
    (λ e. leb-true _ _ (and_right (eqb (word bytes 0) (length_of (word bytes 2))) _ e))
    (λ _. omega arith))
    (λ _. omega arith)

-- the bytes behind the first n of them, as a slice has them
pub rest_is : (bytes : List ℕ) (n : ℕ) → take (length bytes - n) (drop n bytes) ≡ drop n bytes
rest_is bytes n = rw (← length-drop n bytes) (take-length (drop n bytes))

-- at a record, where bytes are left; it is one of at most so many
module _ (most fewer : ℕ) (rest : List ℕ) {size : ℕ} (one : most ≡ suc fewer) (is : size ≡ length_here rest) (more : 0 < length rest) where
  some_left : eqb (length rest) 0 ≡ false
  some_left = ne_eqb (length rest) 0 (omega arith)

  -- one record further on
  pub splits-turn : (size ≡ 0 → ⊥) → splits most rest ≡ splits fewer (drop size rest)
  unfolding splits
  splits-turn some = rw (one, some_left, ← is, ne_eqb size 0 some)

  pub records_turn : records_in most rest ≡ record_here rest ∷ records_in fewer (drop size rest)
  unfolding records_in
  records_turn = rw (one, some_left, ← is)

  -- it is none
  pub splits-not : size ≡ 0 → splits most rest ≡ false
  unfolding splits
  splits-not none = rw (one, some_left, ← is, none)

-- at the end
pub splits_end : (n : ℕ) (bytes : List ℕ) → length bytes ≡ 0 → splits n bytes ≡ true
unfolding splits
splits_end zero bytes e = rw e
splits_end (suc n) bytes e = rw e

pub records_end : (n : ℕ) (bytes : List ℕ) → length bytes ≡ 0 → records_in n bytes ≡ []
unfolding records_in
records_end zero bytes e = refl
records_end (suc n) bytes e = rw e

-- what splitting answered
pub split_done : (job : List ℕ) {n : ℕ} → Ok n ≡ record_count job → (is_job job ≡ true) × (n ≡ length (records_of job))
unfolding record_count
split_done job {n} =
    cond_ind (λ (d : Result ℕ Refusal). Ok n ≡ d → (is_job job ≡ true) × (n ≡ length (records_of job))) (is_job job)
    (λ is q. (is, cc))
    (λ _ q. cc)

pub split_refused : (job : List ℕ) {refusal : Refusal} → Err refusal ≡ record_count job → (is_job job ≡ false) × (refusal ≡ NotAJob)
unfolding record_count
split_refused job {refusal} =
    cond_ind (λ (d : Result ℕ Refusal). Err refusal ≡ d → (is_job job ≡ false) × (refusal ≡ NotAJob)) (is_job job)
    (λ _ q. cc)
    (λ is q. (is, cc))

-- ---- reading what was written

halves : (n : ℕ) → n % 256 + 256 * (n / 256) ≡ n
halves n = omega (arith, div-add-mod' n 256)

whole : (n : ℕ) → n % 65536 + 65536 * (n / 65536) ≡ n
whole n = omega (arith, div-add-mod' n 65536)

pub size_is : (bytes : List ℕ) → 4 ≤ length bytes → word bytes 0 ≡ length_of (word bytes 2) → word bytes 0 ≤ length bytes → length_here bytes ≡ word bytes 0
unfolding length_here
size_is bytes four same fits =
    rw (le-leb 4 (length bytes) four, eq-eqb (word bytes 0) (length_of (word bytes 2)) same, le-leb (word bytes 0) (length bytes) fits)

-- a written record says its length, which is its kind's, and has its first four bytes
header : (o : Record) (rest : List ℕ)
    → (word (encode o ++ rest) 0 ≡ length (encode o)) × (length_of (word (encode o ++ rest) 2) ≡ length (encode o)) × (4 ≤ length (encode o))
unfolding encode length_of
header (Open w h) rest = (refl, refl, omega arith)
header (Paint x y c r) rest = (refl, refl, omega arith)
header (Erase x y c r) rest = (refl, refl, omega arith)
header (Build e) rest = (refl, refl, omega arith)
header (Place x y q) rest = (refl, refl, omega arith)
header (Run d n) rest = (refl, refl, omega arith)
header Lift rest = (refl, refl, omega arith)
header (Expand q) rest = (refl, refl, omega arith)
header (Shrink q) rest = (refl, refl, omega arith)

-- the record at the front of bytes that start with a written record is that one
size-written : (o : Record) (rest : List ℕ) → length_here (encode o ++ rest) ≡ length (encode o)
size-written o rest =
    let h = header o rest in
    let n = length-append (encode o) rest in
    size_is (encode o ++ rest) (omega (arith, n, h.2)) (h.0 ∙ sym h.1) (omega (arith, n, h.0)) ∙ h.0

record_written : (o : Record) (rest : List ℕ) → record_here (encode o ++ rest) ≡ o
unfolding encode record_here
record_written (Open w h) rest = simp halves
record_written (Paint x y c r) rest = simp halves
record_written (Erase x y c r) rest = simp halves
record_written (Build e) rest = simp halves
record_written (Place x y q) rest = simp (halves, whole)
record_written (Run d n) rest = simp halves
record_written Lift rest = refl
record_written (Expand q) rest = simp (halves, whole)
record_written (Shrink q) rest = simp (halves, whole)

each-a-byte : (os : List Record) → length os ≤ length (encode_all os)
unfolding encode_all
each-a-byte [] = omega arith
each-a-byte (o ∷ os) = omega (arith, length-append (encode o) (encode_all os), (header o []).2, each-a-byte os)

read_back : (os : List Record) (n : ℕ) → length os ≤ n → (splits n (encode_all os) ≡ true) × (records_in n (encode_all os) ≡ os)
unfolding encode_all splits records_in
read_back [] n h = (splits_end n [] refl, records_end n [] refl)
read_back (o ∷ os) zero h = absurd (omega arith)
read_back (o ∷ os) (suc n) h =
    let r = encode_all os in
    let b = read_back os n (omega arith) in
    let some : eqb (length (encode o ++ r)) 0 ≡ false = ne_eqb (length (encode o ++ r)) 0 (omega (arith, length-append (encode o) r, (header o r).2)) in
    let size : eqb (length (encode o)) 0 ≡ false = ne_eqb (length (encode o)) 0 (omega (arith, (header o r).2)) in (
      rw (some, size-written o r, size, drop-append_seam (encode o) r) b.0,
      rw (some, size-written o r, record_written o r, drop-append_seam (encode o) r) (ap (λ (l : List Record). o ∷ l) b.1),
    )

-- the theorem: bytes that are records written one after the other, at most 65,536, split into those records
pub encoded : (os : List Record) → length (encode_all os) ≤ 65536 → (is_job (encode_all os) ≡ true) × (records_of (encode_all os) ≡ os)
unfolding is_job records_of
encoded os few =
    let b = read_back os (length (encode_all os)) (each-a-byte os) in
    (rw (le-leb (length (encode_all os)) 65536 few) b.0, b.1)

-- ---- a whole record of a known kind

-- a kind above 9 has no length, and neither has 0
no_size : (k : ℕ) → 9 < k → length_of k ≡ 0
unfolding length_of
no_size k h =
    rw (ne_eqb k 2 (omega arith), ne_eqb k 3 (omega arith), ne_eqb k 5 (omega arith), ne_eqb k 4 (omega arith), ne_eqb k 7 (omega arith), lt-leb k 9 h, and-false)

has_size : (k : ℕ) → (length_of k ≡ 0 → ⊥) → (1 ≤ k) × (k ≤ 9)
unfolding length_of
has_size zero some = absurd (some refl)
has_size (suc k) some = elim (dec_le (suc k) 9) [ yes h ↦ (omega arith, h) | no h ↦ absurd (some (no_size (suc k) (omega arith))) ]

pub here : (b : List ℕ) {size : ℕ} → size ≡ length_here b → (size ≡ 0 → ⊥) → Here b
unfolding length_here
here b {size} is some = go (leb 4 (length b)) refl (eqb (word b 0) (length_of (word b 2)) && leb (word b 0) (length b)) refl is
  where
    go : (t : Bool) → leb 4 (length b) ≡ t → (u : Bool) → eqb (word b 0) (length_of (word b 2)) && leb (word b 0) (length b) ≡ u
        → size ≡ cond t (cond u (word b 0) 0) 0 → Here b
    go false p u q e = absurd (some e)
    go true p false q e = absurd (some e)
    go true p true q e =
        let same = eqb-true (word b 0) (length_of (word b 2)) (and_left (eqb (word b 0) (length_of (word b 2))) _ q) in
        let fits = leb-true (word b 0) (length b) (and_right (eqb (word b 0) (length_of (word b 2))) _ q) in
        record {
          known = has_size (word b 2) (λ z. some (e ∙ same ∙ z));
          header = leb-true 4 (length b) p;
          said = same;
          size = omega (arith, same, fits);
        }

-- a record of kind j has its bytes
pub room : (job : List ℕ) (at j : ℕ) {k : ℕ} → Here (drop at job) → k ≡ word (drop at job) 2 → k ≡ j → at + length_of j ≤ length job
room job at j h is e =
    let same : word (drop at job) 2 ≡ j = sym is ∙ e in
    omega (arith, length-drop at job, h.header, rw same at h.size)

-- a number that is at least m and not m is above m
pub beyond : (m : ℕ) {k : ℕ} → m ≤ k → (k ≡ m → ⊥) → m + 1 ≤ k
beyond m {k} l n = elim (dec_le (m + 1) k) [
  | yes h ↦ h
  | no h ↦ absurd (n (omega arith))
]

-- ---- what reading found

pub read_broken : (b : List ℕ) {length : ℕ} → length ≡ length_here b → length ≡ 0 → None ≡ read_here b
unfolding read_here
read_broken b is none = rw (← is, none)

pub read_whole : (b : List ℕ) {length : ℕ} {r : Record} → length ≡ length_here b → (length ≡ 0 → ⊥) → r ≡ record_here b → Some (r, length) ≡ read_here b
unfolding read_here
read_whole b {length} is some same = rw (← is, ne_eqb length 0 some, same)

-- a whole record, and none
pub whole_is : (b : List ℕ) {r : Record} {n : ℕ} → Some (r, n) ≡ read_here b → (r ≡ record_here b) × (n ≡ length_here b) × (0 < n)
unfolding read_here
whole_is b {r} {n} =
    cond_ind (λ (found : Option (Record × ℕ)). Some (r, n) ≡ found → (r ≡ record_here b) × (n ≡ length_here b) × (0 < n)) (eqb (length_here b) 0)
    (λ _ e. cc)
    (λ some e.
    let same : ◌≡◌ {A = Record × ℕ} (r, n) (record_here b, length_here b) = cc in
    let size : n ≡ length_here b = ap (λ (p : Record × ℕ). p.1) same in
    (ap (λ (p : Record × ℕ). p.0) same, size, omega (arith, eqb-false (length_here b) 0 some)))

pub broken_is : (b : List ℕ) → None ≡ read_here b → length_here b ≡ 0
unfolding read_here
broken_is b =
    cond_ind (λ (found : Option (Record × ℕ)). None ≡ found → length_here b ≡ 0) (eqb (length_here b) 0)
    (λ z _. eqb-true (length_here b) 0 z)
    (λ _ e. cc)
