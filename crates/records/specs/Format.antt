-- The bytes of a job file: document 01, "Job file". What a record means, what its bytes are, and how bytes split into records.
-- Assumes nothing.
use Rattle.std.specs.Prelude.{Bool, true, false, cond, ◌&&◌, ◌||◌, List, [], ◌∷◌, ◌++◌, ◌≡◌, ℕ, zero, suc, ◌+◌, ◌*◌, ◌/◌, ◌%◌, ◌≤◌, eqb, leb, length, get_or, drop, Option, None, Some, Result, Ok, Err}
use Rattle.raster.specs.declared.refusal.Refusal.{Refusal}
use Rattle.raster.specs.declared.refusal.Refusal.TheVariants.{NotAJob}
use Rattle.records.specs.declared.Record.{Record}
use Rattle.records.specs.declared.Record.TheVariants.{Open, Paint, Erase, Build, Place, Run, Lift, Expand, Shrink}

-- ---- reading, little-endian

-- the number of 16 bits at a place, and the one of 32
abbrev pub word : List ℕ → (place : ℕ) → ℕ
word bytes i = get_or bytes i 0 + 256 * get_or bytes (i + 1) 0

abbrev pub long : List ℕ → (place : ℕ) → ℕ
long bytes i = word bytes i + 65536 * word bytes (i + 2)

-- the whole length of a record of each kind; 0 for a kind that is none
unfoldable pub length_of : (kind : ℕ) → ℕ
length_of k =
    cond (eqb k 2 || (eqb k 3 || eqb k 5)) 12
    (cond (eqb k 4) 6 (cond (eqb k 7) 4 (cond (leb 1 k && leb k 9) 8 0)))

-- the length of the record at the front of the bytes; 0 where the kind is none, the length not the kind's, or the tail cut
unfoldable pub length_here : List ℕ → ℕ
length_here bytes =
    cond (leb 4 (length bytes))
    (cond (eqb (word bytes 0) (length_of (word bytes 2)) && leb (word bytes 0) (length bytes)) (word bytes 0) 0)
    0

-- a length, and none where it is 0
abbrev pub some_length : ℕ → Option ℕ
some_length n = cond (eqb n 0) None (Some n)

-- a whole record of a known kind stands at the front of the bytes
pub record Here (b : List ℕ) : Type 0 where
  pub known : (1 ≤ word b 2) × (word b 2 ≤ 9)
  pub header : 4 ≤ length b
  pub said : word b 0 ≡ length_of (word b 2)
  pub size : length_of (word b 2) ≤ length b

-- the record at the front of the bytes, by its kind
unfoldable pub record_here : List ℕ → Record
record_here b =
    let kind = word b 2 in
    cond (eqb kind 1) (Open (word b 4) (word b 6))
    (cond (eqb kind 2) (Paint (word b 4) (word b 6) (word b 8) (word b 10))
    (cond (eqb kind 3) (Erase (word b 4) (word b 6) (word b 8) (word b 10))
    (cond (eqb kind 4) (Build (word b 4))
    (cond (eqb kind 5) (Place (word b 4) (word b 6) (long b 8))
    (cond (eqb kind 6) (Run (word b 4) (word b 6))
    (cond (eqb kind 7) Lift (cond (eqb kind 8) (Expand (long b 4)) (Shrink (long b 4)))))))))

-- what stands at the front of the bytes: a whole record with its length, or none
unfoldable pub read_here : List ℕ → Option (Record × ℕ)
read_here b = cond (eqb (length_here b) 0) None (Some (record_here b, length_here b))

-- ---- splitting

-- the bytes are records one after the other, at most so many
unfoldable pub splits : (most : ℕ) → List ℕ → Bool
splits zero bytes = eqb (length bytes) 0
splits (suc n) bytes =
    cond (eqb (length bytes) 0) true
    (cond (eqb (length_here bytes) 0) false (splits n (drop (length_here bytes) bytes)))

-- those records
unfoldable pub records_in : (most : ℕ) → List ℕ → List Record
records_in zero bytes = []
records_in (suc n) bytes = cond (eqb (length bytes) 0) [] (record_here bytes ∷ records_in n (drop (length_here bytes) bytes))

-- a job file has at most 65,536 bytes and splits; no record is shorter than a byte
unfoldable pub is_job : List ℕ → Bool
is_job bytes = leb (length bytes) 65536 && splits (length bytes) bytes

unfoldable pub records_of : List ℕ → List Record
records_of bytes = records_in (length bytes) bytes

-- splitting answers the number of records, or that the bytes are no job
unfoldable pub record_count : List ℕ → Result ℕ Refusal
record_count bytes = cond (is_job bytes) (Ok (length (records_of bytes))) (Err NotAJob)

-- ---- writing: reading undoes it (`encoded`), and what splits was written so (`decoded`)

abbrev pub word_bytes : ℕ → List ℕ
word_bytes n = n % 256 ∷ n / 256 ∷ []

abbrev pub long_bytes : ℕ → List ℕ
long_bytes n = word_bytes (n % 65536) ++ word_bytes (n / 65536)

-- the length, the kind, the fields
unfoldable pub encode : Record → List ℕ
encode (Open w h) = word_bytes 8 ++ word_bytes 1 ++ word_bytes w ++ word_bytes h
encode (Paint x y c r) = word_bytes 12 ++ word_bytes 2 ++ word_bytes x ++ word_bytes y ++ word_bytes c ++ word_bytes r
encode (Erase x y c r) = word_bytes 12 ++ word_bytes 3 ++ word_bytes x ++ word_bytes y ++ word_bytes c ++ word_bytes r
encode (Build e) = word_bytes 6 ++ word_bytes 4 ++ word_bytes e
encode (Place x y q) = word_bytes 12 ++ word_bytes 5 ++ word_bytes x ++ word_bytes y ++ long_bytes q
encode (Run d n) = word_bytes 8 ++ word_bytes 6 ++ word_bytes d ++ word_bytes n
encode Lift = word_bytes 4 ++ word_bytes 7
encode (Expand q) = word_bytes 8 ++ word_bytes 8 ++ long_bytes q
encode (Shrink q) = word_bytes 8 ++ word_bytes 9 ++ long_bytes q

-- one record after the other
unfoldable pub encode_all : List Record → List ℕ
encode_all [] = []
encode_all (o ∷ os) = encode o ++ encode_all os
