-- Laws of executing a record: parts of buffers that are lent and come back, and each kind of record.
-- Assumes nothing.
use Rattle.std.specs.Prelude.{◌≡◌, refl, List, ◌++◌, Bool, true, false, cond, ◌&&◌, ℕ, ◌*◌, ◌≤◌, eqb, ℤ, length, take, drop, min}
use Rattle.std.proofs.Common.{sym, ap, ◌∙◌, append-nil, arith, drop_of_length-le, take-append-drop, take_all, take_at, drop_at, length-take-le}
use Rattle.std.proofs.Math.Bool.{and-true, and-false}
use Rattle.std.proofs.Math.Decide.{dec_le}
use Rattle.std.proofs.Math.Seq.{take-length, drop-length}
use Rattle.raster.specs.Map.{unmapped}
use Rattle.raster.specs.Refusal.{first_of, on_done}
use Rattle.raster.specs.Sheet.{bare}
use Rattle.morphology.specs.Resize.{expanded, shrunk}
use Rattle.cutter.specs.Kinds.{Maps, maps}
use Rattle.session.specs.declared.Session.{Session}
use Rattle.session.specs.declared.Reply.{Reply}
use Rattle.session.specs.State.{opened_as, stale, built_by}
use Rattle.session.specs.Maps.{pairs_built, values_built}
use Rattle.session.specs.Refusals.{open_table, fill_table, build_table, place_table, run_table, resize_table}
use Rattle.session.specs.Calls.{filled_by, scratch_by, place_session, run_session, lift_session}
use Rattle.session.specs.Lists.{World, world}
use Rattle.records.specs.declared.Record.TheVariants.{Open, Paint, Erase, Build, Place, Run, Lift, Expand, Shrink}
use Rattle.job.specs.Run.{maps_up_to, maps_behind, maps_whole, Behind, JobState, job_state}
use Rattle.job.specs.Execute.{Executed}

-- the first n elements, or all of them
pub min_take : {A : Type 0} (n : ℕ) (l : List A) {r : ℕ} → r ≡ min n (length l) → take r l ≡ take n l
min_take n l {r} e = elim (dec_le n (length l)) [
  | yes h ↦ let same : r ≡ n = omega arith in rw same
  | no h ↦ let same : r ≡ length l = omega arith in rw (same, take_all n l (omega arith), take-length)
]

pub min-drop : {A : Type 0} (n : ℕ) (l : List A) {r : ℕ} → r ≡ min n (length l) → drop r l ≡ drop n l
min-drop n l {r} e = elim (dec_le n (length l)) [
  | yes h ↦ let same : r ≡ n = omega arith in rw same
  | no h ↦ let b : length l ≤ n = omega arith in let same : r ≡ length l = omega arith in rw (same, drop_of_length-le l b, drop-length)
]

-- a part of n elements is as long
pub part_length : {A : Type 0} (n : ℕ) (l : List A) → n ≤ length l → n ≡ length (take n l)
part_length n l h = sym (length-take-le n l h)

-- a part of n elements came back as p
module _ {A : Type 0} (n : ℕ) (l p : List A) (same : length p ≡ length (take n l)) where
  pub part_lent : take n (p ++ drop n l) ≡ p
  part_lent = elim (dec_le n (length l)) [
    | yes h ↦ take_at p (drop n l) n (same ∙ length-take-le n l h)
    | no h ↦
        let b : length l ≤ n = omega arith in
        let s : length p ≤ n = omega (arith, ap length (take_all n l b)) in
        rw (drop_of_length-le l b, append-nil p) (take_all n p s)
  ]

  pub part_behind : drop n (p ++ drop n l) ≡ drop n l
  part_behind = elim (dec_le n (length l)) [
    | yes h ↦ drop_at p (drop n l) n (same ∙ length-take-le n l h)
    | no h ↦
        let b : length l ≤ n = omega arith in
        let s : length p ≤ n = omega (arith, ap length (take_all n l b)) in
        rw (drop_of_length-le l b, append-nil p) (drop_of_length-le p s)
  ]

-- a part that was cut to what the list has came back as p
module _ {A : Type 0} (n : ℕ) (l p : List A) {r : ℕ} (e : r ≡ min n (length l)) (same : length p ≡ length (take r l)) where
  pub min_lent : take n (p ++ drop r l) ≡ p
  min_lent = rw (min-drop n l e) (part_lent n l p (same ∙ ap length (min_take n l e)))

  pub min_behind : drop n (p ++ drop r l) ≡ drop n l
  min_behind = rw (min-drop n l e) (part_behind n l p (same ∙ ap length (min_take n l e)))

-- ---- executing each kind is what the definition says

-- a choice between equals, and one of what is made of two numbers
one : {A : Type 0} (t : Bool) (x : A) → x ≡ cond t x x
one true x = refl
one false x = refl

chosen : {A : Type 0} (f : ℕ → A) (t : Bool) (x y : ℕ) → f (cond t x y) ≡ cond t (f x) (f y)
chosen f true x y = refl
chosen f false x y = refl

-- both parts of the maps, one behind the other
pub maps_again : (n : ℕ) (m : Maps) → maps_whole (maps_up_to n m) (maps_behind n m) ≡ m
maps_again n m = rw (take-append-drop (2 * n) m.pairs, take-append-drop n m.values)

-- maps whose kinds are chosen are those chosen
joined-maps : (t : Bool) (p₁ p₂ : List ℤ) (v₁ v₂ : List ℕ) → maps (cond t p₁ p₂) (cond t v₁ v₂) ≡ cond t (maps p₁ v₁) (maps p₂ v₂)
joined-maps true p₁ p₂ v₁ v₂ = refl
joined-maps false p₁ p₂ v₁ v₂ = refl

joined-pairs : (t : Bool) (p₁ p₂ : List ℤ) (v : List ℕ) → maps (cond t p₁ p₂) v ≡ cond t (maps p₁ v) (maps p₂ v)
joined-pairs true p₁ p₂ v = refl
joined-pairs false p₁ p₂ v = refl

-- a world whose parts are chosen is the one chosen
joined : (t : Bool) (s₁ s₂ : Session) (a₁ a₂ : List ℕ) (m₁ m₂ : Maps)
    → world (cond t s₁ s₂) (cond t a₁ a₂) (cond t m₁ m₂) ≡ cond t (world s₁ a₁ m₁) (world s₂ a₂ m₂)
joined true s₁ s₂ a₁ a₂ m₁ m₂ = refl
joined false s₁ s₂ a₁ a₂ m₁ m₂ = refl

-- where sheet or maps stay
joined_sheet : (t : Bool) (s₁ s₂ : Session) (a₁ a₂ : List ℕ) (m : Maps) → world (cond t s₁ s₂) (cond t a₁ a₂) m ≡ cond t (world s₁ a₁ m) (world s₂ a₂ m)
joined_sheet t s₁ s₂ a₁ a₂ m = ap (λ (n : Maps). world (cond t s₁ s₂) (cond t a₁ a₂) n) (one t m) ∙ joined t s₁ s₂ a₁ a₂ m m

joined-map : (t : Bool) (s₁ s₂ : Session) (a : List ℕ) (m₁ m₂ : Maps) → world (cond t s₁ s₂) a (cond t m₁ m₂) ≡ cond t (world s₁ a m₁) (world s₂ a m₂)
joined-map t s₁ s₂ a m₁ m₂ = ap (λ (b : List ℕ). world (cond t s₁ s₂) b (cond t m₁ m₂)) (one t a) ∙ joined t s₁ s₂ a a m₁ m₂

joined_session : (t : Bool) (s₁ s₂ : Session) (a : List ℕ) (m : Maps) → world (cond t s₁ s₂) a m ≡ cond t (world s₁ a m) (world s₂ a m)
joined_session t s₁ s₂ a m = ap (λ (b : List ℕ). world (cond t s₁ s₂) b m) (one t a) ∙ joined_sheet t s₁ s₂ a a m

joined_behind : (t : Bool) (a₁ a₂ : List ℕ) (m₁ m₂ : Maps)
    → ◌≡◌ {A = Behind} (record { sheet = cond t a₁ a₂; maps = cond t m₁ m₂ }) (cond t (record { sheet = a₁; maps = m₁ }) (record { sheet = a₂; maps = m₂ }))
joined_behind true a₁ a₂ m₁ m₂ = refl
joined_behind false a₁ a₂ m₁ m₂ = refl

-- states with the same world, the same rest and the same scratch
same_state : {w v : World} {b c : Behind} {t u : List ℤ} → w ≡ v → b ≡ c → t ≡ u
    → ◌≡◌ {A = JobState} (record { world = w; behind = b; scratch = t }) (record { world = v; behind = c; scratch = u })
same_state e f g = rw (e, f, g)

module _ (s : Session) (n : ℕ) (sheet : List ℕ) where
  pub open_executed : (w h : ℕ) (a : ℕ) (t : Session) (p : ℕ) (left : List ℕ) → a ≡ first_of (open_table (take (h * w) sheet) w h)
      → t ≡ on_done a (opened_as w h) s
      → p ≡ on_done a (h * w) n
      → take p left ≡ on_done a (bare (take (h * w) sheet)) (take n sheet)
      → drop p left ≡ on_done a (drop (h * w) sheet) (drop n sheet)
      → (m : Maps) (scratch : List ℤ) → Executed (Open w h) (job_state s n sheet m scratch) a (job_state t p left m scratch)
  open_executed w h a t p left answer session pixels lent behind m scratch = record {
    answer = rw (take-append-drop n sheet) answer;
    left =
        rw (take-append-drop n sheet, take-append-drop (2 * n) m.pairs, take-append-drop n m.values, ← answer, session, lent, behind, pixels, and-false (eqb a 0))
        (same_state
        (ap (world _ _) (chosen (λ (k : ℕ). maps_up_to k m) (eqb a 0) (h * w) n) ∙ joined (eqb a 0) _ _ _ _ _ _)
        (ap (λ (b : Maps). record { sheet = cond (eqb a 0) (drop (h * w) sheet) (drop n sheet); maps = b }) (chosen (λ (k : ℕ). maps_behind k m) (eqb a 0) (h * w) n)
        ∙ joined_behind (eqb a 0) _ _ _ _)
        refl);
  }

  module _ (x y cols rows : ℕ) (r : Reply) (left : List ℕ) (answer : r.answer ≡ first_of (fill_table s (take n sheet) x y cols rows))
      (session : r.session ≡ on_done r.answer (stale s) s) (behind : drop n left ≡ drop n sheet) where
    pub paint_executed : take n left ≡ on_done r.answer (filled_by s x y cols rows 1 (take n sheet)) (take n sheet)
        → (m : Maps) (scratch : List ℤ) → Executed (Paint x y cols rows) (job_state s n sheet m scratch) r.answer (job_state r.session n left m scratch)
    paint_executed lent m scratch = record {
      answer = answer;
      left =
          rw (← answer, session, lent, behind, and-false (eqb r.answer 0)) (same_state (joined_sheet (eqb r.answer 0) _ _ _ _ _) refl refl);
    }

    pub erase_executed : take n left ≡ on_done r.answer (filled_by s x y cols rows 0 (take n sheet)) (take n sheet)
        → (m : Maps) (scratch : List ℤ) → Executed (Erase x y cols rows) (job_state s n sheet m scratch) r.answer (job_state r.session n left m scratch)
    erase_executed lent m scratch = record {
      answer = answer;
      left =
          rw (← answer, session, lent, behind, and-false (eqb r.answer 0)) (same_state (joined_sheet (eqb r.answer 0) _ _ _ _ _) refl refl);
    }

module _ (s : Session) (n : ℕ) (m : Maps) (r : Reply) where
  pub place_executed : (x y q : ℕ) → r.answer ≡ first_of (place_table s (maps_up_to n m) x y q)
      → r.session ≡ on_done r.answer (place_session s (maps_up_to n m) x y q) s
      → (sheet : List ℕ) (scratch : List ℤ) → Executed (Place x y q) (job_state s n sheet m scratch) r.answer (job_state r.session n sheet m scratch)
  place_executed x y q answer session sheet scratch = record {
    answer = answer;
    left = rw (← answer, session, and-false (eqb r.answer 0)) (same_state (joined_session (eqb r.answer 0) _ _ _ _) refl refl);
  }

  pub run_executed : (d k : ℕ) → r.answer ≡ first_of (run_table s (maps_up_to n m) d k)
      → r.session ≡ on_done r.answer (run_session s (maps_up_to n m) d k) s
      → (sheet : List ℕ) (scratch : List ℤ) → Executed (Run d k) (job_state s n sheet m scratch) r.answer (job_state r.session n sheet m scratch)
  run_executed d k answer session sheet scratch = record {
    answer = answer;
    left = rw (← answer, session, and-false (eqb r.answer 0)) (same_state (joined_session (eqb r.answer 0) _ _ _ _) refl refl);
  }

  pub lift_executed : r.answer ≡ 0 → r.session ≡ lift_session s
      → (sheet : List ℕ) (scratch : List ℤ) → Executed Lift (job_state s n sheet m scratch) r.answer (job_state r.session n sheet m scratch)
  unfolding first_of
  lift_executed answer session sheet scratch = record { answer = answer; left = rw session }

module _ (s : Session) (n : ℕ) (sheet : List ℕ) (m : Maps) (scratch : List ℤ) (r : Reply) where
  pub build_executed : (e : ℕ) (pairs : List ℤ) (values : List ℕ) (used : List ℤ) → let l = maps_up_to n m in
      r.answer ≡ first_of (build_table s (take n sheet) l scratch e)
      → r.session ≡ on_done r.answer (built_by e s) s
      → take (2 * n) pairs ≡ on_done r.answer (pairs_built s (take n sheet) e l.pairs) l.pairs
      → drop (2 * n) pairs ≡ drop (2 * n) m.pairs
      → take n values ≡ on_done r.answer (values_built s (take n sheet) e l.values) l.values
      → drop n values ≡ drop n m.values
      → used ≡ cond (eqb r.answer 0 && eqb e 1) (scratch_by s scratch) scratch
      → Executed (Build e) (job_state s n sheet m scratch) r.answer (job_state r.session n sheet (maps pairs values) used)
  build_executed e pairs values used answer session lent behind lent-values behind-values scratch-used = record {
    answer = answer;
    left =
        rw (← answer, session, lent, behind, lent-values, behind-values, scratch-used, joined-maps (eqb r.answer 0) _ _ _ _)
        (same_state (joined-map (eqb r.answer 0) _ _ _ _ _) refl refl);
  }

  module _ (q : ℕ) (cut : List ℕ) (left used : List ℤ) (answer : r.answer ≡ first_of (resize_table s (take n sheet) (take (2 * n) m.pairs) scratch q))
      (session : r.session ≡ on_done r.answer (stale s) s)
      (behind : drop n cut ≡ drop n sheet)
      (lent_map : take (2 * n) left ≡ on_done r.answer (unmapped (take (2 * n) m.pairs)) (take (2 * n) m.pairs))
      (behind-map : drop (2 * n) left ≡ drop (2 * n) m.pairs)
      (used-scratch : used ≡ on_done r.answer (scratch_by s scratch) scratch) where
    pub expand_executed : take n cut ≡ on_done r.answer (expanded s.width s.height q (take n sheet)) (take n sheet)
        → Executed (Expand q) (job_state s n sheet m scratch) r.answer (job_state r.session n cut (maps left m.values) used)
    expand_executed lent = record {
      answer = answer;
      left =
          rw (← answer, session, lent, behind, lent_map, behind-map, used-scratch, and-true (eqb r.answer 0), joined-pairs (eqb r.answer 0) _ _ _)
          (same_state (joined (eqb r.answer 0) _ _ _ _ _ _) refl refl);
    }

    pub shrink_executed : take n cut ≡ on_done r.answer (shrunk s.width s.height q (take n sheet)) (take n sheet)
        → Executed (Shrink q) (job_state s n sheet m scratch) r.answer (job_state r.session n cut (maps left m.values) used)
    shrink_executed lent = record {
      answer = answer;
      left =
          rw (← answer, session, lent, behind, lent_map, behind-map, used-scratch, and-true (eqb r.answer 0), joined-pairs (eqb r.answer 0) _ _ _)
          (same_state (joined (eqb r.answer 0) _ _ _ _ _ _) refl refl);
    }
