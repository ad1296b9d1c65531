-- Each call, from a board and a world between which the invariant holds: its claim holds while the maps are the session's own, and the invariant holds after it.
-- Assumes nothing.
use mathlib.Core.Path.{◌≡◌, refl, sym, ap, subst, ◌∙◌}
use mathlib.Core.Bool.{Bool, true, false, not, cond, ◌&&◌, ◌||◌, true≢false}
use mathlib.Core.List.{List, [], ◌∷◌, ◌++◌}
use mathlib.Core.Option.{Option}
use Prim.Native.Nat.{ℕ, zero, suc, ◌+◌, ◌<◌, ◌≤◌}
use native.Mathlib.Numerals.{add-one}
use native.Mathlib.Omega.{arith}
use lib.Dec.{eqb, leb}
use lib.IntN.{ℤ, pos}
use borrow.Author.Tests.{eqb-true, ne_eqb, leb-true, not-true, not-false}
use Rattle.raster.specs.Loop.{ascend}
use Rattle.raster.specs.LoopLaws.{any_found, any_false}
use Rattle.raster.specs.Distance.{Clear, ClearBetween}
use Rattle.raster.specs.DistanceLaws.{clear_between}
use Rattle.raster.specs.Pixels.{Mask, index}
use Rattle.raster.specs.Tests.{and_left}
use Rattle.raster.specs.Sheet.{copper_of, bare, in_rectangle}
use Rattle.raster.specs.Map.{unmapped}
use Rattle.raster.specs.Refusal.{first_of}
use Rattle.cutter.specs.Kinds.{Maps, maps}
use Rattle.cutter.specs.declared.Closest.{Closest}
use Rattle.cutter.specs.Closest.{unmet, closest_at, closest_along}
use Rattle.cutter.specs.Directions.{walk, column_after, row_after}
use Rattle.cutter.specs.Gates.{cutter_after, may_stand, passes_at, blocked}
use Rattle.cutter.proofs.Walk.{one-step, reached, on_the_way}
use Rattle.session.specs.declared.Session.{Session}
use Rattle.session.specs.State.{sound, active, cutter_up, stale, built_by, recorded, cutter_of, own_cutter}
use Rattle.session.specs.Maps.{maps_built}
use Rattle.session.specs.Refusals.{open_table, fill_table, build_table, build_table_by, place_rows, place_table, run_rows, run_table, resize_table, resize_table_by, read_table, probe_table}
use Rattle.session.specs.Calls.{filled_by, run_session}
use Rattle.session.specs.Lists.{Lent, Call, opening, paint, erase, build, place, run, lift, expand, shrink, skeleton, rebuild, probe, aside, World, world, lent_to, table_of, answer, left, world_after}
use Rattle.session.proofs.Granted.{open_granted, fill_granted, Building, build_granted, Placing, place_done, place_stopped, RunGranted, run_done, run_stopped, resize_granted}
use Rattle.guarantee.specs.Board.{BoardCutter, up, down, Board, board_of, recoppered, with_cutter, cutter_run, tool_path, tool_path_of, done, feed}
use Rattle.guarantee.specs.Claims.{Visits, at_place, at_step, Travels, by_step, Safe, SafeBetween, Fair, Claim, place_of, SameCutter, Free, FreeRun, Approach}
use Rattle.guarantee.specs.Writes.{is_build, own_after}
use Rattle.guarantee.proofs.Answers.{without, never}
use Rattle.guarantee.proofs.Sound.{with_says_none, along-says-none, open_sound, stale-sound, built_sound, up-sound, says_none, down-sound}
use Rattle.guarantee.proofs.Copper.{bare-copper, filled-copper, expanded-copper, shrunk-copper}
use Rattle.guarantee.proofs.Approach.{same-pixel, no_approach, with_pixel}
use Rattle.guarantee.proofs.Invariant.{CurrentMap, Inv, opens, above, above-between, passed_clear, failed_close}

pub record StepHolds (c : Call) (b : Board) (w : World) (own : Bool) : Type 0 where
  pub claim : own ≡ true → Claim c (answer c w) b
  pub next : Inv (feed c (answer c w) b) (world_after c w) (own_after c (answer c w) own)

-- a call that is refused leaves everything as it was
refused : (c : Call) (w : World) → eqb (answer c w) 0 ≡ false → world_after c w ≡ w
refused (opening x y o) w e = rw e
refused (paint x y c r) w e = rw e
refused (erase x y c r) w e = rw e
refused (build n s) w e = rw e
refused (place x y q) w e = rw e
refused (run d n) w e = rw e
refused lift w e = rw e
refused (expand q s) w e = rw e
refused (shrink q s) w e = rw e
refused (skeleton o) w e = refl
refused (rebuild m o) w e = refl
refused (probe p s o) w e = refl
refused aside w e = refl

-- the maps too are whose they were
refused-own : (c : Call) (a : ℕ) (own : Bool) → eqb a 0 ≡ false → own_after c a own ≡ own
refused-own c a own e = ap (λ (t : Bool). (t && is_build c) || own) e

-- ---- what holds of the pixels that a call visits

module _ (P : (x y q : ℕ) → Type 0) where
  -- a place visits its pixel
  at-pixel : (i j r : ℕ) → P i j r → {k : BoardCutter} (x y q : ℕ) → Visits (place i j r) k x y q → P x y q
  at-pixel i j r p x y q (at_place a b c d) = p

  -- a run visits the pixels that its steps reach
  at-steps : (d n : ℕ) {k : BoardCutter}
      → ((start : ℤ × ℤ) (q : ℕ) → k ≡ down start q → (i x y : ℕ) → 1 ≤ i → i ≤ n → walk d i start ≡ (pos x, pos y) → P x y q)
      → (x y q : ℕ) → Visits (run d n) k x y q → P x y q
  at-steps d n f x y q (at_step a b start r i v u low high at) = f start r refl i v u low high at

-- a step that a call travels ends at a pixel that it visits
ends_visited : (c : Call) (k : BoardCutter) (x y u v q : ℕ) → Travels c k x y u v q → Visits c k u v q
ends_visited c k x y u v q (by_step d n start r i a b e g l from to) = at_step d n start r (i + 1) e g (omega arith) (omega arith) to

-- a run travels its single steps
along-steps : (P : (x y u v q : ℕ) → Type 0) (d n : ℕ) {k : BoardCutter}
    → ((start : ℤ × ℤ) (q : ℕ) → k ≡ down start q → (i x y u v : ℕ) → i < n
    → walk d i start ≡ (pos x, pos y) → walk d (i + 1) start ≡ (pos u, pos v) → P x y u v q)
    → (x y u v q : ℕ) → Travels (run d n) k x y u v q → P x y u v q
along-steps P d n f x y u v q (by_step a b start r i c e g h l from to) = f start r refl i c e g h l from to

-- ---- a sheet is open, the cutter up

abbrev up_over : (x y engine : ℕ) (current : Bool) → Session
up_over x y e c = cutter_up true x y c e unmet

up-inv : (x y e : ℕ) (c : Bool) (copper : Mask) (sheet : List ℕ) (m : Maps) {own : Bool} → sound (up_over x y e c) ≡ true → c ≡ not (eqb e 0)
    → ((i j : ℕ) → i < x → j < y → copper_of sheet x i j ≡ copper i j)
    → (c ≡ true → CurrentMap (world (up_over x y e c) sheet m))
    → Inv (board_of x y copper e) (world (up_over x y e c) sheet m) own
up-inv x y e c copper sheet m fine known same built = record {
  agree = record { width = refl; height = refl; engine = refl; cutter = refl; opened = opens (up_over x y e c) fine; current = known; copper = same };
  fine = fine;
  owned = λ o. record { built = built; stands = λ l. absurd (true≢false (sym l)); approach = no_approach };
}

module _ {b : Board} {w : World} {own : Bool} (inv : Inv b w own) where
  abbrev s : Session
  s = w.session

  same : (i j : ℕ) → i < s.width → j < s.height → copper_of w.sheet s.width i j ≡ b.copper i j
  same = inv.agree.copper

  -- the invariant after any call, from what it is after one that is done
  after-inv : (c : Call) → (answer c w ≡ 0 → Inv (done c b) (left c 0 w) (own_after c 0 own))
      → Inv (feed c (answer c w) b) (world_after c w) (own_after c (answer c w) own)
  after-inv c when-done = go (eqb (answer c w) 0) refl
    where
      go : (t : Bool) → eqb (answer c w) 0 ≡ t → Inv (cond t (done c b) b) (world_after c w) (own_after c (answer c w) own)
      go true e = let z = eqb-true (answer c w) 0 e in rw z (when-done z)
      go false e = rw (refused c w e, refused-own c (answer c w) own e) inv

  step-holds : (c : Call) → (own ≡ true → answer c w ≡ 0 → Safe c b × SafeBetween c b) → (own ≡ true → answer c w ≡ 34 → Fair c b)
      → (answer c w ≡ 0 → Inv (done c b) (left c 0 w) (own_after c 0 own)) → StepHolds c b w own
  step-holds c when-done when-34 next = record {
    claim = λ o. record { safe = λ e. (when-done o e).0; between = λ e. (when-done o e).1; fair = when-34 o };
    next = after-inv c next;
  }

  -- a call that never answers 34, and visits no pixel
  quiet_step : (c : Call) → without 34 (table_of c w) ≡ true → ((x y q : ℕ) → Visits c b.cutter x y q → ⊥)
      → (answer c w ≡ 0 → Inv (done c b) (left c 0 w) (own_after c 0 own)) → StepHolds c b w own
  quiet_step c no-34 still next =
      step-holds c (λ o e. ((λ x y q v. absurd (still x y q v)), (λ x y u v q t. absurd (still u v q (ends_visited c _ x y u v q t)))))
      (λ o e. absurd (never 34 (table_of c w) refl no-34 e)) next

  -- the session is stale, the board has the sheet's new copper
  stale-inv : active s ≡ true → (sheet : List ℕ) (m : Maps) (copper : Mask)
      → ((i j : ℕ) → i < s.width → j < s.height → copper_of sheet s.width i j ≡ copper i j)
      → Inv (recoppered copper b) (world (stale s) sheet m) own
  stale-inv open_sheet sheet m copper new =
      rw (← inv.agree.width, ← inv.agree.height)
      (up-inv s.width s.height 0 false copper sheet m (stale-sound s open_sheet) refl new (λ e. absurd (true≢false (sym e))))

  -- ---- open

  pub open_step : (x y : ℕ) (o : Option Lent) → StepHolds (opening x y o) b w own
  unfolding open_table
  open_step x y o =
      quiet_step (opening x y o) refl (λ a c q. elim [ ])
      (λ e.
      let g = open_granted (lent_to o w).sheet x y e in
      up-inv x y 0 false (λ i j. false) (bare (lent_to o w).sheet) (lent_to o w).maps (open_sound x y g.0) refl
      (λ i j k l. bare-copper x y i j k l (lent_to o w).sheet g.1) (λ c. absurd (true≢false (sym c))))

  -- ---- paint and erase

  painted : (t u : Bool) → cond t true u ≡ t || u
  painted true u = refl
  painted false u = refl

  erased : (t u : Bool) → cond t false u ≡ not t && u
  erased true u = refl
  erased false u = refl

  module _ (x y cols rows : ℕ) where
    fill_inv : (v : ℕ) (copper : Mask) → ((i j : ℕ) → cond (in_rectangle x y cols rows i j) (not (eqb v 0)) (b.copper i j) ≡ copper i j)
        → first_of (fill_table s w.sheet x y cols rows) ≡ 0
        → Inv (recoppered copper b) (world (stale s) (filled_by s x y cols rows v w.sheet) w.maps) own
    fill_inv v copper rule e =
        stale-inv (fill_granted s w.sheet x y cols rows refl e).open_sheet _ w.maps copper
        (λ i j k l. filled-copper s.width s.height i j k l x y cols rows v w.sheet ∙ rw (same i j k l) (rule i j))

    pub paint_step : StepHolds (paint x y cols rows) b w own
    unfolding fill_table
    paint_step =
        quiet_step (paint x y cols rows) refl (λ a c q. elim [ ])
        (fill_inv 1 _ (λ i j. painted (in_rectangle x y cols rows i j) (b.copper i j)))

    pub erase_step : StepHolds (erase x y cols rows) b w own
    unfolding fill_table
    erase_step =
        quiet_step (erase x y cols rows) refl (λ a c q. elim [ ])
        (fill_inv 0 _ (λ i j. erased (in_rectangle x y cols rows i j) (b.copper i j)))

  -- ---- expand and shrink

  module _ (q : ℕ) (scratch : List ℤ) where
    resize_inv : (sheet : List ℕ) (copper : Mask) → ((i j : ℕ) → i < s.width → j < s.height → copper_of sheet s.width i j ≡ copper i j)
        → first_of (resize_table s w.sheet w.maps.pairs scratch q) ≡ 0
        → Inv (recoppered copper b) (world (stale s) sheet (maps (unmapped w.maps.pairs) w.maps.values)) own
    resize_inv sheet copper new e =
        stale-inv (resize_granted s w.sheet w.maps.pairs scratch q refl e).open_sheet sheet _ copper new

    pub expand_step : StepHolds (expand q scratch) b w own
    unfolding resize_table resize_table_by
    expand_step =
        quiet_step (expand q scratch) refl (λ a c r. elim [ ])
        (resize_inv _ _ (λ i j k l. rw (← inv.agree.width, ← inv.agree.height) (expanded-copper s.width s.height i j k l q w.sheet b.copper same)))

    pub shrink_step : StepHolds (shrink q scratch) b w own
    unfolding resize_table resize_table_by
    shrink_step =
        quiet_step (shrink q scratch) refl (λ a c r. elim [ ])
        (resize_inv _ _ (λ i j k l. rw (← inv.agree.width, ← inv.agree.height) (shrunk-copper s.width s.height i j k l q w.sheet b.copper same)))

  -- ---- calls that change nothing here

  pub skeleton_step : (out : List ℕ) → StepHolds (skeleton out) b w own
  unfolding read_table
  skeleton_step out =
      quiet_step (skeleton out) refl (λ a c q. elim [ ]) (λ e. inv)

  pub rebuild_step : (marks out : List ℕ) → StepHolds (rebuild marks out) b w own
  unfolding read_table
  rebuild_step marks out =
      quiet_step (rebuild marks out) refl (λ a c q. elim [ ]) (λ e. inv)

  pub probe_step : (points : List ℕ) (scratch : List ℤ) (out : List ℕ) → StepHolds (probe points scratch out) b w own
  unfolding probe_table
  probe_step points scratch out =
      quiet_step (probe points scratch out) refl (λ a c q. elim [ ]) (λ e. inv)

  pub aside_step : StepHolds aside b w own
  aside_step = quiet_step aside refl (λ a c q. elim [ ]) (λ e. inv)

  -- ---- build

  module _ (e : ℕ) (scratch : List ℤ) where
    built_inv : Building s w.sheet w.maps scratch e → Inv (done (build e scratch) b) (world (built_by e s) w.sheet (maps_built s w.sheet e w.maps)) true
    built_inv g =
        rw (← inv.agree.width, ← inv.agree.height)
        (up-inv s.width s.height e true b.copper w.sheet (maps_built s w.sheet e w.maps) (built_sound s g.open_sheet e g.known)
        (rw (ne_eqb e 0 (omega (arith, leb-true 1 e (and_left (leb 1 e) _ g.known))))) same
        (λ c. record { whole = g.held; map_is = record { pairs = λ k. rw k refl; values = λ k. rw k refl } }))

    pub build_step : StepHolds (build e scratch) b w own
    unfolding build_table build_table_by
    build_step =
        quiet_step (build e scratch) refl (λ a c q. elim [ ]) (λ p. built_inv (build_granted s w.sheet w.maps scratch e refl p))

  -- ---- lift, place and run: the cutter and its closest approach alone change

  abbrev cutter_as : (lowered : Bool) (x y q : ℕ) (closest : Closest) → Session
  cutter_as l x y q k = recorded s.opened s.width s.height s.current s.engine l x y q k

  cutter_inv : (l : Bool) (x y q : ℕ) (closest : Closest) (k : BoardCutter) (visited : List (ℤ × ℤ)) → let t = cutter_as l x y q closest in
      SameCutter k t → sound t ≡ true
      → (own ≡ true → (l ≡ true → Clear (copper_of w.sheet s.width) s.width s.height x y q)
      × Approach s.engine w.maps s.width s.height visited closest)
      → Inv (with_cutter k visited b) (world t w.sheet w.maps) own
  cutter_inv l x y q closest k visited as_said fine owned = record {
    agree = record {
      width = inv.agree.width;
      height = inv.agree.height;
      engine = inv.agree.engine;
      cutter = as_said;
      opened = inv.agree.opened;
      current = inv.agree.current;
      copper = same;
    };
    fine = fine;
    owned = λ o. record {
      built = λ c. let m = (inv.owned o).built c in record { whole = m.whole; map_is = record { pairs = m.map_is.pairs; values = m.map_is.values } };
      stands = (owned o).0;
      approach = (owned o).1;
    };
  }

  pub lift_step : StepHolds lift b w own
  lift_step =
      quiet_step lift refl (λ a c q. elim [ ])
      (λ e. rw inv.fine
      (cutter_inv false 0 0 0 s.closest up b.visited refl (up-sound s inv.fine) (λ o. ((λ l. absurd (true≢false (sym l))), (inv.owned o).approach))))

  pub place_step : (x y q : ℕ) → StepHolds (place x y q) b w own
  unfolding place_table place_rows
  place_step x y q =
      step-holds (place x y q)
      (λ o e. let r = place_done s w.maps x y q e in
      (at-pixel (λ i j p. Clear b.copper b.width b.height i j p) x y q (above inv q x y (free o r.0 r.1)), λ i j u v p. elim [ ]))
      (λ o e.
      let r = place_stopped s w.maps x y q e in
      let g = r.0 in record {
        x = x;
        y = y;
        q = q;
        visited = at_place x y q b.cutter;
        close = failed_close inv o g.open_sheet g.current x y q g.across g.down r.1;
      })
      (λ e.
      let r = place_done s w.maps x y q e in
      let g = r.0 in
      cutter_inv true x y q _ (down (pos x, pos y) q) ((pos x, pos y) ∷ []) (refl, (refl, refl))
      (down-sound s inv.fine x y q _ (with_says_none _ w.maps _ unmet refl) g.current g.across g.down g.small)
      (λ o. ((λ l. free o g r.1), met g)))
    where
      free : own ≡ true → Placing s w.maps x y q → passes_at s.engine w.maps (index s.width x y) q ≡ true
          → Clear (copper_of w.sheet s.width) s.width s.height x y q
      free o g p = passed_clear inv o g.open_sheet g.current x y q g.across g.down p

      met : Placing s w.maps x y q → Approach s.engine w.maps s.width s.height ((pos x, pos y) ∷ []) (closest_at (cutter_of s x y q) w.maps unmet)
      met g = with_pixel s.engine w.maps s.width x y g.across g.down refl no_approach

  -- the session's cutter is the board's
  lowered_at : {start : ℤ × ℤ} {q : ℕ} → b.cutter ≡ down start q → SameCutter (down start q) s
  lowered_at k = subst (λ (t : BoardCutter). SameCutter t s) k inv.agree.cutter

  module _ (d n : ℕ) where
    -- the cutter may stand where i steps end
    abbrev free : ℕ → Bool
    free i = may_stand (cutter_after d i (own_cutter s)) w.maps

    -- single steps lead to the pixels that the code works out
    steps-reach : RunGranted s w.maps d n → (i : ℕ) → i ≤ n → walk d i (place_of s) ≡ (pos (column_after d i s.x), pos (row_after d i s.y))
    steps-reach g i high = reached (own_cutter s) d g.on.known g.cutter.across g.cutter.down n g.inside i high

    moves : RunGranted s w.maps d n → (k : BoardCutter) → SameCutter k s → SameCutter (cutter_run d n k) (run_session s w.maps d n)
    moves g up e = absurd (true≢false (sym g.lowered ∙ e))
    moves g (down p q) (l, (a, e)) = (refl, (ap (walk d n) a ∙ steps-reach g n (omega arith), e))

    -- ---- while the maps are the session's own

    module _ (ours : own ≡ true) where
      -- each pixel of a run that is done is free of copper, its start too
      frees-pixel : RunGranted s w.maps d n → blocked (own_cutter s) w.maps d n ≡ false → (i x y : ℕ) → i ≤ n
          → walk d i (place_of s) ≡ (pos x, pos y) → Free w x y
      unfolding blocked walk
      frees-pixel g none zero x y high at = same-pixel (Free w) at ((inv.owned ours).stands g.lowered)
      frees-pixel g none (suc i) x y high at =
          let o = on_the_way g.on high in
          let p : free (suc i) ≡ true = not-false _ (rw (add-one i) at (any_false n (λ j. not (free (j + 1))) i none (omega arith))) in
          same-pixel (Free w) (sym (steps-reach g (suc i) high) ∙ at)
          (passed_clear inv ours g.open_sheet g.cutter.current (column_after d (suc i) s.x) (row_after d (suc i) s.y) s.q o.end.across o.end.down p)

      -- and so is the way from each to the next
      frees : RunGranted s w.maps d n → blocked (own_cutter s) w.maps d n ≡ false → FreeRun w d n
      frees g none = record {
        pixels = frees-pixel g none;
        between = λ i x y u v l from to.
            clear_between x y u v (one-step d g.on.known i (place_of s) x y u v from to)
            (frees-pixel g none i x y (omega arith) from) (frees-pixel g none (i + 1) u v (omega arith) to);
      }

      run_safe : RunGranted s w.maps d n → blocked (own_cutter s) w.maps d n ≡ false → Safe (run d n) b × SafeBetween (run d n) b
      run_safe g none = (
        at-steps (λ x y q. Clear b.copper b.width b.height x y q) d n (λ start q k i x y low high at.
            let c = lowered_at k in
            rw (← c.1.1) (above inv s.q x y ((frees g none).pixels i x y high (rw (← c.1.0) at)))),
        along-steps (λ x y u v q. ClearBetween b.copper b.width b.height x y u v q) d n (λ start q k i x y u v l from to.
            let c = lowered_at k in
            rw (← c.1.1) (above-between inv s.q x y u v ((frees g none).between i x y u v l (rw (← c.1.0) from) (rw (← c.1.0) to)))),
      )

      -- one that is stopped has a step that ends too near to copper
      stopped : (k : BoardCutter) → b.cutter ≡ k → SameCutter k s → RunGranted s w.maps d n → blocked (own_cutter s) w.maps d n ≡ true → Fair (run d n) b
      unfolding blocked
      stopped up c e g p = absurd (true≢false (sym g.lowered ∙ e))
      stopped (down start q) c (l, (a, e)) g p =
          let f = any_found n _ p in
          let high : f.witness + 1 ≤ n = omega (arith, f.below) in
          let o = on_the_way g.on high in
          let x = column_after d (f.witness + 1) s.x in
          let y = row_after d (f.witness + 1) s.y in
          record {
            x = x;
            y = y;
            q = q;
            visited = rw c (at_step d n start q (f.witness + 1) x y (omega arith) high (rw a (steps-reach g (f.witness + 1) high)));
            close = rw (← e) (failed_close inv ours g.open_sheet g.cutter.current x y s.q o.end.across o.end.down (not-true _ f.passes));
          }

      -- the closest approach with the pixels of its first i steps
      meets : RunGranted s w.maps d n → (i : ℕ) → i ≤ n
          → Approach s.engine w.maps s.width s.height (tool_path d i (place_of s) ++ b.visited) (closest_along (own_cutter s) w.maps d i s.closest)
      unfolding tool_path closest_along ascend
      meets g zero l = (inv.owned ours).approach
      meets g (suc i) l =
          let o = on_the_way g.on l in
          rw (add-one i)
          (with_pixel s.engine w.maps s.width (column_after d (suc i) s.x) (row_after d (suc i) s.y) o.end.across o.end.down
          (steps-reach g (suc i) l) (meets g i (omega arith)))

      -- with those of the board's run
      met_by : RunGranted s w.maps d n → (k : BoardCutter) → SameCutter k s
          → Approach s.engine w.maps s.width s.height (tool_path_of d n k ++ b.visited) (closest_along (own_cutter s) w.maps d n s.closest)
      met_by g up e = absurd (true≢false (sym g.lowered ∙ e))
      met_by g (down p q) (l, (a, e)) = rw a (meets g n (omega arith))

      -- where the run ends
      ends-free : RunGranted s w.maps d n → blocked (own_cutter s) w.maps d n ≡ false → Free w (column_after d n s.x) (row_after d n s.y)
      ends-free g none = frees-pixel g none n _ _ (omega arith) (steps-reach g n (omega arith))

    pub run_step : StepHolds (run d n) b w own
    unfolding run_table run_rows
    run_step =
        step-holds (run d n)
        (λ o e. let r = run_done s w.maps d n e in run_safe o r.0 r.1)
        (λ o e. let r = run_stopped s w.maps d n e in stopped o b.cutter refl inv.agree.cutter r.0 r.1)
        (λ e.
        let r = run_done s w.maps d n e in
        let g = r.0 in
        let x = column_after d n s.x in
        let y = row_after d n s.y in
        cutter_inv true x y s.q _ (cutter_run d n b.cutter) (tool_path_of d n b.cutter ++ b.visited) (moves g b.cutter inv.agree.cutter)
        (down-sound s inv.fine x y s.q _ (along-says-none (own_cutter s) w.maps d n s.closest (says_none s inv.fine))
        g.cutter.current g.on.end.across g.on.end.down g.cutter.small)
        (λ o. ((λ l. ends-free o g r.1), met_by o g b.cutter inv.agree.cutter)))

    -- of session and sheet alone
    pub run_free : own ≡ true → first_of (run_table s w.maps d n) ≡ 0 → FreeRun w d n
    run_free o e = let r = run_done s w.maps d n e in frees o r.0 r.1
