-- Runs of which the second has frames between that only pass results on: one or two of its steps
-- answer a step of the first.
use Rattle.base_lists.proofs.Common.{◌≡◌, ℕ, zero, suc, ◌+◌, ◌≤◌, false, List, [], ◌∷◌, length, None, Some, refl, sym, ap, subst, ◌∙◌, arith, length_rel}
use Rattle.wasm_tree_spec.specs.Prelude.{ValType}
use Rattle.base_simulation.specs.Machines.{events_of, state_after}
use Rattle.wasm_meaning.specs.Prelude.{Outcome, Gives, Traps, IllTyped, bind, onto, split_at, Val, Inst, Store, Level, Frame, Entry, Running, Mark, Opening, Waiting, Ended, Growing, Caller, Host, Starter, Act, Ends, Next, Ran, CallsOwn, WaitsGrowth, CallsPlaceholder, EndsCall, pop_typed, act, give}
use Rattle.wasm_meaning.specs.Prelude.{give_levels, perform, step, to_mark, Run, Out, Steps, trapped_to, made, transition_at, run_after, transition, tick}
use Rattle.wasm_meaning.proofs.Outcomes.{all_at}
use Rattle.run_simulation.specs.Prelude.{Pairing, OneToOne, ResRel, done, trap, wrong, ListRel, ValRel, FrameRel, EntryRel, running, mark, opening, waiting, ended, growing, goes, calls, asks_grow, ends, ActRel, NotOpaque, NextRel, RunRel, EntriesKnown, TickSkips, calls_placeholder, RunsStepTogether}
use Rattle.run_simulation.specs.Prelude.{passing, WithPassing, through, FramesBetween, AnsweredInTwo, HaveTypes}
use Rattle.run_simulation.specs.Trampolines.{nil, cons}
use Rattle.run_simulation.specs.Related as related
use Rattle.run_simulation.proofs.RelatedOutcomes.{written, bind_rel_is}
use Rattle.base_lists.specs.Related.{PairRel}
use Rattle.std.specs.List.{cons_option}
use Rattle.run_simulation.proofs.ValueSteps.{pop_typed_all, pop_typed_rel}
use Rattle.run_simulation.proofs.StepsAgree.{TopView, top_none, top_mark, top_opening, top_waiting, top_ended, top_growing, top_running, act_rel}
use Rattle.run_simulation.proofs.StackRelations.{IsEnd, Shape, Held, unchanged, perform_rel, together, same_kinds, given_together}

-- ---- what passes values on ----

-- The frame that passes results on, with the results `ws` as its values.
abbrev holding : Inst → List Val → List ValType → List Val → Frame
holding inst locals results ws = record (passing inst locals results) { levels = record { values = onto ws []; code = []; gives = length results; takes = length results; back = [] } ∷ [] }

split_all : (n : ℕ) (xs : List Val) → length xs ≡ n → split_at n xs ≡ Some (xs, [])
split_all zero [] e = refl
split_all zero (x ∷ xs) e = cc
split_all (suc n) [] e = cc
split_all (suc n) (x ∷ xs) e = rw (split_all n xs (omega (arith, e))) refl

length_onto : (xs ys : List Val) → length (onto xs ys) ≡ length xs + length ys
length_onto [] ys = omega arith
length_onto (x ∷ xs) ys = let l = length_onto xs (x ∷ ys) in omega (arith, l)

-- Values that were pushed one after the other are popped by their types in the same order.
pub pop_pushed : {ts : List ValType} {ws : List Val} (vs : List Val) → HaveTypes ts ws → pop_typed ts (onto ws vs) ≡ Gives (ws, vs)
pop_pushed vs related.nil = refl
pop_pushed vs (related.cons {b = w} typed more) = rw (pop_pushed (w ∷ vs) more, typed) refl

passes_on : (t : Store) (inst : Inst) (locals : List Val) (ts : List ValType) (ws : List Val) (ys : List Entry) → HaveTypes ts ws → step t (Running (holding inst locals ts ws) ∷ ys) ≡ give t ws ys
passes_on t inst locals ts ws ys typed =
    let l = length_onto ws [] in let k = length_rel typed in
    rw (split_all (length ts) (onto ws []) (omega (arith, l, k)), pop_pushed [] typed) refl

-- ---- the runs ----

-- What follows a step does not depend on the frame that was on top of the run.
after_past : (r : Run) (f : Frame) (es : List Entry) (o : Outcome Next) → r.entries ≡ Running f ∷ es → run_after r o ≡ run_after (record r { entries = es }) o
after_past r f es (Gives (Ran s xs)) e = refl
after_past r f es (Gives (CallsOwn p t vs s xs)) e = refl
after_past r f es (Gives (WaitsGrowth g m n s xs)) e = refl
after_past r f es (Gives (CallsPlaceholder n vs s xs)) e = refl
after_past r f es (Gives (EndsCall vs s xs)) e = refl
after_past r f es Traps e = ap (λ xs. trapped_to r (to_mark xs)) e ∙ same (to_mark es)
  where
    same : (w : Outcome (Caller × List Entry)) → trapped_to r w ≡ trapped_to (record r { entries = es }) w
    same (Gives (Host, xs)) = refl
    same (Gives (Starter, xs)) = refl
    same Traps = refl
    same IllTyped = refl
after_past r f es IllTyped e = ap (λ xs. trapped_to r (to_mark xs)) e ∙ same (to_mark es)
  where
    same : (w : Outcome (Caller × List Entry)) → trapped_to r w ≡ trapped_to (record r { entries = es }) w
    same (Gives (Host, xs)) = refl
    same (Gives (Starter, xs)) = refl
    same Traps = refl
    same IllTyped = refl

running_tick : (r : Run) (f : Frame) (es : List Entry) → r.entries ≡ Running f ∷ es → tick r ≡ run_after r (step r.store r.entries)
running_tick r f es e = ap (λ xs. made (transition_at r xs)) e

one_event : (r : Run) (o : Out) → tick r ≡ o → events_of tick r 1 ≡ cons_option o.1 []
one_event r o e = ap (λ (x : Out). cons_option x.1 []) e

two_events : (q p : Run) (o : Out) → tick q ≡ (p, None) → tick p ≡ o → events_of tick q 2 ≡ cons_option o.1 []
two_events q p o e f = ap (λ (x : Out). cons_option x.1 (cons_option (tick x.0).1 [])) e ∙ ap (λ (x : Out). cons_option x.1 []) f

two_states : (q p : Run) (o : Out) → tick q ≡ (p, None) → tick p ≡ o → state_after tick q 2 ≡ o.0
two_states q p o e f = ap (λ (x : Out). (tick x.0).0) e ∙ ap (λ (x : Out). x.0) f

-- A step that gives values to the entry on top calls no placeholder.
given_plain : (r : Run) (t : Store) (ws : List Val) (ys : List Entry) → calls_placeholder (Steps r (give t ws ys)) ≡ false
given_plain r t ws [] = refl
given_plain r t ws (Running f ∷ ys) = in_levels f.levels
  where
    in_levels : (ls : List Level) → calls_placeholder (Steps r (give_levels t ws f ls ys)) ≡ false
    in_levels [] = refl
    in_levels (l ∷ ls) = refl
given_plain r t ws (Mark ∷ ys) = refl
given_plain r t ws (Opening xs ∷ ys) = refl
given_plain r t ws (Waiting ts ∷ ys) = refl
given_plain r t ws (Ended vs ∷ ys) = refl
given_plain r t ws (Growing g ∷ ys) = refl

-- ---- the shape ----

module _ (R : Pairing) where
  marks : {es fs : List Entry} → WithPassing R es fs → ResRel (PairRel (◌≡◌ {A = Caller}) (WithPassing R)) (to_mark es) (to_mark fs)
  marks nil = wrong
  marks (cons mark e) = done (record { first = refl; second = e })
  marks (cons (opening x) e) = done (record { first = refl; second = e })
  marks (cons (running f) e) = marks e
  marks (cons waiting e) = marks e
  marks (cons (ended v) e) = marks e
  marks (cons (growing n) e) = marks e
  marks (through f inst locals e) = marks e

  pub frames : {f g : Frame} {es fs : List Entry} → WithPassing R (Running f ∷ es) (Running g ∷ fs) → FrameRel R f g
  frames (cons (running p) e) = p
  frames (through p inst locals e) = p

  pub again : {f g h k : Frame} {es fs : List Entry} → WithPassing R (Running f ∷ es) (Running g ∷ fs) → k.results ≡ g.results → FrameRel R h k → WithPassing R (Running h ∷ es) (Running k ∷ fs)
  again (cons p e) same q = cons (running q) e
  again {h = h} {k = k} {es = es} (through {fs = fs} p inst locals e) same q = subst (λ ts. WithPassing R (Running h ∷ es) (Running k ∷ (Running (passing inst locals ts) ∷ fs))) same (through q inst locals e)

module _ (R : Pairing) (apart : OneToOne R) where
  view : {s t : Store} {es fs : List Entry} → WithPassing R es fs → TopView R (written apart) (λ s t. WithPassing R) s t es fs
  view nil = top_none nil
  view (cons mark e) = top_mark e
  view (cons (opening x) e) = top_opening x e
  view (cons (running f) e) = top_running
  view (cons waiting e) = top_waiting e
  view (cons (ended v) e) = top_ended v e
  view (cons (growing n) e) = top_growing n e
  view (through f inst locals e) = top_running

  pub between : Shape R apart (WithPassing R)
  between = record { nothing = nil; push = λ p e. cons p e; view = λ e. view e; frames = λ e. frames R e; again = λ e _ same q. again R e same q; marks = λ e. marks R e }

  module _ (r q : Run) (h : RunRel R (FramesBetween R) (FramesBetween R) r q) where
    abbrev Both : Store → Store → List Entry → List Entry → Type 0
    Both = Held R apart (WithPassing R) between r.phase r.store q.store

    -- The second run answers a step of the first by one step; or the first gives values to the
    -- entry below, and the second gives them in two steps.
    data Answer (es fs : List Entry) : Type 0 where
      one : ResRel (NextRel R Both) (step r.store es) (step q.store fs) → Answer es fs
      two : {f g k : Frame} {xs ys : List Entry} {us ws : List Val} → es ≡ Running f ∷ xs → fs ≡ Running g ∷ (Running k ∷ ys) → ListRel (ValRel R) us ws → WithPassing R xs ys → step r.store es ≡ give r.store us xs →
          (held : Frame) → step q.store fs ≡ Gives (Ran q.store (Running held ∷ ys)) → step q.store (Running held ∷ ys) ≡ give q.store ws ys → Answer es fs

    goes_on : {f g : Frame} {x y : Act} {xs ys : List Entry} (inst : Inst) (locals : List Val) → FrameRel R f g → WithPassing R xs ys → ActRel R f.inst g.inst x y → NotOpaque R x → (IsEnd x → ⊥) →
        ResRel (NextRel R Both) (perform r.store f xs x) (perform q.store g (Running (passing inst locals g.results) ∷ ys) y)
    goes_on inst locals p e a free on = perform_rel R apart (WithPassing R) between r.phase r.store q.store h.store a (unchanged R apart (WithPassing R) between r q h (through p inst locals e)) free (λ ends. absurd (on ends))

    -- The frames on top end, and the second's gives its values to the frame that passes them on.
    from_ends : {f g : Frame} {vs ws : List Val} {o n : Outcome (List Val × List Val)} {xs ys : List Entry} (inst : Inst) (locals : List Val) → WithPassing R xs ys → act r.store f ≡ Gives (Ends vs) → act q.store g ≡ Gives (Ends ws) → o ≡ pop_typed f.results vs → n ≡ pop_typed g.results ws →
        ResRel (PairRel (ListRel (ValRel R)) (ListRel (ValRel R))) o n → Answer (Running f ∷ xs) (Running g ∷ (Running (passing inst locals g.results) ∷ ys))
    from_ends inst locals e x_is y_is o_is n_is trap = one (rw (x_is, y_is, ← o_is, ← n_is) trap)
    from_ends inst locals e x_is y_is o_is n_is wrong = one (rw (x_is, y_is, ← o_is, ← n_is) wrong)
    from_ends {f} {g} {vs} {ws} {xs = xs} {ys = ys} inst locals e x_is y_is o_is n_is (done {b = given} z) =
        let second = Running (passing inst locals g.results) ∷ ys in
        two refl refl z.first e (ap (λ a. bind a (perform r.store f xs)) x_is ∙ ap (λ p. bind p (λ p. give r.store p.0 xs)) (sym o_is)) (holding inst locals g.results given.0)
        (ap (λ a. bind a (perform q.store g second)) y_is ∙ ap (λ p. bind p (λ p. give q.store p.0 second)) (sym n_is)) (passes_on q.store inst locals g.results given.0 ys (all_at (pop_typed_all g.results ws) (sym n_is)))

    -- The second run answers what the frame on top does, where below its own frame another passes
    -- the results on.
    from_acts : {f g : Frame} {x y : Outcome Act} {xs ys : List Entry} (inst : Inst) (locals : List Val) → FrameRel R f g → WithPassing R xs ys → x ≡ act r.store f → y ≡ act q.store g → ((z : Act) → x ≡ Gives z → NotOpaque R z) → ResRel (ActRel R f.inst g.inst) x y →
        Answer (Running f ∷ xs) (Running g ∷ (Running (passing inst locals g.results) ∷ ys))
    from_acts inst locals p e x_is y_is free trap = one (rw (← x_is, ← y_is) trap)
    from_acts inst locals p e x_is y_is free wrong = one (rw (← x_is, ← y_is) wrong)
    from_acts {f} {g} inst locals p e x_is y_is free (done (ends v)) = from_ends inst locals e (sym x_is) (sym y_is) refl refl (rw (← p.results) (pop_typed_rel R f.results v))
    from_acts inst locals p e x_is y_is free (done (goes c k)) = one (rw (← x_is, ← y_is) (goes_on inst locals p e (goes c k) (free _ refl) (λ ends. ends)))
    from_acts inst locals p e x_is y_is free (done (calls n v k)) = one (rw (← x_is, ← y_is) (goes_on inst locals p e (calls n v k) (free _ refl) (λ ends. ends)))
    from_acts inst locals p e x_is y_is free (done (asks_grow n k)) = one (rw (← x_is, ← y_is) (goes_on inst locals p e (asks_grow n k) (free _ refl) (λ ends. ends)))

    answer : {es fs : List Entry} → WithPassing R es fs → TickSkips R r es → EntriesKnown R es fs → Answer es fs
    answer nil skips known = one wrong
    answer (cons mark e) skips known = one wrong
    answer (cons (opening x) e) skips known = one wrong
    answer (cons waiting e) skips known = one wrong
    answer (cons (ended v) e) skips known = one wrong
    answer (cons (growing n) e) skips known = one wrong
    answer (cons (running p) e) skips known =
        one (bind_rel_is (act_rel R (written apart) h.store p skips known) (λ x _ is a. perform_rel R apart (WithPassing R) between r.phase r.store q.store h.store a (unchanged R apart (WithPassing R) between r q h (cons (running p) e)) (skips x is) (λ _. e)))
    answer (through {f} {g} p inst locals e) skips known = from_acts inst locals p e refl refl skips (act_rel R (written apart) h.store p skips known)

    from_one : {es fs : List Entry} → r.entries ≡ es → q.entries ≡ fs → TickSkips R r r.entries → ResRel (NextRel R Both) (step r.store es) (step q.store fs) → AnsweredInTwo R r q
    from_one e f skips next =
        let o = together R apart (WithPassing R) between r q h skips (rw (e, f) next) in
        let kinds = same_kinds R apart (WithPassing R) between r q h skips (rw (e, f) next) in
        record { further = 0; bound = omega arith; shown = ap (λ x. cons_option x []) (sym o.out.event); run = o.out.run; plain = λ plain k le. alone (sym kinds ∙ plain) k le; first = o.first; second = o.second }
      where
        alone : calls_placeholder (transition q) ≡ false → (k : ℕ) → k ≤ 0 → calls_placeholder (transition (state_after tick q k)) ≡ false
        alone plain zero le = plain
        alone plain (suc k) le = absurd (omega (arith, le))

    from_two : {f g k held : Frame} {xs ys : List Entry} {us ws : List Val} → r.entries ≡ Running f ∷ xs → q.entries ≡ Running g ∷ (Running k ∷ ys) → ListRel (ValRel R) us ws → WithPassing R xs ys → step r.store r.entries ≡ give r.store us xs →
        step q.store q.entries ≡ Gives (Ran q.store (Running held ∷ ys)) → step q.store (Running held ∷ ys) ≡ give q.store ws ys → AnsweredInTwo R r q
    from_two {f} {g} {k} {held} {xs} {ys} {us} {ws} e i v below first second last =
        let r' : Run = record r { entries = xs } in
        let q' : Run = record q { entries = ys } in
        let q1 : Run = record q { entries = Running held ∷ ys } in
        let h' : RunRel R (FramesBetween R) (FramesBetween R) r' q' = record { store = h.store; entries = below; phase = h.phase; shown = h.shown; view = h.view; owned = h.owned; moves = h.moves } in
        let o : RunsStepTogether R (FramesBetween R) r' q' (run_after r' (give r.store us xs)) (run_after q' (give q.store ws ys)) = given_together R apart (WithPassing R) between r' q' h' v in
        let one_is : tick r ≡ run_after r' (give r.store us xs) = running_tick r f xs e ∙ ap (run_after r) first ∙ after_past r f xs (give r.store us xs) e in
        let silent : tick q ≡ (q1, None) = running_tick q g (Running k ∷ ys) i ∙ ap (run_after q) second in
        let two_is : tick q1 ≡ run_after q' (give q.store ws ys) = ap (run_after q1) last ∙ after_past q1 held ys (give q.store ws ys) refl in
        let end = two_states q q1 (run_after q' (give q.store ws ys)) silent two_is in
        record {
          further = 1;
          bound = omega arith;
          shown = two_events q q1 _ silent two_is ∙ ap (λ x. cons_option x []) (sym o.out.event) ∙ sym (one_event r _ one_is);
          run = rw (one_is, end) o.out.run;
          plain = λ _ k le. both (ap (λ xs. calls_placeholder (transition_at q xs)) i ∙ ap (λ o. calls_placeholder (Steps q o)) second) (ap (λ (o : Out). calls_placeholder (transition o.0)) silent ∙ ap (λ o. calls_placeholder (Steps q1 o)) last ∙ given_plain q1 q.store ws ys) k le;
          first = λ b. rw one_is (o.first b);
          second = λ b. rw end (o.second b);
        }
      where
        both : calls_placeholder (transition q) ≡ false → calls_placeholder (transition (tick q).0) ≡ false → (k : ℕ) → k ≤ 1 → calls_placeholder (transition (state_after tick q k)) ≡ false
        both first second zero le = first
        both first second (suc zero) le = second
        both first second (suc (suc k)) le = absurd (omega (arith, le))

    answered : {es fs : List Entry} → r.entries ≡ es → q.entries ≡ fs → TickSkips R r r.entries → Answer es fs → AnsweredInTwo R r q
    answered e f skips (one next) = from_one e f skips next
    answered e f skips (two i j v below first held second last) = from_two (e ∙ i) (f ∙ j) v below (ap (step r.store) e ∙ first) (ap (step q.store) f ∙ second) last

    pub not_seen : TickSkips R r r.entries → EntriesKnown R r.entries q.entries → AnsweredInTwo R r q
    not_seen skips known = answered refl refl skips (answer h.entries skips known)
