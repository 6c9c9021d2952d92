-- Runs whose stacks are related by a relation that is kept when an entry is pushed and when the
-- frames on top are replaced: one step of each gives the same event, leaves the runs related, and
-- leaves what has no partner as it is.
use Rattle.base_lists.proofs.Common.{◌≡◌, List, [], ◌∷◌, refl, there, same_there}
use Rattle.wasm_meaning.specs.Prelude.{Outcome, Val, Store, Change, Level, Frame, Entry, Running, Caller, Act, Ends, changed, give, give_levels, perform, step, to_mark, Phase, Run, Out, is_mark, run_after, transition, tick}
use Rattle.wasm_meaning.proofs.Outcomes.{all_at}
use Rattle.run_simulation.specs.Prelude.{Pairing, OneToOne, none, some, ResRel, done, trap, wrong, ListRel, nil, cons, ValRel, StoreRel, LevelRel, FrameRel, EntryRel, growing, ActRel, goes, calls, asks_grow, ends, ChangeRel, NextRel, ran, asked_grow, returned, NotOpaque, turned, PhaseRel, fresh}
use Rattle.run_simulation.specs.Prelude.{pending, opened, closed, KeepsOthers, IsBegun, RunRel, OutRel, TickSkips, calls_placeholder, RunsStepTogether}
use Rattle.run_simulation.proofs.RelatedOutcomes.{written, bind_rel, bind_found, bind_is, bind_rel_is}
use Rattle.base_lists.specs.Related.{PairRel}
use Rattle.run_simulation.proofs.ValueSteps.{pop_typed_all, pop_typed_rel}
use Rattle.run_simulation.proofs.StepsAgree.{Stacks, TopView, top_none, top_mark, top_opening, top_waiting, top_ended, top_growing, top_running, changed_rel, frame_rel, left_rel, frame_given, enter_rel}
use Rattle.run_simulation.proofs.WithoutPartner.{first_partnered, second_partnered, change_keeps, none_changed}
use Rattle.run_simulation.proofs.Runs.{after_rel, still_rel, still_kinds}

abbrev pub IsEnd : Act → Type 0
IsEnd (Ends vs) = Unit {0}
IsEnd _ = ⊥

-- ---- runs related by other relations of stacks ----

module _ (R : Pairing) {B C F G : Store → Store → List Entry → List Entry → Type 0} (from : (s t : Store) (es fs : List Entry) → B s t es fs → C s t es fs) (begun : (s t : Store) (es fs : List Entry) → F s t es fs → G s t es fs) where
  pub phase_by : {p o : Phase} → PhaseRel R F p o → PhaseRel R G p o
  phase_by (fresh none) = fresh none
  phase_by (fresh (some b)) = fresh (some (record { store = b.store; entries = begun _ _ _ _ b.entries; closed = begun _ _ _ _ b.closed; trapped = b.trapped; view = b.view; owned = b.owned }))
  phase_by (pending v) = pending v
  phase_by opened = opened
  phase_by closed = closed

  pub run_by : {r q : Run} → RunRel R B F r q → RunRel R C G r q
  run_by h = record { store = h.store; entries = from _ _ _ _ h.entries; phase = phase_by h.phase; shown = h.shown; view = h.view; owned = h.owned; moves = h.moves }

module _ (R : Pairing) (apart : OneToOne R) where
  -- A relation of stacks that relates what is on top, and is kept when the frames on top are
  -- replaced by others with results of the same types.
  pub record Shape (E : List Entry → List Entry → Type 0) : Type 0 where
    pub nothing : E [] []
    pub push : {e f : Entry} {es fs : List Entry} → EntryRel R e f → E es fs → E (e ∷ es) (f ∷ fs)
    pub view : {s t : Store} {es fs : List Entry} → E es fs → TopView R (written apart) (λ s t. E) s t es fs
    pub frames : {f g : Frame} {es fs : List Entry} → E (Running f ∷ es) (Running g ∷ fs) → FrameRel R f g
    pub again : {f g h k : Frame} {es fs : List Entry} → E (Running f ∷ es) (Running g ∷ fs) → h.results ≡ f.results → k.results ≡ g.results → FrameRel R h k → E (Running h ∷ es) (Running k ∷ fs)
    pub marks : {es fs : List Entry} → E es fs → ResRel (PairRel (◌≡◌ {A = Caller}) E) (to_mark es) (to_mark fs)

  -- The definitions and lemmas of this section are about a step from the stores `first` and
  -- `second`, in the phase `phase`.
  module _ (E : List Entry → List Entry → Type 0) (shape : Shape E) (phase : Phase) (first second : Store) where
    -- The stacks are related by E; and once the runs are instantiated, nothing without a partner
    -- was changed.
    pub record Held (s t : Store) (es fs : List Entry) : Type 0 where
      pub stack : E es fs
      pub first_keeps : IsBegun phase → KeepsOthers (turned R) first s
      pub second_keeps : IsBegun phase → KeepsOthers R second t

    with_stack : {s t : Store} {es fs es' fs' : List Entry} → Held s t es fs → E es' fs' → Held s t es' fs'
    with_stack b e = record { stack = e; first_keeps = b.first_keeps; second_keeps = b.second_keeps }

    changes : {s t : Store} {c d : Change} {es fs : List Entry} → ChangeRel R c d → Held s t es fs → Held (changed s c) (changed t d) es fs
    changes c b = record { stack = b.stack; first_keeps = λ p. change_keeps (turned R) (first_partnered R c) (b.first_keeps p); second_keeps = λ p. change_keeps R (second_partnered R c) (b.second_keeps p) }

    viewed : {s t s' t' : Store} {xs ys es fs : List Entry} → Held s' t' xs ys → TopView R (written apart) (λ s t. E) s t es fs → TopView R (written apart) Held s' t' es fs
    viewed b (top_none e) = top_none (with_stack b e)
    viewed b (top_mark e) = top_mark (with_stack b e)
    viewed b (top_opening x e) = top_opening x (with_stack b e)
    viewed b (top_waiting e) = top_waiting (with_stack b e)
    viewed b (top_ended v e) = top_ended v (with_stack b e)
    viewed b (top_growing n e) = top_growing n (with_stack b e)
    viewed b top_running = top_running

    pub view_of : {s t : Store} {es fs : List Entry} → Held s t es fs → TopView R (written apart) Held s t es fs
    view_of {s} {t} b = viewed b (shape.view {s = s} {t = t} b.stack)

    push : {s t : Store} {e f : Entry} {es fs : List Entry} → EntryRel R e f → Held s t es fs → Held s t (e ∷ es) (f ∷ fs)
    push p b = with_stack b (shape.push p b.stack)

    marks_of : {s t : Store} {es fs : List Entry} {o p : Outcome (Caller × List Entry)} → Held s t es fs → ResRel (PairRel (◌≡◌ {A = Caller}) E) o p → ResRel (PairRel (◌≡◌ {A = Caller}) (Held s t)) o p
    marks_of b trap = trap
    marks_of b wrong = wrong
    marks_of b (done r) = done (record { first = r.first; second = with_stack b r.second })

    marked_in : {s t : Store} {es fs : List Entry} → TopView R (written apart) Held s t es fs → is_mark es ≡ is_mark fs
    marked_in (top_none e) = refl
    marked_in (top_mark e) = refl
    marked_in (top_opening x e) = refl
    marked_in (top_waiting e) = refl
    marked_in (top_ended v e) = refl
    marked_in (top_growing n e) = refl
    marked_in top_running = refl

    given_levels : {s t : Store} {f g : Frame} {es fs : List Entry} {vs ws : List Val} {ls ms : List Level} → StoreRel R s t → FrameRel R f g → ListRel (LevelRel R f.inst g.inst) ls ms → ListRel (ValRel R) vs ws → Held s t (Running f ∷ es) (Running g ∷ fs) →
        ResRel (NextRel R Held) (give_levels s vs f ls es) (give_levels t ws g ms fs)
    given_levels h p nil v b = wrong
    given_levels h p (cons l ls) v b = done (ran h (with_stack b (shape.again b.stack refl refl (frame_given R (written apart) p l ls v))))

    gives : {s t : Store} {vs ws : List Val} {es fs : List Entry} → StoreRel R s t → ListRel (ValRel R) vs ws → Held s t es fs → TopView R (written apart) Held s t es fs → ResRel (NextRel R Held) (give s vs es) (give t ws fs)
    gives h v b (top_none e) = wrong
    gives h v b (top_mark e) = done (returned v h e)
    gives h v b (top_opening x e) = done (ran h b)
    gives h v b (top_waiting e) = wrong
    gives h v b (top_ended w e) = wrong
    gives h v b (top_growing n e) = wrong
    gives h v b top_running = let p = shape.frames b.stack in given_levels h p p.levels v b

    pub stacks : Stacks R (written apart) Held Held
    stacks = record {
      steady = λ b. b;
      cleared = λ b. with_stack b shape.nothing;
      changes = λ c b. changes c b;
      changes_all = λ c b. changes c b;
      push = λ p b. push p b;
      marks = λ b. marks_of b (shape.marks b.stack);
      marked = λ b. marked_in (view_of b);
      gives = λ h v b. gives h v b (view_of b);
      enters = λ h n free _ _ v b. bind_found (there (h.funcs n free)) (λ _ _ f. done (enter_rel R (written apart) (StoreRel R) Held Held (λ s t es fs b. b) (λ s t e f es fs p b. push p b) h f v b));
    }

    -- Related acts of the frames on top have related results; if they end the frames, what is on
    -- the stack below has to be related.
    pub perform_rel : {s t : Store} {f g : Frame} {x y : Act} {es fs : List Entry} → StoreRel R s t → ActRel R f.inst g.inst x y → Held s t (Running f ∷ es) (Running g ∷ fs) → NotOpaque R x → (IsEnd x → E es fs) → ResRel (NextRel R Held) (perform s f es x) (perform t g fs y)
    perform_rel h (goes c r) b free below = done (ran (changed_rel R (written apart) h c) (changes c (with_stack b (shape.again b.stack refl refl (frame_rel R (written apart) (shape.frames b.stack) r)))))
    perform_rel h (calls {vs = vs} n v r) b free below =
        bind_is (same_there (h.types n)) (λ u is. bind_rel_is (pop_typed_rel R u.params v) (λ p q pops z. stacks.enters h n free is (all_at (pop_typed_all u.params vs) pops) z.first
        (with_stack b (shape.again b.stack refl refl (frame_rel R (written apart) (shape.frames b.stack) (left_rel R (written apart) r z.second))))))
    perform_rel h (asks_grow n r) b free below = done (asked_grow n h (push (growing n) (with_stack b (shape.again b.stack refl refl (frame_rel R (written apart) (shape.frames b.stack) r)))))
    perform_rel {f = f} h (ends v) b free below =
        rw (← (shape.frames b.stack).results) (bind_rel (pop_typed_rel R f.results v) (λ _ _ q. stacks.gives h q.first (with_stack b (below tt))))

    -- The stacks are related by E, and the runs are not instantiated yet.
    abbrev pub NoneBegun : Store → Store → List Entry → List Entry → Type 0
    NoneBegun s t es fs = (IsBegun phase → ⊥) × E es fs

    from_none : {s t : Store} {es fs : List Entry} → NoneBegun s t es fs → Held s t es fs
    from_none b = record { stack = b.1; first_keeps = λ p. absurd (b.0 p); second_keeps = λ p. absurd (b.0 p) }

    pub after_next : (r q : Run) → RunRel R Held NoneBegun r q → TickSkips R r r.entries → ResRel (NextRel R Held) (step r.store r.entries) (step q.store q.entries) → OutRel R Held NoneBegun (tick r) (tick q)
    after_next r q h skips next = still_rel R apart Held Held stacks NoneBegun (λ s t es fs b. from_none b) h (λ b. b) (λ b. b) (view_of h.entries) next refl skips

    pub kinds_next : (r q : Run) → RunRel R Held NoneBegun r q → TickSkips R r r.entries → ResRel (NextRel R Held) (step r.store r.entries) (step q.store q.entries) → calls_placeholder (transition r) ≡ calls_placeholder (transition q)
    kinds_next r q h skips next = still_kinds R apart Held Held stacks NoneBegun (λ s t es fs b. from_none b) h (λ b. b) (λ b. b) (view_of h.entries) next refl skips

  -- The lemmas of this section are about two runs before a step, when nothing is changed yet.
  module _ (E : List Entry → List Entry → Type 0) (shape : Shape E) (r q : Run) (h : RunRel R (λ s t. E) (λ s t. E) r q) where
    pub unchanged : {es fs : List Entry} → E es fs → Held E shape r.phase r.store q.store r.store q.store es fs
    unchanged e = record { stack = e; first_keeps = λ p. none_changed (turned R) r.store; second_keeps = λ p. none_changed R q.store }

    none_begun : {p o : Phase} → PhaseRel R (λ s t. E) p o → PhaseRel R (NoneBegun E shape p r.store q.store) p o
    none_begun (fresh b) = phase_by R {B = λ s t. E} {C = λ s t. E} (λ s t es fs e. e) (λ s t es fs e. (λ none. none, e)) (fresh b)
    none_begun (pending v) = pending v
    none_begun opened = opened
    none_begun closed = closed

    held_before : RunRel R (Held E shape r.phase r.store q.store) (NoneBegun E shape r.phase r.store q.store) r q
    held_before = record { store = h.store; entries = unchanged h.entries; phase = none_begun h.phase; shown = h.shown; view = h.view; owned = h.owned; moves = h.moves }

    as_before : {o p : Out} → OutRel R (Held E shape r.phase r.store q.store) (NoneBegun E shape r.phase r.store q.store) o p → RunsStepTogether R (λ s t. E) r q o p
    as_before o = record { out = record { event = o.event; run = run_by R (λ s t es fs b. b.stack) (λ s t es fs b. b.1) o.run }; first = o.run.entries.first_keeps; second = o.run.entries.second_keeps }

    pub together : TickSkips R r r.entries → ResRel (NextRel R (Held E shape r.phase r.store q.store)) (step r.store r.entries) (step q.store q.entries) → RunsStepTogether R (λ s t. E) r q (tick r) (tick q)
    together skips next = as_before (after_next E shape r.phase r.store q.store r q held_before skips next)

    -- Of the next transitions, both call a placeholder or neither does.
    pub same_kinds : TickSkips R r r.entries → ResRel (NextRel R (Held E shape r.phase r.store q.store)) (step r.store r.entries) (step q.store q.entries) → calls_placeholder (transition r) ≡ calls_placeholder (transition q)
    same_kinds skips next = kinds_next E shape r.phase r.store q.store r q held_before skips next

    -- Two runs that give related values to the entries on top step together.
    pub given_together : {us ws : List Val} → ListRel (ValRel R) us ws → RunsStepTogether R (λ s t. E) r q (run_after r (give r.store us r.entries)) (run_after q (give q.store ws q.entries))
    given_together v =
        let o = after_rel R apart (Held E shape r.phase r.store q.store) (Held E shape r.phase r.store q.store) (stacks E shape r.phase r.store q.store) (NoneBegun E shape r.phase r.store q.store) (λ s t es fs b. from_none E shape r.phase r.store q.store b) held_before
        ((stacks E shape r.phase r.store q.store).gives h.store v (unchanged h.entries)) in
        as_before o
