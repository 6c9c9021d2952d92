-- A step leaves alone what it does not touch.
use Rattle.base_lists.proofs.Common.{◌≡◌, ℕ, List, [], ◌∷◌, ◌++◌, true, refl, sym, ◌∙◌, ap, subst, append-nil, slice_get, there, same_there}
use Rattle.std.proofs.lemmas.Bool.{true≢false}
use Rattle.wasm_meaning.specs.Prelude.{Outcome, Gives, bind, Val, Store, Frame, Entry, Running, Mark, Opening, Waiting, Ended, Growing, Caller, Host, Starter, Act, Ends, Next, pop_typed, enter_at, give, act, perform, step, to_mark}
use Rattle.run_simulation.specs.Prelude.{Pairing, OneToOneWhereWritten, BothRel, ResRel, done, trap, wrong, ListRel, nil, cons, ValRel, FuncRel, StoreRel, FrameRel, EntryRel}
use Rattle.run_simulation.specs.Prelude.{running, mark, opening, waiting, ended, growing, goes, calls, asks_grow, ends, NextRel, ran, asked, asked_grow, loads, returned}
use Rattle.run_simulation.specs.Prelude.{NotOpaque, TopSkips, Above, Touches, EntriesKnown, Unknowns, none_unknown, StoreRelOff, StepReadsKnown, left_after, left_unknown, ActOff, NextOff}
use Rattle.run_simulation.specs.Related.{NextRelBy}
use Rattle.run_simulation.specs.Laws.{NeedsBelow, ends_trap, NoMark}
use Rattle.run_simulation.proofs.RelatedOutcomes.{bind_rel, bind_found, bind_is, res_map}
use Rattle.run_simulation.proofs.ValueSteps.{pop_typed_rel}
use Rattle.run_simulation.proofs.UnknownPlaces.{to_off, to_related, changed_off, none_is_left, all_is_known}
use Rattle.run_simulation.proofs.StepsAgree.{frame_rel, left_rel, enter_rel, give_levels_rel, act_off}

-- What holds of two stacks extended by an empty stack holds of the stacks themselves.
pub whole : (P : List Entry → List Entry → Type 0) (es fs : List Entry) → P (es ++ []) (fs ++ []) → P es fs
whole P es fs p = subst (λ xs. P xs fs) (append-nil es) (subst (P (es ++ [])) (append-nil fs) p)

pub entries_of : (R : Pairing) {s t : Store} {es fs : List Entry} → Above R [] [] s t es fs → ListRel (EntryRel R) es fs
entries_of R {es = es} a =
    subst (ListRel (EntryRel R) es) (sym (a.right ∙ append-nil a.second)) (subst (λ xs. ListRel (EntryRel R) xs a.second) (sym (a.left ∙ append-nil a.first)) a.related)

-- A trap unwinds the entries that are no marks, down to the first mark below them.
past : (es fs : List Entry) → NoMark es → to_mark (es ++ fs) ≡ to_mark fs
past [] fs h = refl
past (Running f ∷ es) fs h = past es fs h.1
past (Mark ∷ es) fs h = absurd (true≢false h.0)
past (Opening xs ∷ es) fs h = absurd (true≢false h.0)
past (Waiting ts ∷ es) fs h = past es fs h.1
past (Ended vs ∷ es) fs h = past es fs h.1
past (Growing g ∷ es) fs h = past es fs h.1

-- Related entries that end a trap lead to the same caller.
at_mark : {R : Pairing} {e f : Entry} (es fs : List Entry) → ends_trap e ≡ true → EntryRel R e f → (c : Caller) × (to_mark (e ∷ es) ≡ Gives (c, es)) × (to_mark (f ∷ fs) ≡ Gives (c, fs))
at_mark es fs h mark = (Host, refl, refl)
at_mark es fs h (opening x) = (Starter, refl, refl)
at_mark es fs h (running f) = absurd (true≢false (sym h))
at_mark es fs h waiting = absurd (true≢false (sym h))
at_mark es fs h (ended v) = absurd (true≢false (sym h))
at_mark es fs h (growing n) = absurd (true≢false (sym h))

pub traps_agree : (R : Pairing) (above beyond es fs : List Entry) (e f : Entry) → NoMark above → NoMark beyond → ends_trap e ≡ true → EntryRel R e f →
    (c : Caller) × (to_mark (above ++ (e ∷ es)) ≡ Gives (c, es)) × (to_mark (beyond ++ (f ∷ fs)) ≡ Gives (c, fs))
traps_agree R above beyond es fs e f n o h p =
    let (c, first, second) = at_mark es fs h p in
    (c, past above (e ∷ es) n ∙ first, past beyond (f ∷ fs) o ∙ second)

module _ (R : Pairing) (apart : OneToOneWhereWritten R) (cs ds : List Entry) where
  abbrev pub Both : Store → Store → List Entry → List Entry → Type 0
  Both = Above R cs ds

  push : (s t : Store) (e f : Entry) (es fs : List Entry) → EntryRel R e f → Both s t es fs → Both s t (e ∷ es) (f ∷ fs)
  push s t e f es fs p r = record { first = e ∷ r.first; second = f ∷ r.second; related = cons p r.related; left = ap (λ l. e ∷ l) r.left; right = ap (λ l. f ∷ l) r.right }

  above : {s t : Store} {es fs : List Entry} → ListRel (EntryRel R) es fs → Both s t (es ++ cs) (fs ++ ds)
  above e = record { first = _; second = _; related = e; left = refl; right = refl }

  -- The lemmas on values that are given and functions that are entered hold for any relation of the
  -- stores.
  module _ (S : Store → Store → Type 0) where
    pub give_rel : {s t : Store} {vs ws : List Val} {e f : Entry} {es fs : List Entry} → S s t → ListRel (ValRel R) vs ws → EntryRel R e f → ListRel (EntryRel R) es fs →
        ResRel (NextRelBy R S Both) (give s vs (e ∷ (es ++ cs))) (give t ws (f ∷ (fs ++ ds)))
    give_rel s v (running f) e = give_levels_rel R apart S Both Both (λ s t es fs e. e) push s f f.levels v (above e)
    give_rel s v mark e = done (returned v s (above e))
    give_rel s v (opening x) e = done (ran s (push _ _ _ _ _ _ (opening x) (above e)))
    give_rel s v waiting e = wrong
    give_rel s v (ended w) e = wrong
    give_rel s v (growing n) e = wrong

    -- Values are given to the entry on top of the related entries, or, where there is none, to an
    -- empty stack.
    give_below : {s t : Store} {vs ws : List Val} {es fs : List Entry} (us : List Val) → S s t → ListRel (ValRel R) vs ws → ListRel (EntryRel R) es fs → NeedsBelow es cs ds (Ends us) →
        ResRel (NextRelBy R S Both) (give s vs (es ++ cs)) (give t ws (fs ++ ds))
    give_below {s} {t} {vs = vs} {ws = ws} us h v nil needs = subst (λ xs. ResRel (NextRelBy R S Both) (give s vs xs) (give t ws ds)) (sym needs.0) (subst (λ ys. ResRel (NextRelBy R S Both) (give s vs []) (give t ws ys)) (sym needs.1) wrong)
    give_below us h v (cons e r) needs = give_rel h v e r

    pub enter_at_rel : {s t : Store} (a b : ℕ) {vs ws : List Val} {es fs : List Entry} → S s t → BothRel (FuncRel R) (slice_get s.funcs a) (slice_get t.funcs b) → ListRel (ValRel R) vs ws → Both s t es fs → ResRel (NextRelBy R S Both) (enter_at s a vs es) (enter_at t b ws fs)
    enter_at_rel a b s funcs v e = bind_found (there funcs) (λ _ _ f. done (enter_rel R apart S Both Both (λ s t es fs e. e) push s f v e))

    ends_rel : {s t : Store} {f g : Frame} {vs ws : List Val} {es fs : List Entry} → S s t → FrameRel R f g → ListRel (ValRel R) vs ws → ListRel (EntryRel R) es fs → NeedsBelow es cs ds (Ends vs) →
        ResRel (NextRelBy R S Both) (perform s f (es ++ cs) (Ends vs)) (perform t g (fs ++ ds) (Ends ws))
    ends_rel {s = s1} {t = t1} {f = f} {vs = vs} {ws = ws} {es = es} {fs = fs} s p v e needs =
        subst (λ ts. ResRel (NextRelBy R S Both) (bind (pop_typed f.results vs) (λ q. give s1 q.0 (es ++ cs))) (bind (pop_typed ts ws) (λ q. give t1 q.0 (fs ++ ds)))) p.results
        (bind_rel (pop_typed_rel R f.results v) (λ _ _ q. give_below vs s q.first e needs))

  -- The lemmas on what a frame does, and on whole steps, are about stores that are related off a
  -- set of unknown places.
  module _ (off : Unknowns) where
    perform_off : {s t : Store} {f g : Frame} {x y : Act} {es fs : List Entry} → StoreRelOff R off s t → FrameRel R f g → ActOff R off f.inst g.inst x y → ListRel (EntryRel R) es fs → NotOpaque R x → NeedsBelow es cs ds x →
        ResRel (NextOff R (left_after off (Gives x)) Both) (perform s f (es ++ cs) x) (perform t g (fs ++ ds) y)
    perform_off s f (goes c r) e free needs = done (ran (changed_off R apart off s c) (push _ _ _ _ _ _ (running (frame_rel R apart f r)) (above e)))
    perform_off s f (calls n v r) e free needs =
        bind_is (same_there (s.types n)) (λ u _. bind_rel (pop_typed_rel R u.params v) (λ _ _ p. enter_at_rel (StoreRelOff R off) _ _ s (s.funcs n free) p.first (push _ _ _ _ _ _ (running (frame_rel R apart f (left_rel R apart r p.second))) (above e))))
    perform_off s f (asks_grow n r) e free needs = done (asked_grow n s (push _ _ _ _ _ _ (growing n) (push _ _ _ _ _ _ (running (frame_rel R apart f r)) (above e))))
    perform_off s f (ends v) e free needs = ends_rel (StoreRelOff R off) s f v e needs

    pub step_off : {s t : Store} {es fs : List Entry} → StoreRelOff R off s t → ListRel (EntryRel R) es fs → Touches s es cs ds → TopSkips R s es → EntriesKnown R es fs → StepReadsKnown off s es →
        ResRel (NextOff R (left_unknown off s es) Both) (step s (es ++ cs)) (step t (fs ++ ds))
    step_off {s} {t} h nil touches free known reads = subst (λ xs. ResRel (NextOff R off Both) (step s xs) (step t ds)) (sym touches.0) (subst (λ ys. ResRel (NextOff R off Both) (step s []) (step t ys)) (sym touches.1) wrong)
    step_off s (cons mark e) touches free known reads = wrong
    step_off s (cons (opening x) e) touches free known reads = wrong
    step_off s (cons waiting e) touches free known reads = wrong
    step_off s (cons (ended v) e) touches free known reads = wrong
    step_off s (cons (growing n) e) touches free known reads = wrong
    step_off {s} {t} p (cons {xs = es} {ys = fs} (running {f = f} {g = g} q) e) touches free known reads = go (act s f) (act t g) refl (act_off R apart off p q free known reads)
      where
        go : (x y : Outcome Act) → x ≡ act s f → ResRel (ActOff R off f.inst g.inst) x y → ResRel (NextOff R (left_after off x) Both) (bind x (perform s f (es ++ cs))) (bind y (perform t g (fs ++ ds)))
        go _ _ i trap = trap
        go _ _ i wrong = wrong
        go _ _ i (done a) = perform_off p q a e (free _ (sym i)) (touches _ (sym i))

  pub step_above : {s t : Store} {es fs : List Entry} → StoreRel R s t → ListRel (EntryRel R) es fs → Touches s es cs ds → TopSkips R s es → EntriesKnown R es fs → ResRel (NextRel R Both) (step s (es ++ cs)) (step t (fs ++ ds))
  step_above {s} {t} {es} {fs} h e touches free known =
      res_map (λ _ _ n. next_map (λ s t r. to_related R s t r) n) (subst (λ u. ResRel (NextOff R u Both) (step s (es ++ cs)) (step t (fs ++ ds))) (none_is_left s es)
      (step_off none_unknown (to_off R s t h) e touches free known (nothing_read es)))
    where
      nothing_read : (es : List Entry) → StepReadsKnown none_unknown s es
      nothing_read [] = tt
      nothing_read (Running f ∷ es) = λ r _. all_is_known r
      nothing_read (Mark ∷ es) = tt
      nothing_read (Opening xs ∷ es) = tt
      nothing_read (Waiting ts ∷ es) = tt
      nothing_read (Ended vs ∷ es) = tt
      nothing_read (Growing g ∷ es) = tt

      next_map : {S T : Store → Store → Type 0} {x y : Next} → ((s t : Store) → S s t → T s t) → NextRelBy R S Both x y → NextRelBy R T Both x y
      next_map f (ran h a) = ran (f _ _ h) a
      next_map f (asked v h a) = asked v (f _ _ h) a
      next_map f (asked_grow g h a) = asked_grow g (f _ _ h) a
      next_map f (loads v h a) = loads v (f _ _ h) a
      next_map f (returned v h a) = returned v (f _ _ h) a
