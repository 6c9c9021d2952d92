-- A quiet call corresponds to the same call over a related store, which leaves the unrelated parts
-- of that store unchanged.
use Rattle.base_lists.proofs.Common.{None, ◌≡◌, ◌∙◌, ℕ, suc, List, [], ◌∷◌, Bool, true, false, cond, not, arith, ◌||◌, refl, sym, subst, nat_eq, filter}
use Rattle.base_lists.specs.Members.{is_among}
use Rattle.wasm_tree_spec.specs.Prelude.{Space, Module}
use Rattle.wasm_meaning.specs.Prelude.{Outcome, Gives, Traps, IllTyped, Val, Store, Change, Keep, SetGlobal, SetMemory, SetTable, DropElem, DropData, Entry, Running, Mark, Opening, Waiting, Ended, Growing, Act, Goes, Calls, AsksGrow, Ends, Next, Ran, EndsCall, act, step, StepsWriteWhatTheyTouch}
use Rattle.run_simulation.specs.Prelude.{Pairing, OneToOneWhereWritten, ResRel, done, ListRel, EntryRel, ran, returned, passed, Above, Unknowns, StoreRelOff, left_by, left_after, left_unknown, NextOff, here, step_on, StepsAgreeOff}
use Rattle.run_simulation.proofs.AboveSteps.{whole, entries_of}
use Rattle.eval_spec.specs.Prelude.{State, Stage, Going, Stopped, Finished, first_held, tests, ComesTo, on, quiet_step, own_inst}
use Rattle.eval_spec.specs.Quiet as quiet
use Rattle.eval_proof.specs.KnownQuietSteps.{RelatesAllButImports, FramesOf, FuncsOf}
use Rattle.eval_proof.specs.UnrelatedPlaces.{LeavesAlone}
use Rattle.eval_proof.specs.QuietCalls.{IsLed, QuietCallsSimulate}
use Rattle.eval_proof.proofs.FrameInstances.{step_keeps}
use Rattle.eval_proof.proofs.QuietSteps.{goes_on_quietly, finishes_quietly}
use Rattle.eval_proof.proofs.KnownSteps as steps
use Rattle.wasm_meaning.proofs.Outcomes.{all_at}
use Rattle.eval_proof.proofs.RelatedWrites.{alone_at}

-- ---- what is unknown after a step was unknown before it ----

was_among : (keeps : ℕ → Bool) (xs : List ℕ) (a : ℕ) → is_among (filter keeps xs) a ≡ true → is_among xs a ≡ true
was_among keeps [] a e = e
was_among keeps (x ∷ xs) a e = by (keeps x) e (was_among keeps xs a)
  where
    or_right : (b c : Bool) → c ≡ true → b || c ≡ true
    or_right true c e = refl
    or_right false c e = e

    or_first : (b c d : Bool) → (c ≡ true → d ≡ true) → b || c ≡ true → b || d ≡ true
    or_first true c d f e = refl
    or_first false c d f e = f e

    by : (b : Bool) → is_among (cond b (x ∷ filter keeps xs) (filter keeps xs)) a ≡ true → (is_among (filter keeps xs) a ≡ true → is_among xs a ≡ true) → is_among (x ∷ xs) a ≡ true
    by true e more = or_first (nat_eq a x) (is_among (filter keeps xs) a) (is_among xs a) more e
    by false e more = or_right (nat_eq a x) (is_among xs a) (more e)

was_left_by : (u : Unknowns) (c : Change) (a : ℕ) → is_among (left_by u c).globals a ≡ true → is_among u.globals a ≡ true
was_left_by u Keep a e = e
was_left_by u (SetGlobal b g) a e = was_among (λ k. not (nat_eq k b)) u.globals a e
was_left_by u (SetMemory b m) a e = e
was_left_by u (SetTable b t) a e = e
was_left_by u (DropElem b) a e = e
was_left_by u (DropData b) a e = e

was_left_after : (u : Unknowns) (o : Outcome Act) (a : ℕ) → is_among (left_after u o).globals a ≡ true → is_among u.globals a ≡ true
was_left_after u (Gives (Goes c h)) a e = was_left_by u c a e
was_left_after u (Gives (Calls b vs h)) a e = e
was_left_after u (Gives (AsksGrow g size count h)) a e = e
was_left_after u (Gives (Ends vs)) a e = e
was_left_after u Traps a e = e
was_left_after u IllTyped a e = e

was_unknown : (u : Unknowns) (s : Store) (es : List Entry) (a : ℕ) → is_among (left_unknown u s es).globals a ≡ true → is_among u.globals a ≡ true
was_unknown u s (Running f ∷ es) a e = was_left_after u (act s f) a e
was_unknown u s [] a e = e
was_unknown u s (Mark ∷ es) a e = e
was_unknown u s (Opening starts ∷ es) a e = e
was_unknown u s (Waiting ts ∷ es) a e = e
was_unknown u s (Ended vs ∷ es) a e = e
was_unknown u s (Growing g ∷ es) a e = e

-- ---- one step ----

module _ (R : Pairing) where
  record Next_led (v : Unknowns) (s : Store) (es : List Entry) (x : Store) (fs : List Entry) : Type 0 where
    store : Store
    entries : List Entry
    steps : step x fs ≡ Gives (Ran store entries)
    related : StoreRelOff R v s store
    stack : ListRel (EntryRel R) es entries

  next_led : (v : Unknowns) (s : Store) (es : List Entry) (x : Store) (fs : List Entry) (o : Outcome Next) → ResRel (NextOff R v (Above R [] [])) o (step x fs) → o ≡ Gives (Ran s es) → Next_led v s es x fs
  next_led v s es x fs o r e = go (step x fs) refl (subst (λ p. ResRel (NextOff R v (Above R [] [])) p (step x fs)) e r)
    where
      go : (p : Outcome Next) → step x fs ≡ p → ResRel (NextOff R v (Above R [] [])) (Gives (Ran s es)) p → Next_led v s es x fs
      go _ i (done (ran h a)) = record { store = _; entries = _; steps = i; related = h; stack = entries_of R a }

  record Last_led (v : Unknowns) (s : Store) (x : Store) (fs : List Entry) : Type 0 where
    values : List Val
    after : Store
    rest : List Entry
    ends : step x fs ≡ Gives (EndsCall values after rest)
    related : StoreRelOff R v s after

  last_led : (v : Unknowns) (s : Store) (vs : List Val) (gs : List Entry) (x : Store) (fs : List Entry) (o : Outcome Next) → ResRel (NextOff R v (Above R [] [])) o (step x fs) → o ≡ Gives (EndsCall vs s gs) → Last_led v s x fs
  last_led v s vs gs x fs o r e = go (step x fs) refl (subst (λ p. ResRel (NextOff R v (Above R [] [])) p (step x fs)) e r)
    where
      go : (p : Outcome Next) → step x fs ≡ p → ResRel (NextOff R v (Above R [] [])) (Gives (EndsCall vs s gs)) p → Last_led v s x fs
      go _ i (done (returned values h a)) = record { values = _; after = _; rest = _; ends = i; related = h }

-- Two steps in a row leave unrelated places alone, if what is unknown after both was unknown
-- between them.
both_alone : (R : Pairing) (u v : Unknowns) (x y z : Store) → ((a : ℕ) → is_among v.globals a ≡ true → is_among u.globals a ≡ true) → LeavesAlone R u x y → LeavesAlone R v y z → LeavesAlone R v x z
both_alone R u v x y z was p q = record {
  funcs = q.funcs ∙ p.funcs;
  tables = q.tables ∙ p.tables;
  elems = q.elems ∙ p.elems;
  mems = λ b n. q.mems b n ∙ p.mems b n;
  globals = λ b n. q.globals b n ∙ p.globals b (λ a r. was a (n a r));
  datas = λ b n. q.datas b n ∙ p.datas b n;
}

-- ---- the whole call ----

module _ (m : Module) (of named : Space → ℕ → ℕ → Bool) (all : RelatesAllButImports m of named) (apart : OneToOneWhereWritten (passed of named [])) (agree : StepsAgreeOff) (writes : StepsWriteWhatTheyTouch) where
  abbrev R : Pairing
  R = passed of named []

  -- The rest of a call over the other store, and that what is unknown at its end was unknown
  -- before.
  record Call_led (s : State) (t : State) (x : Store) (fs : List Entry) : Type 0 where
    led : IsLed R t x fs
    was : (a : ℕ) → is_among t.unknown.globals a ≡ true → is_among s.unknown.globals a ≡ true

  abbrev Lead : State → List Entry → State → Type 0
  Lead s es t = FuncsOf (own_inst m) s.store.funcs → FramesOf (own_inst m) es → (x : Store) (fs : List Entry) → StoreRelOff R s.unknown s.store x → ListRel (EntryRel R) es fs → Call_led s t x fs

  abbrev Between : Stage → Stage → Type 0
  Between (Going s es) (Finished t) = Lead s es t
  Between (Going s es) _ = Unit {0}
  Between (Stopped x left) y = y ≡ Stopped x left
  Between (Finished s) y = y ≡ Finished s

  -- One step over both stores gives related results.
  agrees : (s : State) (es : List Entry) → first_held (tests m s es) ≡ None → FramesOf (own_inst m) es → (x : Store) (fs : List Entry) → StoreRelOff R s.unknown s.store x → ListRel (EntryRel R) es fs →
      ResRel (NextOff R (left_unknown s.unknown s.store es) (Above R [] [])) (step s.store es) (step x fs)
  agrees s es none frames x fs related stack =
      let uses = steps.top_uses m of named all s es none in
      whole (λ xs ys. ResRel (NextOff R (left_unknown s.unknown s.store es) (Above R [] [])) (step s.store xs) (step x ys)) es fs
      (agree of named [] apart s.unknown s.store x es fs [] [] related stack (grind arith) (steps.skips m of named all s.store es) (steps.entries_known m of named all s es fs frames uses) (steps.step_reads m of named all s es uses))

  last_step : (s t : State) (es : List Entry) → quiet_step m s es ≡ Finished t → Lead s es t
  last_step s t es e = λ funcs frames x fs related stack.
      let f = finishes_quietly m s es t e in
      let l = last_led R (left_unknown s.unknown s.store es) t.store f.values f.rest x fs (step s.store es) (agrees s es f.none_held frames x fs related stack) f.ends in
      record {
        led = record {
          number = 0;
          store = x;
          entries = fs;
          steps = here;
          values = l.values;
          after = l.after;
          rest = l.rest;
          ends = l.ends;
          related = subst (λ u. StoreRelOff R u t.store l.after) (sym f.unknown) l.related;
          alone = all_at (alone_at m of named all writes s t.unknown (EndsCall f.values t.store f.rest) es frames f.none_held f.ends f.unknown x fs stack) l.ends;
        };
        was = λ a h. was_unknown s.unknown s.store es a (subst (λ u. is_among u.globals a ≡ true) f.unknown h);
      }

  one_more : (s t : State) (es : List Entry) (q : Stage) → quiet_step m s es ≡ q → Between q (Finished t) → Lead s es t
  one_more s t es (Stopped y left) e b = absurd (let h = b in cc)
  one_more s t es (Finished r) e b = last_step s t es (let same : Finished r ≡ Finished t = sym b in e ∙ same)
  one_more s t es (Going r gs) e b = λ funcs frames x fs related stack.
      let g = goes_on_quietly m s es r gs e in
      let n = next_led R (left_unknown s.unknown s.store es) r.store gs x fs (step s.store es) (agrees s es g.none_held frames x fs related stack) g.steps in
      let kept = step_keeps (own_inst m) s.store funcs es r.store gs frames g.steps in
      let later = b (subst (FuncsOf (own_inst m)) (sym kept.0) funcs) kept.1 n.store n.entries (subst (λ u. StoreRelOff R u r.store n.store) (sym g.unknown) n.related) n.stack in
      let first = all_at (alone_at m of named all writes s r.unknown (Ran r.store gs) es frames g.none_held g.steps g.unknown x fs stack) n.steps in
      record {
        led = record {
          number = suc later.led.number;
          store = later.led.store;
          entries = later.led.entries;
          steps = step_on n.steps later.led.steps;
          values = later.led.values;
          after = later.led.after;
          rest = later.led.rest;
          ends = later.led.ends;
          related = later.led.related;
          alone = both_alone R r.unknown t.unknown x n.store later.led.after later.was first later.led.alone;
        };
        was = λ a h. was_unknown s.unknown s.store es a (subst (λ u. is_among u.globals a ≡ true) g.unknown (later.was a h));
      }

  between : {p q : Stage} → ComesTo m p q → Between p q
  between {p = Going s es} quiet.here = tt
  between {p = Stopped x left} quiet.here = refl
  between {p = Finished s} quiet.here = refl
  between {q = Finished t} (on {s = s} {es = es} c) = one_more s t es (quiet_step m s es) refl (between c)
  between {q = Stopped x left} (on c) = tt
  between {q = Going t fs} (on c) = tt

pub quiet_calls_lead : StepsAgreeOff → StepsWriteWhatTheyTouch → QuietCallsSimulate
quiet_calls_lead agree writes m of named all apart s t es funcs frames p x fs related stack = (between m of named all apart agree writes p funcs frames x fs related stack).led
