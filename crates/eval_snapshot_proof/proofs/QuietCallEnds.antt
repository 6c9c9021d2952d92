-- A quiet call is a call of the machine in the same store, which ends in as many steps, leaves the
-- functions unchanged and adds no turns.
use Rattle.base_lists.proofs.Common.{◌≡◌, ◌∙◌, sym, ap, refl, subst, ℕ, zero, suc, ◌≤◌, List, [], ◌∷◌, Bool, true, false, cond, not, ◌||◌, Option, Some, None, arith, slice_get, nat_eq, filter}
use Rattle.base_lists.specs.Members.{is_among}
use Rattle.wasm_tree_spec.specs.Prelude.{Module}
use Rattle.wasm_meaning.specs.Prelude.{Outcome, Gives, Traps, IllTyped, Val, Func, Code, Own, Placeholder, Level, Frame, Store, Change, Keep, SetGlobal, SetMemory, SetTable, DropElem, DropData, Entry, Running, Mark, Opening, Waiting, Ended, Growing, Act, Goes, Calls, AsksGrow, Ends, Next, Ran}
use Rattle.wasm_meaning.specs.Prelude.{CallsOwn, WaitsGrowth, CallsPlaceholder, EndsCall, pop_typed, type_at, act, changed, give, give_levels, enter, perform, step}
use Rattle.wasm_meaning.proofs.Outcomes.{AllOf, ill_typed, just, with_is, with_found, all_at}
use Rattle.run_simulation.specs.Prelude.{Unknowns, left_by, left_after, left_unknown}
use Rattle.eval_spec.specs.Prelude.{State, Going, Stopped, Finished, Test, first_held, stopped_or, Beginning, beginning, tests, after_steps, came_to, spent, spent_at}
use Rattle.eval_snapshot_proof.specs.EvaluatedWorlds.{store_at_end}

-- ---- functions stay ----

module _ (s : Store) where
  -- The store that a step leaves has the same functions as before.
  abbrev pub Stay : Next → Type 0
  Stay (Ran t fs) = t.funcs ≡ s.funcs
  Stay (CallsOwn p u vs t fs) = t.funcs ≡ s.funcs
  Stay (WaitsGrowth g size count t fs) = t.funcs ≡ s.funcs
  Stay (CallsPlaceholder slot vs t fs) = t.funcs ≡ s.funcs
  Stay (EndsCall vs t fs) = t.funcs ≡ s.funcs

  stay_changed : (c : Change) → (changed s c).funcs ≡ s.funcs
  stay_changed Keep = refl
  stay_changed (SetGlobal a g) = refl
  stay_changed (SetMemory a m) = refl
  stay_changed (SetTable a t) = refl
  stay_changed (DropElem a) = refl
  stay_changed (DropData a) = refl

  stay_levels : (vs : List Val) (f : Frame) (ls : List Level) (es : List Entry) → AllOf Stay (give_levels s vs f ls es)
  stay_levels vs f [] es = ill_typed
  stay_levels vs f (l ∷ ls) es = just refl

  stay_given : (vs : List Val) (es : List Entry) → AllOf Stay (give s vs es)
  stay_given vs [] = ill_typed
  stay_given vs (Running f ∷ es) = stay_levels vs f f.levels es
  stay_given vs (Mark ∷ es) = just refl
  stay_given vs (Opening xs ∷ es) = just refl
  stay_given vs (Waiting ts ∷ es) = ill_typed
  stay_given vs (Ended ws ∷ es) = ill_typed
  stay_given vs (Growing g ∷ es) = ill_typed

  stay_entered : (f : Func) (args : List Val) (es : List Entry) → Stay (enter s f args es)
  stay_entered (Code t j ls c) args es = refl
  stay_entered (Own p t) args es = refl
  stay_entered (Placeholder n t) args es = refl

  stay_performed : (f : Frame) (es : List Entry) (x : Act) → AllOf Stay (perform s f es x)
  stay_performed f es (Goes c h) = just (stay_changed c)
  stay_performed f es (Calls a vs h) = with_found (type_at s a) _ (λ t _. with_is (pop_typed t.params vs) _ (λ p _. with_found (slice_get s.funcs a) _ (λ g is. just (stay_entered g p.0 _))))
  stay_performed f es (AsksGrow g size count h) = just refl
  stay_performed f es (Ends vs) = with_is (pop_typed f.results vs) _ (λ p _. stay_given p.0 es)

  pub stay : (es : List Entry) → AllOf Stay (step s es)
  stay [] = ill_typed
  stay (Running f ∷ es) = with_is (act s f) _ (λ x _. stay_performed f es x)
  stay (Mark ∷ es) = ill_typed
  stay (Opening xs ∷ es) = ill_typed
  stay (Waiting ts ∷ es) = ill_typed
  stay (Ended vs ∷ es) = ill_typed
  stay (Growing g ∷ es) = ill_typed

-- ---- what is unknown after a step was so before ----

abbrev pub AreAmong : (xs ys : List ℕ) → Type 0
AreAmong xs ys = (a : ℕ) → is_among xs a ≡ true → is_among ys a ≡ true

was_unknown : (u : Unknowns) (s : Store) (es : List Entry) → AreAmong (left_unknown u s es).globals u.globals
was_unknown u s es = by es
  where
    or_right : (b c : Bool) → c ≡ true → b || c ≡ true
    or_right true c e = refl
    or_right false c e = e

    or_first : (b c d : Bool) → (c ≡ true → d ≡ true) → b || c ≡ true → b || d ≡ true
    or_first true c d f e = refl
    or_first false c d f e = f e

    kept : (b : Bool) (x a : ℕ) (xs ys : List ℕ) → is_among (cond b (x ∷ xs) xs) a ≡ true → (is_among xs a ≡ true → is_among ys a ≡ true) → is_among (x ∷ ys) a ≡ true
    kept true x a xs ys e more = or_first (nat_eq a x) (is_among xs a) (is_among ys a) more e
    kept false x a xs ys e more = or_right (nat_eq a x) (is_among ys a) (more e)

    filtered : (keeps : ℕ → Bool) (xs : List ℕ) → AreAmong (filter keeps xs) xs
    filtered keeps [] a e = e
    filtered keeps (x ∷ xs) a e = kept (keeps x) x a (filter keeps xs) xs e (filtered keeps xs a)

    changed : (c : Change) → AreAmong (left_by u c).globals u.globals
    changed Keep a e = e
    changed (SetGlobal b g) a e = filtered (λ k. not (nat_eq k b)) u.globals a e
    changed (SetMemory b m) a e = e
    changed (SetTable b t) a e = e
    changed (DropElem b) a e = e
    changed (DropData b) a e = e

    acted : (o : Outcome Act) → AreAmong (left_after u o).globals u.globals
    acted (Gives (Goes c h)) a e = changed c a e
    acted (Gives (Calls b vs h)) a e = e
    acted (Gives (AsksGrow g size count h)) a e = e
    acted (Gives (Ends vs)) a e = e
    acted Traps a e = e
    acted IllTyped a e = e

    by : (es : List Entry) → AreAmong (left_unknown u s es).globals u.globals
    by (Running f ∷ es) a e = acted (act s f) a e
    by [] a e = e
    by (Mark ∷ es) a e = e
    by (Opening starts ∷ es) a e = e
    by (Waiting ts ∷ es) a e = e
    by (Ended vs ∷ es) a e = e
    by (Growing g ∷ es) a e = e

-- ---- the end ----

-- The machine's call from this state ends within `n` steps in the store where the quiet run ends,
-- with the same functions, no more turns and no more unknown globals.
pub record Over (n : ℕ) (s : State) (es : List Entry) (t : State) : Type 0 where
  pub ends : store_at_end n (Gives (Ran s.store es)) ≡ Some t.store
  pub funcs : t.store.funcs ≡ s.store.funcs
  pub turns : t.turns ≤ s.turns
  pub was : AreAmong t.unknown.globals s.unknown.globals

no_more_turns : (s : State) (o : Option Beginning) → (spent_at s o).turns ≤ s.turns
no_more_turns s None = omega arith
no_more_turns s (Some b) = omega arith

pub never : (m : Module) (n : ℕ) (x : _) (left : ℕ) (t : State) → after_steps m n (Stopped x left) ≡ Finished t → ⊥
never m zero x left t e = let f = e in cc
never m (suc n) x left t e = let f = e in cc

at_end : (m : Module) (n : ℕ) (s t : State) → after_steps m n (Finished s) ≡ Finished t → Finished s ≡ Finished t
at_end m zero s t e = e
at_end m (suc n) s t e = e

-- The induction hypothesis: each run that finishes within `n` steps has a call of the machine that
-- ends as it does.
abbrev Again : Module → ℕ → State → Type 0
Again m n t = (r : State) (fs : List Entry) → after_steps m n (Going r fs) ≡ Finished t → Over n r fs t

pub over : (m : Module) (n : ℕ) (s : State) (es : List Entry) (t : State) → after_steps m n (Going s es) ≡ Finished t → Over n s es t
over m zero s es t e = absurd (let f = e in cc)
over m (suc n) s es t e = tested (λ r fs f. over m n r fs t f) (first_held (tests m s es)) e
  where
    stepped : Again m n t → (o : Outcome Next) → step s.store es ≡ o → after_steps m n (came_to (spent s es) o) ≡ Finished t → Over (suc n) s es t
    stepped again (Gives (Ran u fs)) f e =
        let r = again (record (spent s es) { store = u }) fs e in
        let less = no_more_turns s (beginning es) in
        let fewer = r.turns in
        record { ends = ap (store_at_end n) f ∙ r.ends; funcs = r.funcs ∙ all_at (stay s.store es) f; turns = omega (arith, less, fewer); was = λ a h. was_unknown s.unknown s.store es a (r.was a h) }
    stepped again (Gives (EndsCall vs u fs)) f e =
        let same : record (spent s es) { store = u } ≡ t = let g = at_end m n (record (spent s es) { store = u }) t e in cc in
        let less = no_more_turns s (beginning es) in
        record {
          ends = ap (store_at_end n) f ∙ ap (λ (q : State). Some q.store) same;
          funcs = ap (λ (q : State). q.store.funcs) (sym same) ∙ all_at (stay s.store es) f;
          turns = subst (λ (q : State). q.turns ≤ s.turns) same less;
          was = λ a h. was_unknown s.unknown s.store es a (subst (λ (q : State). is_among q.unknown.globals a ≡ true) (sym same) h);
        }
    stepped again (Gives (CallsOwn p u vs r fs)) f e = absurd (never m n _ _ t e)
    stepped again (Gives (WaitsGrowth g size count r fs)) f e = absurd (never m n _ _ t e)
    stepped again (Gives (CallsPlaceholder slot vs r fs)) f e = absurd (never m n _ _ t e)
    stepped again Traps f e = absurd (never m n _ _ t e)
    stepped again IllTyped f e = absurd (never m n _ _ t e)

    tested : Again m n t → (o : Option Test) → after_steps m n (stopped_or o (came_to (spent s es) (step s.store es))) ≡ Finished t → Over (suc n) s es t
    tested again None e = stepped again (step s.store es) refl e
    tested again (Some x) e = absurd (never m n x.stop x.left t e)
