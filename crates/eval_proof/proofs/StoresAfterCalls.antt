-- Calls leave the store related to itself.
use Rattle.base_lists.proofs.Common.{◌≡◌, ◌∙◌, ℕ, zero, suc, ◌-◌, ◌<◌, ◌≤◌, arith, List, [], ◌∷◌, length, Option, Some, None, slice_get, refl, sym, ap, subst, same_Some, slice_get_within, self_rel}
use Rattle.wasm_tree_spec.specs.Prelude.{Functions, ValType, Module, funcs_of, tables_of, globals_of}
use Rattle.wasm_valid.specs.Prelude.{ValidWhereItemsHold}
use Rattle.wasm_meaning.specs.Prelude.{Outcome, Gives, Traps, IllTyped, Func, Global, Store, Entry, Running, Mark, Opening, Waiting, Ended, Growing, Next, Ran, CallsOwn, WaitsGrowth, CallsPlaceholder, EndsCall, zeros, enter, step, StepsWriteWhatTheyTouch}
use Rattle.run_simulation.specs.Prelude.{BothRel, both, ResRel, done, ListRel, nil, cons, ValRel, end, FuncRel, defined, own, slot, TableRel, GlobalRel, ElemRel, StoreRel, EntryRel, running, mark, waiting, NextRel, ran, asked, loads, returned, TopSkips, Above, CodeIsRelatedToItself}
use Rattle.run_simulation.specs.Laws.{NamedAreKnown, StepsAgree}
use Rattle.run_simulation.proofs.AboveSteps.{entries_of, whole}
use Rattle.run_simulation.proofs.StepsAgree.{none_called}
use Rattle.eval_spec.specs.Prelude.{State, Stage, Going, Stopped, Finished, Test, first_held, stopped_or, frame_turns, host_tests, tests, after_steps, call_end, came_to, host_call, host_opened_if_there, quiet_step, spent, weight, after_start, instantiated, called_in_order}
use Rattle.eval_proof.specs.GlobalValues.{CallsKeepRefs, EvaluatedRefsAreThere, GlobalsAreTyped, HasPartsOf, IsThere, RefsAreThere}
use Rattle.eval_proof.proofs.SelfRelation.{IsStored, R, apart, count_in, global_there, itself, stored_related, to_itself, value_itself, zero_itself}
use Rattle.eval_proof.proofs.InstantiatedStores.{Stored, instantiated_stored}
use Rattle.eval_proof.proofs.GlobalTypes.{Good, HeldTyped, call_typed, calls_keep_types, globals_typed, started_typed}

module _ (m : Module) (agree : StepsAgree) (known : NamedAreKnown) where
  abbrev pub Held : Stage → Type 0
  Held (Going s es) = StoreRel (R m) s.store s.store × ListRel (EntryRel (R m)) es es
  Held (Finished s) = StoreRel (R m) s.store s.store
  Held (Stopped x left) = Unit {0}

  -- ---- a step ----

  skips_none : (s : Store) (es : List Entry) → TopSkips (R m) s es
  skips_none s (Running f ∷ es) = λ x _. none_called (R m) (λ a p. absurd (let k = p in cc)) x
  skips_none s (Mark ∷ es) = tt
  skips_none s (Opening xs ∷ es) = tt
  skips_none s (Waiting ts ∷ es) = tt
  skips_none s (Ended vs ∷ es) = tt
  skips_none s (Growing g ∷ es) = tt
  skips_none s [] = tt

  abbrev Leads : Outcome Next → Outcome Next → Type 0
  Leads = ResRel (NextRel (R m) (Above (R m) [] []))

  next_held : (s : State) (o : Outcome Next) → Leads o o → Held (came_to s o)
  next_held s Traps r = tt
  next_held s IllTyped r = tt
  next_held s (Gives (Ran t es)) (done (ran h a)) = (h, entries_of (R m) a)
  next_held s (Gives (EndsCall vs t es)) (done (returned v h a)) = h
  next_held s (Gives (CallsOwn p t vs x es)) r = tt
  next_held s (Gives (WaitsGrowth g n c x es)) r = tt
  next_held s (Gives (CallsPlaceholder n vs x es)) r = tt

  tried_held : (o : Option Test) (t : Stage) → Held t → Held (stopped_or o t)
  tried_held None t h = h
  tried_held (Some x) t h = tt

  step_held : (s : State) (es : List Entry) → StoreRel (R m) s.store s.store → ListRel (EntryRel (R m)) es es → Held (quiet_step m s es)
  step_held s es h e =
      tried_held (first_held (tests m s es)) (came_to (spent s es) (step s.store es))
      (next_held (spent s es) (step s.store es)
      (whole (λ xs ys. Leads (step s.store xs) (step s.store ys)) es es (agree (itself m) (itself m) [] (apart m) s.store s.store es es [] [] h e (grind arith) (skips_none s.store es) (known (itself m) (itself m) [] (λ k a b q. q) es es))))

  after_held : (n : ℕ) (t : Stage) → Held t → Held (after_steps m n t)
  after_held zero t h = h
  after_held (suc n) (Going s es) h = after_held n (quiet_step m s es) (step_held s es h.0 h.1)
  after_held (suc n) (Stopped x left) h = tt
  after_held (suc n) (Finished s) h = h

  -- ---- a call ----

  zeros_itself : (ts : List ValType) → ListRel (ValRel (R m)) (zeros ts) (zeros ts)
  zeros_itself [] = nil
  zeros_itself (t ∷ ts) = cons (zero_itself m t) (zeros_itself ts)

  entered : (s : Store) (f g : Func) → StoreRel (R m) s s → FuncRel (R m) f g → Leads (Gives (enter s f [] (Mark ∷ []))) (Gives (enter s g [] (Mark ∷ [])))
  entered s _ _ h (defined {ls = ls} c) =
      done (ran h (record {
        first = _;
        second = _;
        related = cons (running (record { locals = zeros_itself ls; results = refl; levels = cons (record { values = nil; code = c; gives = refl; takes = refl; back = end }) nil })) (cons mark nil);
        left = refl;
        right = refl;
      }))
  entered s _ _ h own = done (asked nil h (record { first = _; second = _; related = cons waiting (cons mark nil); left = refl; right = refl }))
  entered s _ _ h slot = done (loads nil h (record { first = _; second = _; related = cons mark nil; left = refl; right = refl }))

  opened_held : (s : State) (func : ℕ) → StoreRel (R m) s.store s.store → (o p : Option Func) → BothRel (FuncRel (R m)) o p → o ≡ p → Held (host_opened_if_there s o)
  opened_held s func h None p x e = elim x [ ]
  opened_held s func h (Some f) None x e = elim x [ ]
  opened_held s func h (Some f) (Some g) (both r) e =
      let same : f ≡ g = same_Some f g e in
      tried_held (first_held (host_tests s f)) (came_to (record s { turns = s.turns - frame_turns f }) (Gives (enter s.store f [] (Mark ∷ []))))
      (next_held (record s { turns = s.turns - frame_turns f }) (Gives (enter s.store f [] (Mark ∷ []))) (subst (λ x. Leads (Gives (enter s.store f [] (Mark ∷ []))) (Gives (enter s.store x [] (Mark ∷ [])))) (sym same) (entered s.store f g h r)))

  pub call_held : (s : State) (func : ℕ) → StoreRel (R m) s.store s.store → func < count_in m Functions → Held (call_end m s func)
  call_held s func h lt =
      after_held (suc (weight (host_call s func))) (host_call s func)
      (opened_held s func h (slice_get s.store.funcs func) (slice_get s.store.funcs func) (h.funcs {a = func} {b = func} (to_itself m Functions func lt) (λ p. absurd (let k = p in cc))) refl)

  -- A call of any index leaves the store related to itself, if the store has no more functions than
  -- the module; an index without a function stops the call.
  any_held : (s : State) (func : ℕ) → StoreRel (R m) s.store s.store → length s.store.funcs ≤ length (funcs_of m) → Held (call_end m s func)
  any_held s func h few = by (slice_get s.store.funcs func) refl
    where
      by : (o : Option Func) → slice_get s.store.funcs func ≡ o → Held (call_end m s func)
      by None e = rw e tt
      by (Some f) e = call_held s func h (omega (arith, few, slice_get_within s.store.funcs func f e))

  -- ---- an evaluation ----

  module _ (writes : StepsWriteWhatTheyTouch) (fs : List Func) (few : length fs ≤ length (funcs_of m)) where
    few_in : (s : State) → Good m fs s.store → length s.store.funcs ≤ length (funcs_of m)
    few_in s g = subst (λ xs. length xs ≤ length (funcs_of m)) (sym g.1) few

    called_held : (funcs : List ℕ) (t : Stage) → Held t → HeldTyped m writes fs t → Held (called_in_order m t funcs)
    called_held [] (Finished s) h g = h
    called_held [] (Stopped x left) h g = tt
    called_held [] (Going s es) h g = h
    called_held (func ∷ funcs) (Finished s) h g = called_held funcs (call_end m s func) (any_held s func h (few_in s g)) (call_typed m writes fs s func g)
    called_held (func ∷ funcs) (Stopped x left) h g = tt
    called_held (func ∷ funcs) (Going s es) h g = h

    started_held : (s : State) (start : Option ℕ) → StoreRel (R m) s.store s.store → Good m fs s.store → Held (after_start m (Finished s) start)
    started_held s (Some func) h g = any_held s func h (few_in s g)
    started_held s None h g = h

-- A store that is related to itself, and whose globals have their types, has globals that refer
-- only to functions of the module.
refs_there : (m : Module) (s : Store) → StoreRel (R m) s s → GlobalsAreTyped m s → RefsAreThere m s
refs_there m s h typed = λ n g at. global_there m s h n g (slice_get_within (globals_of m) n g.ty (typed n g at).1) at

pub references_there : StepsAgree → NamedAreKnown → CodeIsRelatedToItself → StepsWriteWhatTheyTouch → ValidWhereItemsHold → EvaluatedRefsAreThere
references_there agree known coded writes items m v turns funcs s e = refs_there m s.store (held (instantiated m turns) (instantiated_stored m coded ((items m).0 v) turns) refl) (globals_typed coded writes items m v turns funcs s e)
  where
    from : (t : Stage) → Held m agree known (called_in_order m (after_start m t m.start) funcs) → instantiated m turns ≡ t → StoreRel (R m) s.store s.store
    from t h is = subst (Held m agree known) (ap (λ x. called_in_order m (after_start m x m.start) funcs) (sym is) ∙ e) h

    held : (t : Stage) → Stored m t → instantiated m turns ≡ t → StoreRel (R m) s.store s.store
    held (Finished u) i is =
        let related = stored_related m u.store i.0 in
        from (Finished u)
        (called_held m agree known writes u.store.funcs i.0.few_funcs funcs (after_start m (Finished u) m.start) (started_held m agree known writes u.store.funcs i.0.few_funcs u m.start related (i.1, refl)) (started_typed m writes u.store.funcs u m.start (i.1, refl))) is
    held (Stopped x left) i is = from (Stopped x left) (called_held m agree known writes [] (omega arith) funcs (Stopped x left) tt tt) is
    held (Going u es) i is = elim i [ ]

-- ---- a call from a state that has the parts of the one after the instantiation ----

module _ (m : Module) where
  globals_itself : (gs : List Global) → ((n : ℕ) (g : Global) → slice_get gs n ≡ Some g → IsThere m g.value) → ListRel (GlobalRel (R m)) gs gs
  globals_itself [] h = nil
  globals_itself (g ∷ gs) h = cons (record { type = refl; value = value_itself m g.value (h 0 g refl) }) (globals_itself gs (λ n x e. h (suc n) x e))

  like_stored : (base s : Store) → IsStored m base → HasPartsOf m base s → RefsAreThere m s → IsStored m s
  like_stored base s b p r = record {
    funcs = subst (λ xs. ListRel (FuncRel (R m)) xs xs) (sym p.funcs) b.funcs;
    tables = subst (λ xs. ListRel (TableRel (R m)) xs xs) (sym p.tables) b.tables;
    globals = globals_itself s.globals r;
    elems = subst (λ xs. ListRel (ElemRel (R m)) xs xs) (sym p.elems) b.elems;
    mems = self_rel _ (λ x. refl);
    datas = self_rel _ (λ x. refl);
    many_funcs = subst (λ xs. length (funcs_of m) ≤ length xs) (sym p.funcs) b.many_funcs;
    many_tables = subst (λ xs. length (tables_of m) ≤ length xs) (sym p.tables) b.many_tables;
    many_mems = p.mems;
    many_globals = p.globals;
    many_elems = subst (λ xs. length m.elems ≤ length xs) (sym p.elems) b.many_elems;
    many_datas = p.datas;
    few_funcs = subst (λ xs. length xs ≤ length (funcs_of m)) (sym p.funcs) b.few_funcs;
  }

pub calls_keep_refs : StepsAgree → NamedAreKnown → CodeIsRelatedToItself → StepsWriteWhatTheyTouch → ValidWhereItemsHold → CallsKeepRefs
calls_keep_refs agree known coded writes items m v turns base s t func is parts typed refs e =
    let b : IsStored m base.store × GlobalsAreTyped m base.store = subst (Stored m) is (instantiated_stored m coded ((items m).0 v) turns) in
    let i = like_stored m base.store s.store b.0 parts refs in
    let related : StoreRel (R m) t.store t.store = subst (Held m agree known) e (any_held m agree known s func (stored_related m s.store i) i.few_funcs) in
    refs_there m t.store related (calls_keep_types writes m s t func typed e)
