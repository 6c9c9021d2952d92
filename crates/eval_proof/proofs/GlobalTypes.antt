-- The values of globals have their types, whatever is called.
use Rattle.base_lists.proofs.Common.{◌≡◌, ◌∙◌, ℕ, zero, suc, ◌-◌, List, [], ◌∷◌, Bool, true, false, cond, Option, Some, None, slice_get, slice_set, refl, sym, ap, subst, inl, inr, cases_eq, same_Some, slice_get_within, set_at, set_other}
use Rattle.wasm_tree_spec.specs.Prelude.{same_type, ValType, Instr, out-Instr, Module, globals_of}
use Rattle.wasm_tree.specs.declared.instr.Instr.TheOpen.{Instr-F}
use Rattle.wasm_num.specs.Operations.{W32}
use Rattle.wasm_valid.specs.Prelude.{ValidWhereItemsHold}
use Rattle.wasm_meaning.specs.Prelude.{Outcome, Gives, Traps, IllTyped, store_from, Val, Func, Code, Own, Placeholder, Global, Store, Level, Frame, Entry, Running, Mark, Opening, Waiting, Ended, Growing, Env, Body, Change, Keep, SetGlobal, SetMemory, SetTable, DropElem, DropData, Act, Goes, Calls}
use Rattle.wasm_meaning.specs.Prelude.{AsksGrow, Ends, Next, Ran, CallsOwn, WaitsGrowth, CallsPlaceholder, EndsCall, global_set, pop, pop_num, pop_ref, pop_typed, type_of, typed, pop_three, type_at, act, changed, enter, exec, give, give_levels, perform, step, step_code, step_levels, Touched, Bytes}
use Rattle.wasm_meaning.specs.Prelude.{Slots, OneGlobal, StepsWriteWhatTheyTouch, Writes, a_global, touched_by, touched_levels, touched_next}
use Rattle.wasm_meaning.specs.Touched.{range_touches}
use Rattle.wasm_meaning.proofs.Outcomes.{AllOf, ill_typed, just, all_at, cond_all, with_found, with_is}
use Rattle.eval_spec.specs.Prelude.{State, Stage, Going, Stopped, Finished, Test, first_held, stopped_or, frame_turns, host_tests, tests, after_steps, call_end, came_to, host_call, host_opened_if_there, quiet_step, spent, weight, called_in_order, after_start, instantiated}
use Rattle.run_simulation.specs.Prelude.{CodeIsRelatedToItself}
use Rattle.eval_proof.proofs.InstantiatedStores.{Stored, instantiated_stored}
use Rattle.eval_proof.specs.GlobalValues.{CallsKeepTypes, EvaluatedGlobalsAreTyped, GlobalsAreTyped}

-- ---- acts that set a global ----

abbrev SetsTyped : Act → Type 0
SetsTyped (Goes (SetGlobal a g) h) = same_type g.ty.ty (type_of g.value) ≡ true
SetsTyped _ = Unit {0}

abbrev NoGlobal : Touched → Type 0
NoGlobal (OneGlobal a) = ⊥
NoGlobal _ = Unit {0}

typed_gives : (t : ValType) (v w : Val) → typed t v ≡ Gives w → same_type t (type_of w) ≡ true
typed_gives t v w e = by (same_type t (type_of v)) refl e
  where
    by : (b : Bool) → same_type t (type_of v) ≡ b → cond b (Gives v) IllTyped ≡ Gives w → same_type t (type_of w) ≡ true
    by true f k = let is : v ≡ w = cc in subst (λ x. same_type t (type_of x) ≡ true) is f
    by false f k = absurd (let z = k in cc)

module _ (env : Env) (h : Body) (a : ℕ) where
  sets : (n : ℕ) → AllOf SetsTyped (global_set env h n)
  sets n =
      with_found (slice_get env.inst.globals n) _ (λ b _. with_found (slice_get env.store.globals b) _ (λ g _. with_is (pop h.values) _ (λ p _. cond_all g.ty.mutable (with_is (typed g.ty.ty p.0) _ (λ w e. just (typed_gives g.ty.ty p.0 w e))) ill_typed)))

  range : (f : ℕ → ℕ → Touched) → ((p c : ℕ) → NoGlobal (f p c)) → AllOf NoGlobal (range_touches f h.values)
  range f k = with_is (pop_three h.values) _ (λ p _. just (k p.0.0 p.0.2))

  set_typed : (z : Instr-F Instr) (x : Act) → exec z env h ≡ Gives x → touched_by z env h.values ≡ Gives (OneGlobal a) → SetsTyped x
  set_typed (Instr-F.GlobalSet n) x e t = all_at (sets n) e
  set_typed (Instr-F.Store o arg) x e t = absurd (all_at {P = NoGlobal} (with_found (slice_get env.inst.mems arg.memory) _ (λ b _. with_is (pop_num (store_from o) h.values) _ (λ v _. with_is (pop_num W32 v.1) _ (λ p _. just tt)))) t)
  set_typed (Instr-F.MemoryInit s n) x e t = absurd (all_at {P = NoGlobal} (with_found (slice_get env.inst.mems n) _ (λ b _. range (Bytes b) (λ p c. tt))) t)
  set_typed (Instr-F.MemoryCopy n k) x e t = absurd (all_at {P = NoGlobal} (with_found (slice_get env.inst.mems n) _ (λ b _. range (Bytes b) (λ p c. tt))) t)
  set_typed (Instr-F.MemoryFill n) x e t = absurd (all_at {P = NoGlobal} (with_found (slice_get env.inst.mems n) _ (λ b _. range (Bytes b) (λ p c. tt))) t)
  set_typed (Instr-F.TableInit s n) x e t = absurd (all_at {P = NoGlobal} (with_found (slice_get env.inst.tables n) _ (λ b _. range (Slots b) (λ p c. tt))) t)
  set_typed (Instr-F.TableCopy n k) x e t = absurd (all_at {P = NoGlobal} (with_found (slice_get env.inst.tables n) _ (λ b _. range (Slots b) (λ p c. tt))) t)
  set_typed (Instr-F.TableSet n) x e t = absurd (all_at {P = NoGlobal} (with_found (slice_get env.inst.tables n) _ (λ b _. with_is (pop_ref h.values) _ (λ r _. with_is (pop_num W32 r.1) _ (λ i _. just tt)))) t)
  set_typed (Instr-F.TableFill n) x e t = absurd (all_at {P = NoGlobal} (with_found (slice_get env.inst.tables n) _ (λ b _. with_is (pop_num W32 h.values) _ (λ k _. with_is (pop_ref k.1) _ (λ r _. with_is (pop_num W32 r.1) _ (λ d _. just tt))))) t)
  set_typed (Instr-F.ElemDrop n) x e t = absurd (all_at {P = NoGlobal} (with_found (slice_get env.inst.elems n) _ (λ b _. just tt)) t)
  set_typed (Instr-F.DataDrop n) x e t = absurd (all_at {P = NoGlobal} (with_found (slice_get env.inst.datas n) _ (λ b _. just tt)) t)
  set_typed _ x e t = absurd (let k = t in cc)

-- ---- a step ----

-- The globals of the store have their types, and its functions are `fs`.
abbrev pub Good : Module → List Func → Store → Type 0
Good m fs s = GlobalsAreTyped m s × (s.funcs ≡ fs)

module _ (m : Module) (writes : StepsWriteWhatTheyTouch) (fs : List Func) (s : Store) (ok : Good m fs s) where
  abbrev NextTyped : Next → Type 0
  NextTyped (Ran t es) = Good m fs t
  NextTyped (EndsCall vs t es) = Good m fs t
  NextTyped _ = Unit {0}

  code_sets : (env : Env) (h : Body) (a : ℕ) (x : Act) (code : List Instr) → step_code env h code ≡ Gives x → touched_next env h.values code ≡ Gives (OneGlobal a) → SetsTyped x
  code_sets env h a x [] e t = absurd (let k = t in cc)
  code_sets env h a x (i ∷ is) e t = set_typed env (record h { rest = is }) a (out-Instr i) x e t

  levels_set : (env : Env) (locals : List Val) (a : ℕ) (x : Act) (ls : List Level) → step_levels env locals ls ≡ Gives x → touched_levels env ls ≡ Gives (OneGlobal a) → SetsTyped x
  levels_set env locals a x [] e t = absurd (let k = t in cc)
  levels_set env locals a x (l ∷ ls) e t = code_sets env (record { locals = locals; values = l.values; rest = []; gives = l.gives; takes = l.takes; back = l.back; outer = ls }) a x l.code e t

  -- A touched place that is the one global at this address, which is there with the same type
  -- before.
  record SetsOne (a : ℕ) (g : Global) (told : Touched) : Type 0 where
    is : told ≡ OneGlobal a
    old : Global
    there : slice_get s.globals a ≡ Some old
    same : g.ty ≡ old.ty

  sets_one : (a : ℕ) (g : Global) (told : Touched) → Writes s told (SetGlobal a g) → SetsOne a g told
  sets_one a g _ (a_global {g = old} e mutable ty) = record { is = refl; old = old; there = e; same = ty }

  set_one : (a : ℕ) (g old : Global) → slice_get s.globals a ≡ Some old → g.ty ≡ old.ty → same_type g.ty.ty (type_of g.value) ≡ true → GlobalsAreTyped m (changed s (SetGlobal a g))
  set_one a g old there same good = λ n x e. elim (cases_eq n a) [
    | inl here ↦
        let is : g ≡ x = same_Some g x (sym (set_at s.globals a g (slice_get_within s.globals a old there)) ∙ (ap (slice_get (slice_set s.globals a g)) (sym here) ∙ e)) in
        subst (λ y. (same_type y.ty.ty (type_of y.value) ≡ true) × (slice_get (globals_of m) n ≡ Some y.ty)) is (good, ap (slice_get (globals_of m)) here ∙ ((ok.0 a old there).1 ∙ ap Some (sym same)))
    | inr other ↦ ok.0 n x (sym (set_other s.globals a n g other) ∙ e)
  ]

  changed_typed : (f : Frame) (c : Change) (h : Body) → act s f ≡ Gives (Goes c h) → Good m fs (changed s c)
  changed_typed f Keep h e = ok
  changed_typed f (SetMemory a x) h e = ok
  changed_typed f (SetTable a x) h e = ok
  changed_typed f (DropElem a) h e = ok
  changed_typed f (DropData a) h e = ok
  changed_typed f (SetGlobal a g) h e =
      let w = writes s f (Goes (SetGlobal a g) h) e in
      let o = sets_one a g w.told w.writes in
      (set_one a g o.old o.there o.same (levels_set (record { store = s; inst = f.inst }) f.locals a (Goes (SetGlobal a g) h) f.levels e (w.is ∙ ap Gives o.is)), ok.1)

  levels_typed : (vs : List Val) (f : Frame) (ls : List Level) (es : List Entry) → AllOf NextTyped (give_levels s vs f ls es)
  levels_typed vs f [] es = ill_typed
  levels_typed vs f (l ∷ ls) es = just ok

  give_typed : (vs : List Val) (es : List Entry) → AllOf NextTyped (give s vs es)
  give_typed vs [] = ill_typed
  give_typed vs (Running f ∷ es) = levels_typed vs f f.levels es
  give_typed vs (Mark ∷ es) = just ok
  give_typed vs (Opening xs ∷ es) = just ok
  give_typed vs (Waiting ts ∷ es) = ill_typed
  give_typed vs (Ended ws ∷ es) = ill_typed
  give_typed vs (Growing g ∷ es) = ill_typed

  enter_typed : (f : Func) (args : List Val) (es : List Entry) → NextTyped (enter s f args es)
  enter_typed (Code t j ls c) args es = ok
  enter_typed (Own p t) args es = tt
  enter_typed (Placeholder n t) args es = tt

  perform_typed : (f : Frame) (es : List Entry) (x : Act) → act s f ≡ Gives x → AllOf NextTyped (perform s f es x)
  perform_typed f es (Goes c h) e = just (changed_typed f c h e)
  perform_typed f es (Calls a vs h) e = with_found (type_at s a) _ (λ t _. with_is (pop_typed t.params vs) _ (λ p _. with_found (slice_get s.funcs a) _ (λ g _. just (enter_typed g p.0 _))))
  perform_typed f es (AsksGrow g size count h) e = just tt
  perform_typed f es (Ends vs) e = with_is (pop_typed f.results vs) _ (λ p _. give_typed p.0 es)

  step_typed : (es : List Entry) → AllOf NextTyped (step s es)
  step_typed [] = ill_typed
  step_typed (Running f ∷ es) = with_is (act s f) _ (λ x e. perform_typed f es x e)
  step_typed (Mark ∷ es) = ill_typed
  step_typed (Opening xs ∷ es) = ill_typed
  step_typed (Waiting ts ∷ es) = ill_typed
  step_typed (Ended vs ∷ es) = ill_typed
  step_typed (Growing g ∷ es) = ill_typed

-- ---- a call ----

module _ (m : Module) (writes : StepsWriteWhatTheyTouch) (fs : List Func) where
  abbrev pub HeldTyped : Stage → Type 0
  HeldTyped (Going s es) = Good m fs s.store
  HeldTyped (Finished s) = Good m fs s.store
  HeldTyped (Stopped x left) = Unit {0}

  came_typed : (t s : State) (ok : Good m fs t.store) (o : Outcome Next) → AllOf (NextTyped m writes fs t.store ok) o → HeldTyped (came_to s o)
  came_typed t s ok Traps h = tt
  came_typed t s ok IllTyped h = tt
  came_typed t s ok (Gives (Ran r es)) (just h) = h
  came_typed t s ok (Gives (EndsCall vs r es)) (just h) = h
  came_typed t s ok (Gives (CallsOwn p u vs r es)) h = tt
  came_typed t s ok (Gives (WaitsGrowth g n c r es)) h = tt
  came_typed t s ok (Gives (CallsPlaceholder n vs r es)) h = tt

  tried_typed : (o : Option Test) (t : Stage) → HeldTyped t → HeldTyped (stopped_or o t)
  tried_typed None t h = h
  tried_typed (Some x) t h = tt

  quiet_typed : (s : State) (es : List Entry) → Good m fs s.store → HeldTyped (quiet_step m s es)
  quiet_typed s es ok = tried_typed (first_held (tests m s es)) (came_to (spent s es) (step s.store es)) (came_typed s (spent s es) ok (step s.store es) (step_typed m writes fs s.store ok es))

  after_typed : (n : ℕ) (t : Stage) → HeldTyped t → HeldTyped (after_steps m n t)
  after_typed zero t h = h
  after_typed (suc n) (Going s es) h = after_typed n (quiet_step m s es) (quiet_typed s es h)
  after_typed (suc n) (Stopped x left) h = tt
  after_typed (suc n) (Finished s) h = h

  opened_typed : (s : State) (o : Option Func) → Good m fs s.store → HeldTyped (host_opened_if_there s o)
  opened_typed s None ok = tt
  opened_typed s (Some f) ok =
      tried_typed (first_held (host_tests s f)) (came_to (record s { turns = s.turns - frame_turns f }) (Gives (enter s.store f [] (Mark ∷ []))))
      (came_typed s (record s { turns = s.turns - frame_turns f }) ok (Gives (enter s.store f [] (Mark ∷ []))) (just (enter_typed m writes fs s.store ok f [] (Mark ∷ []))))

  pub call_typed : (s : State) (func : ℕ) → Good m fs s.store → HeldTyped (call_end m s func)
  call_typed s func ok = after_typed (suc (weight (host_call s func))) (host_call s func) (opened_typed s (slice_get s.store.funcs func) ok)

  pub called_typed : (funcs : List ℕ) (t : Stage) → HeldTyped t → HeldTyped (called_in_order m t funcs)
  called_typed [] (Finished s) h = h
  called_typed [] (Stopped x left) h = tt
  called_typed [] (Going s es) h = h
  called_typed (func ∷ funcs) (Finished s) h = called_typed funcs (call_end m s func) (call_typed s func h)
  called_typed (func ∷ funcs) (Stopped x left) h = tt
  called_typed (func ∷ funcs) (Going s es) h = h

  pub started_typed : (s : State) (start : Option ℕ) → Good m fs s.store → HeldTyped (after_start m (Finished s) start)
  started_typed s None ok = ok
  started_typed s (Some func) ok = call_typed s func ok

pub calls_keep_types : StepsWriteWhatTheyTouch → CallsKeepTypes
calls_keep_types writes m s t func ok e = (subst (HeldTyped m writes s.store.funcs) e (call_typed m writes s.store.funcs s func (ok, refl))).0

pub globals_typed : CodeIsRelatedToItself → StepsWriteWhatTheyTouch → ValidWhereItemsHold → EvaluatedGlobalsAreTyped
globals_typed coded writes items m v turns funcs s e = held (instantiated m turns) (instantiated_stored m coded ((items m).0 v) turns) refl
  where
    from : (fs : List Func) (t : Stage) → HeldTyped m writes fs (after_start m t m.start) → instantiated m turns ≡ t → GlobalsAreTyped m s.store
    from fs t h is = (subst (HeldTyped m writes fs) (ap (λ x. called_in_order m (after_start m x m.start) funcs) (sym is) ∙ e) (called_typed m writes fs funcs (after_start m t m.start) h)).0

    held : (t : Stage) → Stored m t → instantiated m turns ≡ t → GlobalsAreTyped m s.store
    held (Finished u) i is = from u.store.funcs (Finished u) (started_typed m writes u.store.funcs u m.start (i.1, refl)) is
    held (Stopped x left) i is = from [] (Stopped x left) tt is
    held (Going u es) i is = elim i [ ]
