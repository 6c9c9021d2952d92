-- The parts of its store that a quiet run leaves unchanged: memories keep their limits and sizes,
-- globals keep their types, and data segments stay or are dropped.
use Rattle.base_lists.proofs.Common.{◌≡◌, ◌∙◌, sym, ap, refl, subst, ℕ, zero, suc, List, [], ◌∷◌, length, Option, Some, None, ◌⊎◌, inl, inr, slice_get, length-set, same_Some, overwritten_length}
use Rattle.base_lists.specs.Related.{EachRelated}
use Rattle.base_lists.proofs.Related.{each_self, each_then, each_set}
use Rattle.wasm_tree_spec.specs.Prelude.{Module}
use Rattle.wasm_meaning.specs.Prelude.{Outcome, Gives, Traps, IllTyped, Val, Func, Code, Own, Placeholder, Memory, Global, Data, Store, Level, Frame, Change, Entry, Running, Mark, Opening, Waiting, Ended, Growing, Act, Goes, Calls, AsksGrow, Ends, Next, Ran, CallsOwn, WaitsGrowth, CallsPlaceholder}
use Rattle.wasm_meaning.specs.Prelude.{EndsCall, pop_typed, type_at, act, changed, give, give_levels, enter, no_bytes, perform, step, Touched, Writes, StepsWriteWhatTheyTouch, ActWrites, touched}
use Rattle.wasm_meaning.specs.Touched as what
use Rattle.wasm_meaning.proofs.Outcomes.{AllOf, ill_typed, just, with_is, with_found}
use Rattle.eval_spec.specs.declared.limits.TheConstants.{MOST_TURNS}
use Rattle.eval_spec.specs.Prelude.{State, Stage, Going, Stopped, Finished, Test, first_held, stopped_or, host_tests, tests, after_steps, call_end, came_to, host_call, host_opened, host_opened_if_there, quiet_step, spent, weight, after_start, instantiated, called_in_order, evaluated}

-- ---- stores ----

pub record SameSize (m n : Memory) : Type 0 where
  pub most : n.most ≡ m.most
  pub pages : n.pages ≡ m.pages
  pub size : length n.bytes ≡ length m.bytes

abbrev pub StaysOrDropped : Data → Data → Type 0
StaysOrDropped d e = (e ≡ d) ⊎ (e ≡ no_bytes)

pub record Steady (s t : Store) : Type 0 where
  pub mems : EachRelated SameSize s.mems t.mems
  pub globals : EachRelated (λ g h. h.ty ≡ g.ty) s.globals t.globals
  pub datas : EachRelated StaysOrDropped s.datas t.datas
  pub memory_count : length t.mems ≡ length s.mems

same_size : (m : Memory) → SameSize m m
same_size m = record { most = refl; pages = refl; size = refl }

pub steady_self : (s : Store) → Steady s s
steady_self s = record {
  mems = each_self SameSize s.mems same_size;
  globals = each_self (λ g h. h.ty ≡ g.ty) s.globals (λ g. refl);
  datas = each_self StaysOrDropped s.datas (λ d. inl refl);
  memory_count = refl;
}

stays_after : (d e f : Data) → StaysOrDropped d e → StaysOrDropped e f → StaysOrDropped d f
stays_after d e f (inl p) (inl q) = inl (q ∙ p)
stays_after d e f (inr p) (inl q) = inr (q ∙ p)
stays_after d e f h (inr q) = inr q

pub steady_after : (s t u : Store) → Steady s t → Steady t u → Steady s u
steady_after s t u h k = record {
  mems = each_then SameSize s.mems t.mems u.mems (λ x y z p q. record { most = q.most ∙ p.most; pages = q.pages ∙ p.pages; size = q.size ∙ p.size }) h.mems k.mems;
  globals = each_then (λ g h. h.ty ≡ g.ty) s.globals t.globals u.globals (λ x y z p q. q ∙ p) h.globals k.globals;
  datas = each_then StaysOrDropped s.datas t.datas u.datas stays_after h.datas k.datas;
  memory_count = k.memory_count ∙ h.memory_count;
}

steady_written : (s : Store) {t : Touched} {c : Change} → Writes s t c → Steady s (changed s c)
steady_written s what.nothing = steady_self s
steady_written s (what.a_global {a = a} {g = g} {h = h} is may ty) =
    let x = steady_self s in
    record {
      mems = x.mems;
      globals = each_set (λ g h. h.ty ≡ g.ty) s.globals a h (λ g. refl) (λ old e. ty ∙ ap (λ (g : Global). g.ty) (same_Some _ _ (sym is ∙ e)));
      datas = x.datas;
      memory_count = refl;
    }
steady_written s (what.bytes {a = a} {place = place} {m = m} {n = n} w is over pages most) =
    let x = steady_self s in
    let size = overwritten_length m.bytes place w n.bytes over in
    record {
      mems = each_set SameSize s.mems a n same_size (λ old e. subst (λ m. SameSize m n) (same_Some _ _ (sym is ∙ e)) (record { most = most; pages = pages; size = size }));
      globals = x.globals;
      datas = x.datas;
      memory_count = length-set s.mems a n;
    }
steady_written s (what.slots w is over ty most) = let x = steady_self s in record { mems = x.mems; globals = x.globals; datas = x.datas; memory_count = refl }
steady_written s what.an_elem = let x = steady_self s in record { mems = x.mems; globals = x.globals; datas = x.datas; memory_count = refl }
steady_written s (what.a_data {a = a}) =
    let x = steady_self s in
    record { mems = x.mems; globals = x.globals; datas = each_set StaysOrDropped s.datas a no_bytes (λ d. inl refl) (λ old e. inr refl); memory_count = refl }

-- ---- steps ----

module _ (writes : StepsWriteWhatTheyTouch) (s : Store) where
  -- The store that a step leaves keeps these parts.
  abbrev LeavesSteady : Next → Type 0
  LeavesSteady (Ran t fs) = Steady s t
  LeavesSteady (CallsOwn p u vs t fs) = Unit {0}
  LeavesSteady (WaitsGrowth g size count t fs) = Unit {0}
  LeavesSteady (CallsPlaceholder slot vs t fs) = Unit {0}
  LeavesSteady (EndsCall vs t fs) = Steady s t

  keeps_levels : (vs : List Val) (f : Frame) (ls : List Level) (es : List Entry) → AllOf LeavesSteady (give_levels s vs f ls es)
  keeps_levels vs f [] es = ill_typed
  keeps_levels vs f (l ∷ ls) es = just (steady_self s)

  keeps_given : (vs : List Val) (es : List Entry) → AllOf LeavesSteady (give s vs es)
  keeps_given vs [] = ill_typed
  keeps_given vs (Running f ∷ es) = keeps_levels vs f f.levels es
  keeps_given vs (Mark ∷ es) = just (steady_self s)
  keeps_given vs (Opening xs ∷ es) = just (steady_self s)
  keeps_given vs (Waiting ts ∷ es) = ill_typed
  keeps_given vs (Ended ws ∷ es) = ill_typed
  keeps_given vs (Growing g ∷ es) = ill_typed

  keeps_entered : (f : Func) (args : List Val) (es : List Entry) → LeavesSteady (enter s f args es)
  keeps_entered (Code t j ls c) args es = steady_self s
  keeps_entered (Own p t) args es = tt
  keeps_entered (Placeholder n t) args es = tt

  keeps_performed : (f : Frame) (es : List Entry) (x : Act) → ActWrites s (touched s f) x → AllOf LeavesSteady (perform s f es x)
  keeps_performed f es (Goes c h) w = just (steady_written s w.writes)
  keeps_performed f es (Calls a vs h) w = with_found (type_at s a) _ (λ t _. with_is (pop_typed t.params vs) _ (λ p _. with_found (slice_get s.funcs a) _ (λ g is. just (keeps_entered g p.0 _))))
  keeps_performed f es (AsksGrow g size count h) w = just tt
  keeps_performed f es (Ends vs) w = with_is (pop_typed f.results vs) _ (λ p _. keeps_given p.0 es)

  keeps_step : (es : List Entry) → AllOf LeavesSteady (step s es)
  keeps_step [] = ill_typed
  keeps_step (Running f ∷ es) = with_is (act s f) _ (λ x is. keeps_performed f es x (writes s f x is))
  keeps_step (Mark ∷ es) = ill_typed
  keeps_step (Opening xs ∷ es) = ill_typed
  keeps_step (Waiting ts ∷ es) = ill_typed
  keeps_step (Ended vs ∷ es) = ill_typed
  keeps_step (Growing g ∷ es) = ill_typed

-- ---- runs ----

-- The stage is stopped, or its store keeps these parts.
abbrev Reaches : Store → Stage → Type 0
Reaches s (Going t es) = Steady s t.store
Reaches s (Finished t) = Steady s t.store
Reaches s (Stopped x left) = Unit {0}

tested : (s : Store) (o : Option Test) (t : Stage) → Reaches s t → Reaches s (stopped_or o t)
tested s None t h = h
tested s (Some x) t h = tt

module _ (writes : StepsWriteWhatTheyTouch) (m : Module) where
  came : (s : Store) (q : State) (o : Outcome Next) → AllOf (LeavesSteady writes s) o → Reaches s (came_to q o)
  came s q (Gives (Ran t es)) (just h) = h
  came s q (Gives (EndsCall vs t es)) (just h) = h
  came s q (Gives (CallsOwn p u vs t es)) h = tt
  came s q (Gives (WaitsGrowth g size count t es)) h = tt
  came s q (Gives (CallsPlaceholder slot vs t es)) h = tt
  came s q Traps h = tt
  came s q IllTyped h = tt

  stepped : (s : State) (es : List Entry) → Reaches s.store (quiet_step m s es)
  stepped s es = tested s.store (first_held (tests m s es)) _ (came s.store (spent s es) (step s.store es) (keeps_step writes s.store es))

  further : (s t : Store) → Steady s t → (x : Stage) → Reaches t x → Reaches s x
  further s t h (Going u es) k = steady_after s t u.store h k
  further s t h (Finished u) k = steady_after s t u.store h k
  further s t h (Stopped x left) k = tt

  after : (s : Store) (n : ℕ) (t : Stage) → Reaches s t → Reaches s (after_steps m n t)
  after s zero t h = h
  after s (suc n) (Going t es) h = after s n (quiet_step m t es) (further s t.store h (quiet_step m t es) (stepped t es))
  after s (suc n) (Finished t) h = h
  after s (suc n) (Stopped x left) h = tt

  opened : (s : State) (f : Func) → Reaches s.store (host_opened s f)
  opened s (Code t j ls c) = tested s.store (first_held (host_tests s (Code t j ls c))) _ (steady_self s.store)
  opened s (Own p t) = tested s.store (first_held (host_tests s (Own p t))) _ tt
  opened s (Placeholder n t) = tested s.store (first_held (host_tests s (Placeholder n t))) _ tt

  opened_there : (s : State) (o : Option Func) → Reaches s.store (host_opened_if_there s o)
  opened_there s (Some f) = opened s f
  opened_there s None = tt

  called : (s : State) (func : ℕ) → Reaches s.store (call_end m s func)
  called s func = after s.store (suc (weight (host_call s func))) (host_call s func) (opened_there s (slice_get s.store.funcs func))

  all_called : (s : Store) (t : Stage) (funcs : List ℕ) → Reaches s t → Reaches s (called_in_order m t funcs)
  all_called s (Finished t) [] h = h
  all_called s (Finished t) (func ∷ funcs) h = all_called s (call_end m t func) funcs (further s t.store h (call_end m t func) (called t func))
  all_called s (Going t es) [] h = h
  all_called s (Going t es) (func ∷ funcs) h = h
  all_called s (Stopped x left) [] h = tt
  all_called s (Stopped x left) (func ∷ funcs) h = tt

  started : (q : State) (o : Option ℕ) → Reaches q.store (after_start m (Finished q) o)
  started q None = steady_self q.store
  started q (Some func) = called q func

  -- The quiet run keeps these parts from the instantiation to the end of the constructors.
  pub steady_run : (q t : State) (funcs : List ℕ) → instantiated m MOST_TURNS ≡ Finished q → evaluated m funcs ≡ Finished t → Steady q.store t.store
  steady_run q t funcs is e =
      subst (Reaches q.store) (ap (λ c. called_in_order m (after_start m c m.start) funcs) (sym is) ∙ e) (all_called q.store (after_start m (Finished q) m.start) funcs (started q m.start))
