-- Related functions are entered in both runs over related stacks, and the states correspond after
-- it.
use Rattle.base_lists.proofs.Common.{◌≡◌, ◌∙◌, refl, ap, sym, ℕ, List, [], ◌∷◌, ◌+◌, ◌++◌, length, Some, None, Bool, slice_get, append_rel}
use Rattle.wasm_tree_spec.specs.Prelude.{FuncType, ValType, Instr, Module, Functions}
use Rattle.wasm_meaning.specs.Prelude.{Gives, bind, or_ill_typed, Code, Entry, Frame, Inst, Ran, Running, Store, Val, zeros, enter, enter_at, own_count, Environment, LoaderRun, LoaderWorld, Move, Run, Steps, made, tick, transition}
use Rattle.run_simulation.specs.Prelude.{FrameRel, ListRel, Pairing, ValRel, cons, nil, running, end, CodeAt, WithPassing, passing, through}
use Rattle.run_simulation.specs.Trampolines as between
use Rattle.run_simulation.proofs.ValueSteps.{zeros_rel}
use Rattle.split_proof.specs.Addresses.{defined_address, slot_table_address, split_pairing}
use Rattle.split_proof.specs.CorrespondingStates.{Corresponds, FuncsComeFrom, SlotHolds, filled, waits}

-- ---- frames ----

-- The frame of a defined function that is entered.
abbrev pub frame_in : Inst → List Val → (locals : List ValType) → FuncType → List Instr → Frame
frame_in i vs ls u c = record { inst = i; locals = vs ++ zeros ls; results = u.results; levels = record { values = []; code = c; gives = length u.results; takes = length u.results; back = [] } ∷ [] }

pub enters_code : (s : Store) (a : ℕ) (u : FuncType) (i : Inst) (ls : List ValType) (c : List Instr) → slice_get s.funcs a ≡ Some (Code u i ls c) → (vs : List Val) (es : List Entry) → enter_at s a vs es ≡ Gives (Ran s (Running (frame_in i vs ls u c) ∷ es))
enters_code s a u i ls c h vs es = ap (λ o. bind (or_ill_typed o) (λ f. Gives (enter s f vs es))) h

module _ {R : Pairing} {s t : Store} {u : FuncType} {a c : ℕ} (k : CodeAt R s t u a c) where
  abbrev pub first_frame : List Val → Frame
  first_frame vs = frame_in k.first_inst vs k.locals u k.first_code

  abbrev pub second_frame : List Val → Frame
  second_frame ws = frame_in k.second_inst ws k.locals u k.second_code

  pub frames_rel : {vs ws : List Val} → ListRel (ValRel R) vs ws → FrameRel R (first_frame vs) (second_frame ws)
  frames_rel v = record { locals = append_rel v (zeros_rel R k.locals); results = refl; levels = cons (record { values = nil; code = k.related; gives = refl; takes = refl; back = end }) nil }

-- ---- stacks ----

-- The stacks below two entered functions are related, where the second function may be reached
-- through a trampoline.
pub data Below (R : Pairing) (u : FuncType) : List Entry → List Entry → Type 0 where
  direct : {es fs : List Entry} → WithPassing R es fs → Below R u es fs
  by_trampoline : {es fs : List Entry} (inst : Inst) (locals : List Val) → WithPassing R es fs → Below R u es (Running (passing inst locals u.results) ∷ fs)

pub over_them : {R : Pairing} {u : FuncType} {es fs : List Entry} (i j : Inst) (vs ws : List Val) (ls ms : List ValType) (c d : List Instr) → Below R u es fs → FrameRel R (frame_in i vs ls u c) (frame_in j ws ms u d) →
    WithPassing R (Running (frame_in i vs ls u c) ∷ es) (Running (frame_in j ws ms u d) ∷ fs)
over_them i j vs ws ls ms c d (direct e) f = between.WithPassing.cons (running f) e
over_them i j vs ws ls ms c d (by_trampoline inst locals e) f = through f inst locals e

-- ---- states ----

module _ (env : Environment) (m : Module) (moved : List ℕ) (w : LoaderWorld) (first second : Inst) (loaded : List (ℕ × ℕ)) where
  abbrev R : Pairing
  R = split_pairing env m moved loaded

  -- Related code stays related where both stores keep their functions.
  pub code_stays : {s z t y : Store} {u : FuncType} {a c : ℕ} → z.funcs ≡ s.funcs → y.funcs ≡ t.funcs → CodeAt R s t u a c → CodeAt R z y u a c
  code_stays {a = a} {c = c} e f k = record {
    first_inst = k.first_inst;
    second_inst = k.second_inst;
    locals = k.locals;
    first_code = k.first_code;
    second_code = k.second_code;
    first = ap (λ fs. slice_get fs a) e ∙ k.first;
    second = ap (λ fs. slice_get fs c) f ∙ k.second;
    related = k.related;
  }

  -- The function in a slot stays where both stores keep their functions.
  holds_stay : {s z t y : Store} {table : _} {slot func : ℕ} {b : Bool} → z.funcs ≡ s.funcs → y.funcs ≡ t.funcs → SlotHolds env m moved loaded s t table slot func b → SlotHolds env m moved loaded z y table slot func b
  holds_stay {slot = slot} e f (waits refers stands) = waits refers (ap (λ fs. slice_get fs (own_count Functions env + slot)) f ∙ stands)
  holds_stay e f (filled c refers code) = filled c refers (code_stays e f code)

  -- The relation of the functions and the slots of two stores stays where these keep their
  -- functions and the slot table.
  pub funcs_stay : {s z : Store} {q p : LoaderRun} → (h : FuncsComeFrom env m moved w first second loaded s q) → z.funcs ≡ s.funcs → p.run.store.funcs ≡ q.run.store.funcs → slice_get p.run.store.tables (slot_table_address env m) ≡ slice_get q.run.store.tables (slot_table_address env m) →
      p.loaded ≡ q.loaded →
      FuncsComeFrom env m moved w first second loaded z p
  funcs_stay {s} {z} {q} {p} h e f table l = record {
    plain = λ a n u at. h.plain a n u (ap (λ fs. slice_get fs a) (sym e) ∙ at);
    moves = λ slot func d at there. ap (λ fs. slice_get fs (defined_address env m func)) e ∙ h.moves slot func d at there;
    trampolines = λ slot func b at left. ap (λ fs. slice_get fs b) f ∙ h.trampolines slot func b at left;
    table = h.table;
    table_stands = table ∙ h.table_stands;
    slots = λ slot func at. let x = h.slots slot func at in record { secondary = x.secondary; is_place = x.is_place; is_loaded = x.is_loaded; loaded_is = ap (λ bs. slice_get bs x.secondary) l ∙ x.loaded_is; holds = holds_stay e f x.holds };
    pairs = λ a c is. let x = h.pairs a c is in (x.0, x.1, x.2, x.3, code_stays e f x.4);
  }

  -- The states still correspond with other stacks that are related.
  pub stands_with : {r : Run} {q : LoaderRun} → Corresponds env m moved w first second loaded r q → (ms : List Move) (es fs : List Entry) → WithPassing R es fs →
      Corresponds env m moved w first second loaded (record r { moves = ms; entries = es }) (record q { run = record q.run { moves = ms; entries = fs } })
  stands_with h ms es fs e = record {
    related = record { store = h.related.store; entries = e; phase = h.related.phase; shown = h.related.shown; view = h.related.view; owned = h.related.owned; moves = refl };
    begun = h.begun;
    inst = h.inst;
    typed = h.typed;
    funcs = funcs_stay h.funcs refl refl refl refl;
  }

-- The first run enters the function in one step.
pub first_enters : {R : Pairing} (r : Run) {t : Store} {u : FuncType} {a c : ℕ} (k : CodeAt R r.store t u a c) (ms : List Move) (vs : List Val) (es : List Entry) → transition r ≡ Steps (record r { moves = ms }) (enter_at r.store a vs es) →
    tick r ≡ (record r { moves = ms; entries = Running (first_frame k vs) ∷ es }, None)
first_enters r {u = u} {a = a} k ms vs es h = ap made (h ∙ ap (Steps (record r { moves = ms })) (enters_code r.store a u k.first_inst k.locals k.first_code k.first vs es))
