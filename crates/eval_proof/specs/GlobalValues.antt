-- The functions to which globals refer, and the types of their values, in the states of an
-- evaluation.
use Rattle.std.specs.Prelude.{◌≡◌, ℕ, ◌<◌, ◌≤◌, List, length, true, Some, slice_get}
use Rattle.wasm_tree_spec.specs.Prelude.{Module, funcs_of, memories_of, globals_of, same_type}
use Rattle.wasm_valid.specs.Prelude.{IsValid}
use Rattle.wasm_meaning.specs.Prelude.{FuncRef, Val, Ref, Global, Store, type_of}
use Rattle.eval_spec.specs.Prelude.{State, Finished, call_end, instantiated, evaluated_within}

-- A function to which the value refers is one of the module, imported or defined.
abbrev pub IsThere : Module → Val → Type 0
IsThere m (Ref (FuncRef (Some func))) = func < length (funcs_of m)
IsThere m _ = Unit {0}

-- Each function to which a global refers is one of the module, imported or defined.
abbrev pub RefsAreThere : Module → Store → Type 0
RefsAreThere m s = (n : ℕ) (g : Global) → slice_get s.globals n ≡ Some g → IsThere m g.value

-- Each global has its type in the module, and its value has this type.
abbrev pub GlobalsAreTyped : Module → Store → Type 0
GlobalsAreTyped m s = (n : ℕ) (g : Global) → slice_get s.globals n ≡ Some g → (same_type g.ty.ty (type_of g.value) ≡ true) × (slice_get (globals_of m) n ≡ Some g.ty)

-- ---- after an evaluation ----

-- After the instantiation of a valid module with its start, and after any calls, each function to
-- which a global refers is one of the module.
abbrev pub EvaluatedRefsAreThere : Type 0
EvaluatedRefsAreThere = (m : Module) → IsValid m → (turns : ℕ) (funcs : List ℕ) (s : State) → evaluated_within m turns funcs ≡ Finished s → RefsAreThere m s.store

-- In the same states the values of globals have their types.
abbrev pub EvaluatedGlobalsAreTyped : Type 0
EvaluatedGlobalsAreTyped = (m : Module) → IsValid m → (turns : ℕ) (funcs : List ℕ) (s : State) → evaluated_within m turns funcs ≡ Finished s → GlobalsAreTyped m s.store

-- ---- after one call ----

-- `s` has the functions, tables and element segments of `base`, and no fewer memories, globals and
-- data segments than the module.
pub record HasPartsOf (m : Module) (base s : Store) : Type 0 where
  pub funcs : s.funcs ≡ base.funcs
  pub tables : s.tables ≡ base.tables
  pub elems : s.elems ≡ base.elems
  pub mems : length (memories_of m) ≤ length s.mems
  pub globals : length (globals_of m) ≤ length s.globals
  pub datas : length m.datas ≤ length s.datas

-- For a valid module, after a call that finishes, `RefsAreThere` holds if it did before, from a
-- state with typed globals that has the parts (`HasPartsOf`) of the state that the instantiation
-- leaves.
abbrev pub CallsKeepRefs : Type 0
CallsKeepRefs =
    (m : Module) → IsValid m → (turns : ℕ) (base s t : State) (func : ℕ) → instantiated m turns ≡ Finished base → HasPartsOf m base.store s.store → GlobalsAreTyped m s.store → RefsAreThere m s.store →
    call_end m s func ≡ Finished t → RefsAreThere m t.store

-- After a call that finishes, `GlobalsAreTyped` holds if it did before, from any state.
abbrev pub CallsKeepTypes : Type 0
CallsKeepTypes = (m : Module) (s t : State) (func : ℕ) → GlobalsAreTyped m s.store → call_end m s func ≡ Finished t → GlobalsAreTyped m t.store
