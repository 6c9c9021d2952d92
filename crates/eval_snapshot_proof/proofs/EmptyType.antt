-- A module of which a constructor or the start was called has a type without parameters and
-- results.
use Rattle.base_lists.proofs.Common.{◌≡◌, ◌∙◌, ℕ, ◌-◌, arith, List, [], ◌∷◌, ◌++◌, Bool, true, false, not, cond, Option, Some, None, is_some, slice_get, refl, sym, ap, subst, inl, inr, nat_lt, cons_option, filter_map, same_Some, slice_get_within, chosen_from, all_there_at, all_there_length}
use Rattle.base_lists.proofs.Common.{and_then_is, append_from, slice_get_there}
use Rattle.base_lists.specs.Options.{all_there}
use Rattle.wasm_tree.specs.declared.module.Func.{Func as FuncDef}
use Rattle.wasm_tree_spec.specs.Prelude.{Import, Module, func_of}
use Rattle.wasm_meaning.specs.Prelude.{Gives, Func, Mark, Store, own_of, type_of_func, enter, Added, const_value, elem_with, global_with, joined_stores, new_func, store_with}
use Rattle.world_simulation.specs.FunctionIndependence.{SegmentsKeepFunctions}
use Rattle.eval_spec.specs.declared.limits.TheConstants.{MOST_TURNS}
use Rattle.eval_spec.specs.declared.stop.Stop.{Stop}
use Rattle.eval_spec.specs.declared.stop.Stop.TheVariants as why
use Rattle.eval_spec.specs.Prelude.{State, Stage, Going, Stopped, Finished, Test, tried, frame_turns, takes_and_gives_nothing, test, call_end, came_to, host_opened, host_opened_if_there, run_end, called_in_order, evaluated_within, after_start, imported_func, imported_store, instantiated, own_inst}
use Rattle.eval_proof.specs.QuietInstantiations.{InstantiationsAreTheMachines}
use Rattle.eval_snapshot_spec.specs.Evaluated.{first_missing, func_named, funcs_named}
use Rattle.eval_snapshot_proof.specs.SuitableStates.{HasEmptyType}
use Rattle.eval_snapshot_proof.specs.TypedValues.{EmptyTypesAreThere}

-- ---- functions after the instantiation ----

-- The type of the function is one of the module's types.
abbrev HasTypeIn : Module → Func → Type 0
HasTypeIn m f = (n : ℕ) × (slice_get m.types n ≡ Some (type_of_func f))

imported_typed : (m : Module) (i : Import) (f : Func) → imported_func m i ≡ Some f → HasTypeIn m f
imported_typed m i f e =
    let ty = and_then_is (func_of i.desc) _ f e in
    let t = and_then_is (slice_get m.types ty.0) _ f ty.2 in
    (ty.0, subst (λ g. slice_get m.types ty.0 ≡ Some (type_of_func g)) (same_Some _ f t.2) t.1)

defined_typed : (m : Module) (d : FuncDef) (f : Func) → new_func (own_inst m) d ≡ Some f → HasTypeIn m f
defined_typed m d f e =
    let t = and_then_is (slice_get m.types d.ty) _ f e in
    (d.ty, subst (λ g. slice_get m.types d.ty ≡ Some (type_of_func g)) (same_Some _ f t.2) t.1)

each_typed : (m : Module) (fs : List Func) → all_there (new_func (own_inst m)) m.funcs ≡ Some fs → (n : ℕ) (f : Func) → slice_get (filter_map (imported_func m) m.imports ++ fs) n ≡ Some f → HasTypeIn m f
each_typed m fs made n f e = elim (append_from (filter_map (imported_func m) m.imports) fs n f e) [
  | inl h ↦ let i = chosen_from (imported_func m) m.imports n f h in imported_typed m i.0 f i.2
  | inr h ↦
      let d = slice_get_there m.funcs h.0 (omega (arith, slice_get_within fs h.0 f h.2, all_there_length (new_func (own_inst m)) m.funcs fs made)) in
      let y = all_there_at (new_func (own_inst m)) m.funcs fs made h.0 d.0 d.1 in
      defined_typed m d.0 f (y.1 ∙ (sym y.2 ∙ h.2))
]

instantiated_typed : SegmentsKeepFunctions → InstantiationsAreTheMachines → (m : Module) (turns : ℕ) (s : State) → instantiated m turns ≡ Finished s → (n : ℕ) (f : Func) → slice_get s.store.funcs n ≡ Some f → HasTypeIn m f
instantiated_typed kept machines m turns s e n f at =
    let i = machines m turns s e in
    let value = const_value (imported_store m).globals (own_inst m) in
    let t = and_then_is (store_with value m (own_inst m)) _ i.added i.is in
    let fs = and_then_is (all_there (new_func (own_inst m)) m.funcs) _ t.0 t.1 in
    let gs = and_then_is (all_there (global_with value) m.globals) _ t.0 fs.2 in
    let es = and_then_is (all_there (elem_with value) m.elems) _ t.0 gs.2 in
    let defined : fs.0 ≡ t.0.funcs = ap (λ (x : Store). x.funcs) (same_Some _ t.0 es.2) in
    let filled : (joined_stores (imported_store m) t.0).funcs ≡ i.added.filled.store.funcs =
    sym (kept value m (own_inst m) (joined_stores (imported_store m) t.0)) ∙ ap (λ (x : Added). x.filled.store.funcs) (same_Some _ i.added t.2) in
    let funcs : filter_map (imported_func m) m.imports ++ fs.0 ≡ s.store.funcs =
    ap (λ xs. filter_map (imported_func m) m.imports ++ xs) defined ∙ (filled ∙ ap (λ (x : Store). x.funcs) i.store) in
    each_typed m fs.0 fs.1 n f (ap (λ xs. slice_get xs n) funcs ∙ at)

-- ---- calls ----

-- A step that leads to a finished run passed each of its tests, hence the first one.
passed : (m : Module) (b : Bool) (stop : Stop) (left : ℕ) (rest : List Test) (stage : Stage) (t : State) → run_end m (tried (test (not b) stop left ∷ rest) stage) ≡ Finished t → b ≡ true
passed m true stop left rest stage t e = refl
passed m false stop left rest stage t e = absurd (let z = e in cc)

host_passed : (m : Module) (s t : State) (f : Func) → run_end m (host_opened s f) ≡ Finished t → takes_and_gives_nothing (type_of_func f) ≡ true
host_passed m s t f h =
    passed m (takes_and_gives_nothing (type_of_func f)) why.Signature s.turns (test (is_some (own_of f)) why.Import s.turns ∷ test (nat_lt s.turns (frame_turns f)) why.Steps s.turns ∷ [])
    (came_to (record s { turns = s.turns - frame_turns f }) (Gives (enter s.store f [] (Mark ∷ [])))) t h

call_has_type : SegmentsKeepFunctions → InstantiationsAreTheMachines → (m : Module) (turns : ℕ) (s t : State) (func : ℕ) → instantiated m turns ≡ Finished s → call_end m s func ≡ Finished t → HasEmptyType m
call_has_type kept machines m turns s t func made e = by (slice_get s.store.funcs func) refl e
  where
    by : (o : Option Func) → slice_get s.store.funcs func ≡ o → run_end m (host_opened_if_there s o) ≡ Finished t → HasEmptyType m
    by None is h = absurd (let z = h in cc)
    by (Some f) is h =
        let ty = instantiated_typed kept machines m turns s made func f is in
        (ty.0, type_of_func f, ty.1, host_passed m s t f h)

-- The stage before calls that finish is itself finished.
first_finished : (m : Module) (t : Stage) (funcs : List ℕ) (s : State) → called_in_order m t funcs ≡ Finished s → (u : State) × (t ≡ Finished u)
first_finished m (Finished u) funcs s e = (u, refl)
first_finished m (Stopped x left) [] s e = absurd (let z = e in cc)
first_finished m (Stopped x left) (func ∷ funcs) s e = absurd (let z = e in cc)
first_finished m (Going u es) [] s e = absurd (let z = e in cc)
first_finished m (Going u es) (func ∷ funcs) s e = absurd (let z = e in cc)

-- The first call of an evaluation is that of the start, or of the first function if there is no
-- start.
evaluation_has_type : SegmentsKeepFunctions → InstantiationsAreTheMachines → (m : Module) (turns : ℕ) (func : ℕ) (funcs : List ℕ) (s : State) → evaluated_within m turns (func ∷ funcs) ≡ Finished s → HasEmptyType m
evaluation_has_type kept machines m turns func funcs s e = by (instantiated m turns) refl e
  where
    by_start : (base : State) (start : Option ℕ) → instantiated m turns ≡ Finished base → called_in_order m (after_start m (Finished base) start) (func ∷ funcs) ≡ Finished s → HasEmptyType m
    by_start base None made h = let u = first_finished m (call_end m base func) funcs s h in call_has_type kept machines m turns base u.0 func made u.1
    by_start base (Some start) made h = let u = first_finished m (call_end m base start) (func ∷ funcs) s h in call_has_type kept machines m turns base u.0 start made u.1

    by : (i : Stage) → instantiated m turns ≡ i → called_in_order m (after_start m i m.start) (func ∷ funcs) ≡ Finished s → HasEmptyType m
    by (Finished base) made h = by_start base m.start made h
    by (Stopped x left) made h = absurd (let z = h in cc)
    by (Going u es) made h = absurd (let z = h in cc)

pub empty_types_there : SegmentsKeepFunctions → InstantiationsAreTheMachines → EmptyTypesAreThere
empty_types_there kept machines m [] s after = tt
empty_types_there kept machines m (name ∷ names) s after = by (func_named m name) after.named after.quiet
  where
    by : (o : Option ℕ) → cond (is_some o) (first_missing m names) (Some name) ≡ None → evaluated_within m MOST_TURNS (cons_option o (funcs_named m names)) ≡ Finished after.end → HasEmptyType m
    by None h e = absurd (let z = h in cc)
    by (Some func) h e = evaluation_has_type kept machines m MOST_TURNS func (funcs_named m names) after.end e
