-- A small valid module. Nothing names its first function, so the law applies to that function. Its
-- second function calls the third, so the law does not apply to the third.
use Rattle.base_lists.proofs.Common.{◌≡◌, ℕ, zero, suc, [], ◌∷◌, Some, None, true, false, arith, refl, slice_get, same_Some, IsTrue}
use Rattle.wasm_tree_spec.specs.Prelude.{the_lemmas, FuncType, Types, Functions, Call, Func, Export, Module}
use Rattle.wasm_tree.specs.declared.instr.Instr.{out-Instr}
use Rattle.wasm_tree.specs.declared.module.ExportDesc.TheVariants as ex
use Rattle.wasm_valid_bodies.specs.Typing.{WellTyped, Gives}
use Rattle.wasm_valid.specs.Prelude.{IsValid, body_context}
use Rattle.index_remap_proof.specs.Indices.{Indices, FuncNamesOnly, ExportNamesOnly, TreeNamesOnly}
use Rattle.dce_spec.specs.Swept.{kept_tree, swept}
use Rattle.dce_proof.specs.UnreachableFunction.{all_but, IsUnreachable, removed}

-- The function type without parameters and results.
abbrev nothing : FuncType
nothing = record { params = []; results = [] }

-- A function that only calls the function at this index.
abbrev calls : ℕ → Func
calls func = record { ty = 0; locals = []; body = Call func ∷ [] }

abbrev empty : Func
empty = record { ty = 0; locals = []; body = [] }

abbrev exported : ℕ → Export
exported func = record { name = 102 ∷ []; desc = ex.Func func }

-- The first function calls the second, and the second, which is exported, calls the third. Nothing
-- names the first.
abbrev three : Module
three = record {
  types = nothing ∷ [];
  imports = [];
  funcs = calls 1 ∷ calls 2 ∷ empty ∷ [];
  tables = [];
  mems = [];
  globals = [];
  exports = exported 1 ∷ [];
  start = None;
  elems = [];
  datas = [];
}

first_is_typed : WellTyped (body_context three (calls 1) nothing) (Call 1 ∷ []) [] []
unfolding out-Instr denote.Hole.Carrier.out
first_is_typed = ([], ([], (Gives [] [], refl, ([], [], refl, tt, refl)), refl), tt)

second_is_typed : WellTyped (body_context three (calls 2) nothing) (Call 2 ∷ []) [] []
unfolding out-Instr denote.Hole.Carrier.out
second_is_typed = ([], ([], (Gives [] [], refl, ([], [], refl, tt, refl)), refl), tt)

-- The evidence is listed in this order: functions, export, bodies of functions.
three_is_valid : IsValid three
three_is_valid = (
  (calls 1, refl, omega arith),
  (
    (calls 2, refl, omega arith),
    (
      (empty, refl, omega arith),
      ((exported 1, refl, omega arith, λ c. absurd (let l = c.1 in omega (arith, l))), ((calls 1, nothing, refl, refl, first_is_typed), ((calls 2, nothing, refl, refl, second_is_typed), ((empty, nothing, refl, refl, ([], refl, tt)), tt)))),
    ),
  ),
)

-- What is left without the first function names only type 0 and the other two functions.
names_these : (kept : Indices) → IsTrue (kept Types 0) → IsTrue (kept Functions 1) → IsTrue (kept Functions 2) → TreeNamesOnly kept (kept_tree (all_but 0 three) three)
unfolding out-Instr denote.Hole.Carrier.out
names_these kept type second third = record {
  imports = λ i x h. cc;
  funcs = funcs;
  globals = λ i x h. cc;
  exports = exports;
  start = λ f h. cc;
  items = λ i p a e h k. cc;
  elem_modes = λ i a h. cc;
  data_modes = λ i a h. cc;
}
  where
    funcs : (i : ℕ) (f : Func) → slice_get (calls 2 ∷ empty ∷ []) i ≡ Some f → FuncNamesOnly kept f
    funcs zero f h = rw (← same_Some _ _ h) (type, ((third, tt), tt))
    funcs (suc zero) f h = rw (← same_Some _ _ h) (type, tt)
    funcs (suc (suc i)) f h = cc

    exports : (i : ℕ) (e : Export) → slice_get (exported 1 ∷ []) i ≡ Some e → ExportNamesOnly kept e.desc
    exports zero e h = rw (← same_Some _ _ h) second
    exports (suc i) e h = cc

first_is_unreachable : IsUnreachable 0 three
first_is_unreachable = record { not_named = names_these _ refl refl refl; all_exist = names_these _ refl refl refl }

-- The indices of the functions behind the removed one go down by one, also in the export.
indices_go_down : removed 0 three ≡ record three { funcs = calls 1 ∷ empty ∷ []; exports = exported 0 ∷ [] }
unfolding swept
indices_go_down = search (the_lemmas)

-- The third function is not unreachable, because the second calls it.
third_is_reachable : IsUnreachable 2 three → ⊥
unfolding out-Instr denote.Hole.Carrier.out
third_is_reachable h = let k = h.not_named.funcs 1 (calls 2) refl in let z : false ≡ true = k.1.0.0 in cc
