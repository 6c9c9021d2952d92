-- The function that calls several functions.
use Rattle.base_lists.proofs.Common.{◌≡◌, ◌∙◌, ap, ℕ, ◌≤◌, List, [], ◌∷◌, length, map, arith, unwrap_or}
use Rattle.wasm_tree_spec.specs.Prelude.{ValType, FuncType, LocalGroup, Func, Instr, Call, same_func_type}
use Rattle.wasm_meaning.specs.Prelude.{Part, first_place}
use Rattle.merge_spec.specs.Prelude.{merged_types, nullary, start_calls}
use Rattle.merge_spec.specs.Merged.{place_of_type}

abbrev function : ℕ → List LocalGroup → List Instr → Func
function ty locals body = record { ty = ty; locals = locals; body = body }

abbrev place_in : List FuncType → List ValType → List ValType → ℕ
place_in ts ps rs = unwrap_or (first_place (same_func_type (record { params = ps; results = rs })) ts 0) 0

nullary_place : (ps : List Part) (ts : List FuncType) (params results : List ValType) → ts ≡ merged_types ps → params ≡ [] → results ≡ [] → place_in ts params results ≡ place_of_type ps nullary
unfolding place_of_type
nullary_place ps ts params results same no_params no_results = ap (λ t. place_in t params results) same ∙ ap (λ x. place_in (merged_types ps) x results) no_params ∙ ap (place_in (merged_types ps) []) no_results

pub calling_is : (ps : List Part) (fs : List ℕ) (ts : List FuncType) (params results : List ValType) (ty : ℕ) (locals : List LocalGroup) (body : List Instr) →
    2 ≤ length fs → ts ≡ merged_types ps → params ≡ [] → results ≡ [] → ty ≡ place_in ts params results → locals ≡ [] → body ≡ map Call fs → function ty locals body ∷ [] ≡ start_calls ps fs
calling_is ps [] ts params results ty locals body many same no_params no_results at none calls = absurd (omega arith)
calling_is ps (f ∷ []) ts params results ty locals body many same no_params no_results at none calls = absurd (omega arith)
calling_is ps (f ∷ g ∷ fs) ts params results ty locals body many same no_params no_results at none calls =
    ap (λ k. function k locals body ∷ []) (at ∙ nullary_place ps ts params results same no_params no_results)
    ∙ ap (λ ls. function (place_of_type ps nullary) ls body ∷ []) none ∙ ap (λ b. function (place_of_type ps nullary) [] b ∷ []) calls
