-- The numbers of the primary module are in range: they are those of the module, or small ones that
-- the split adds.
use Rattle.base_lists.proofs.Common.{◌≡◌, ◌∙◌, ap, sym, subst, refl, ℕ, suc, ◌+◌, ◌≤◌, ◌<◌, ◌^◌, Bool, List, [], ◌∷◌, drop, map, length, Option, Some, None, option_and_then, slice_get, arith, IsUtf8, option_map_or, every_at, append_right, map_at}
use Rattle.base_lists.proofs.Every.{every_from, every_map, every_append}
use Rattle.base_lists.specs.Every.{Every}
use Rattle.base_kept.specs.Kept.{kept}
use Rattle.base_kept.proofs.Laws.{kept_from}
use Rattle.wasm_tree_spec.specs.Prelude.{Space, Functions, Tables, Memories, Globals, FuncType, TableType, Export, ExportDesc, Func, Module, IsBounded, param_count, funcs_of, imported_funcs, type_of_func}
use Rattle.wasm_tree.specs.declared.module.ExportDesc.TheVariants as ex
use Rattle.module_limits.specs.Counts.{CountsAreWithinWhereNoneIsOver, over_limit}
use Rattle.index_remap.specs.Prelude.{renumbered_tree}
use Rattle.wasm_write_proof.specs.Ranges.{InRange, LimitsInRange}
use Rattle.wasm_valid_proof.specs.Numbers.{ElemNumbersInRange, FuncNumbersInRange, ImportNumbersInRange, NumbersInRange}
use Rattle.split_spec.specs.Prelude.{call_through_slot, in_slots, params_of, place_among, slot_segment, slot_table, slot_table_type, exports_for_secondary, from_primary, name_from_primary, added_exports, left_marks, placeholder_imports, primary_func, primary_funcs, primary_map, primary_tree}
use Rattle.split_spec.specs.Primary.{primary_with}
use Rattle.split_proof.proofs.ModuleCounts.{imports_many}
use Rattle.split_proof.proofs.SharedFunctions.{shared_within}
use Rattle.split_proof.proofs.CallsInRange.{calls_numbers, slot_below, through_slot_numbers, trampoline_numbers}
use Rattle.split_proof.proofs.NamesInRange.{decimal_in, name_in, slots_name_in}
use Rattle.split_proof.proofs.SlotTableInRange.{NumberLaws, entities_few, slot_limits_in, slots_from}

-- ---- parameters ----

-- The parameters of a defined function are counted among its locals.
params_few : (m : Module) → IsBounded m → (p : ℕ) (f : Func) → slice_get m.funcs p ≡ Some f → length (params_of m (length (imported_funcs m.imports) + p)) < 2 ^ 32
params_few m few p f at =
    let k = length (imported_funcs m.imports) in
    let has : slice_get (funcs_of m) (k + p) ≡ Some f.ty = append_right (imported_funcs m.imports) (map (λ f. f.ty) m.funcs) p ∙ map_at (λ f. f.ty) m.funcs p f at in
    let type : type_of_func m (k + p) ≡ slice_get m.types f.ty = ap (option_and_then (slice_get m.types)) has in
    subst (λ n. n < 2 ^ 32) (sym (ap (λ o. length (option_map_or (λ (t : FuncType). t.params) o [])) type ∙ counted (slice_get m.types f.ty)))
    (let all = few.locals p f at in omega (arith, all))
  where
    counted : (o : Option FuncType) → length (option_map_or (λ (t : FuncType). t.params) o []) ≡ param_count o
    counted None = refl
    counted (Some t) = refl

module _ (namespace : ℕ → List ℕ) (prefix : List ℕ) (m : Module) (moved : List ℕ) (namespaces : (slot : ℕ) → IsUtf8 (namespace slot)) (utf8 : IsUtf8 prefix)
    (numbers : NumbersInRange m) (few : IsBounded m) (most : length moved ≤ 2 ^ 31)
  where
    -- ---- imports ----

    placeholders_in : (slot : ℕ) (fs : List ℕ) → slot + length fs ≤ 2 ^ 31 → Every ImportNumbersInRange (placeholder_imports namespace m slot fs)
    placeholders_in slot [] lt = tt
    placeholders_in slot (f ∷ fs) lt = ((namespaces slot, decimal_in slot (omega (arith, lt)), tt), placeholders_in (suc slot) fs (omega (arith, lt)))

    -- ---- functions ----

    func_in : (o : Option ℕ) (i : ℕ) (f : Func) → ((slot : ℕ) → o ≡ Some slot → slot < 2 ^ 31) → length (params_of m i) < 2 ^ 32 → FuncNumbersInRange f →
        FuncNumbersInRange (primary_func m moved o i f)
    func_in None i f below params h = (h.0, calls_numbers (call_through_slot m moved) (through_slot_numbers m moved most) f.body h.1)
    func_in (Some slot) i f below params h = (tt, trampoline_numbers m i slot (below slot refl) params)

    place_below : (i slot : ℕ) → place_among moved i ≡ Some slot → slot < 2 ^ 31
    place_below i slot e = let lt = slot_below moved i slot e in omega (arith, lt, most)

    funcs_in : (first : ℕ) (fs : List Func) → ((p : ℕ) (f : Func) → slice_get fs p ≡ Some f → length (params_of m (first + p)) < 2 ^ 32) → Every FuncNumbersInRange fs →
        Every FuncNumbersInRange (primary_funcs m moved first fs)
    funcs_in first [] params h = tt
    funcs_in first (f ∷ fs) params h =
        let here : first + 0 ≡ first = omega arith in (
          func_in (place_among moved first) first f (place_below first) (subst (λ n. length (params_of m n) < 2 ^ 32) here (params 0 f refl)) h.0,
          funcs_in (suc first) fs (λ p g at. let next : first + suc p ≡ suc first + p = omega arith in subst (λ n. length (params_of m n) < 2 ^ 32) next (params (suc p) g at)) h.1,
        )

    abbrev all_funcs : List Func
    all_funcs = primary_funcs m moved (length (imported_funcs m.imports)) m.funcs

    abbrev marks : List Bool
    marks = drop (length (imported_funcs m.imports)) (left_marks m moved)

    left_in : Every FuncNumbersInRange all_funcs → Every FuncNumbersInRange (kept marks all_funcs)
    left_in h = every_from FuncNumbersInRange (kept marks all_funcs) (λ n f at. let k = kept_from marks all_funcs n f at in every_at FuncNumbersInRange all_funcs k.place f h k.is)

    -- ---- exports ----

    abbrev Named : Export → Type 0
    Named e = IsUtf8 e.name

    exports_in : (space : Space) (desc : ℕ → ExportDesc) → Every Named (exports_for_secondary prefix space desc (from_primary m moved moved space))
    exports_in space desc =
        let indices = from_primary m moved moved space in
        let count = entities_few m few space in
        every_map (λ (i : ℕ). i < 2 ^ 32) Named (λ i. record { name = name_from_primary prefix space i; desc = desc i }) (name_in prefix utf8 space) indices
        (every_from (λ (i : ℕ). i < 2 ^ 32) indices (λ n i at. let within = (shared_within m moved moved space n i at).0 in omega (arith, within, count)))

    added_in : Every Named (added_exports prefix m moved)
    added_in =
        every_append Named _ _ (exports_in Functions ex.Func)
        (every_append Named _ _ (exports_in Tables ex.Table)
        (every_append Named _ _ (exports_in Memories ex.Memory)
        (every_append Named _ _ (exports_in Globals ex.Global) (slots_name_in prefix utf8, tt))))

    -- ---- the module ----

    tree_numbers : NumbersInRange (primary_tree namespace prefix m moved)
    tree_numbers =
        let k = length (imported_funcs m.imports) in
        let placeholders = placeholders_in 0 moved (omega (arith, most)) in
        let slots = slot_limits_in (length moved) (omega (arith, most)) in
        let segment = slots_from (slot_table m) 0 (in_slots m (length moved)) (omega arith) in
        record {
          imports = every_append ImportNumbersInRange m.imports (placeholder_imports namespace m 0 moved) numbers.imports placeholders;
          funcs = left_in (funcs_in k m.funcs (params_few m few) numbers.funcs);
          tables = every_append (λ (t : TableType). LimitsInRange t.limits) m.tables (slot_table_type (length moved) ∷ []) numbers.tables (slots, tt);
          mems = numbers.mems;
          globals = numbers.globals;
          exports = every_append Named m.exports (added_exports prefix m moved) numbers.exports added_in;
          elems = every_append ElemNumbersInRange m.elems (slot_segment (slot_table m) 0 (in_slots m (length moved)) ∷ []) numbers.elems (segment, tt);
          datas = numbers.datas;
        }

pub primary_numbers : NumberLaws → (namespace : ℕ → List ℕ) (prefix : List ℕ) (m : Module) (moved : List ℕ) → ((slot : ℕ) → IsUtf8 (namespace slot)) → IsUtf8 prefix →
    InRange m → IsBounded m → length moved ≤ 2 ^ 31 → NumbersInRange (primary_with namespace prefix m moved)
unfolding primary_with
primary_numbers laws namespace prefix m moved namespaces utf8 h few most =
    let t = primary_tree namespace prefix m moved in
    let numbers = tree_numbers namespace prefix m moved namespaces utf8 (laws.own m h) few most in
    laws.declared (renumbered_tree (primary_map m moved) t) (laws.renumbered (primary_map m moved) t numbers)

-- ---- how many move ----

-- The number of moved functions is within the limit of imports, as one placeholder is imported for
-- each.
pub few_move : CountsAreWithinWhereNoneIsOver → (namespace : ℕ → List ℕ) (prefix : List ℕ) (m : Module) (moved : List ℕ) → over_limit (primary_with namespace prefix m moved) ≡ None →
    length moved < 2 ^ 31
few_move within namespace prefix m moved none =
    let count = (within (primary_with namespace prefix m moved) none).imports in
    let many = imports_many namespace prefix m moved in
    omega (arith, count, many)
