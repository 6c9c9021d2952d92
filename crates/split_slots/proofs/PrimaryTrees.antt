-- The tree of the primary module, and the moved functions, are those of the definitions of a split.
use Rattle.base_lists.proofs.Common.{◌≡◌, ℕ, suc, ◌+◌, ◌<◌, ◌≤◌, ◌^◌, arith, Bool, List, [], ◌∷◌, ◌++◌, drop, map, length, is_some, Option, Some, None, refl, sym, ap, ap₂, ◌∙◌, slice_get, option_map_or, IsStrictlyIncreasing, length-append, length-map, every_at, length-numbers, append_right, map_at}
use Rattle.base_lists.proofs.Common.{place_is}
use Rattle.base_kept.specs.Kept.{kept}
use Rattle.base_lists.specs.Every.{Every}
use Rattle.base_lists.specs.Places.{numbers}
use Rattle.wasm_tree_spec.specs.Prelude.{FuncType, ElemSeg, Export, Func, Import, Module, IsBounded, declared_count, param_count, funcs_of, imported_funcs}
use Rattle.split_proof.specs.Premises.{CanMove}
use Rattle.split_spec.specs.Prelude.{added_exports, is_left, left_marks, placeholder_imports, primary_funcs, primary_tree, defined_at, place_among, slot_segment, slot_table, slot_table_type}
use Rattle.split_slots.specs.declared.call_replacement.Calls.{Calls}
use Rattle.split_slots.specs.SlotLookup.{slot_at}
use Rattle.split_slots.specs.DividedDefinitions.{EachFewParams, own_funcs, parted_funcs}
use Rattle.split_slots.specs.PlaceholderList.{placeholders_of}
use Rattle.split_slots.specs.InstructionReplacements.{FewSlots}
use Rattle.split_slots.specs.SurveysAndDrafts.{FewFuncs}
use Rattle.split_slots.proofs.CallsAndFunctions.{PrimaryCalls, funcs_are, place_less}
use Rattle.split_slots.proofs.ReferencesOutsideBodies.{all_there}
use Rattle.split_slots.proofs.MovedDefinitions.{Ascends, Tells, ascends, own_are}
use Rattle.split_slots.proofs.AddedPlaceholders.{placeholders_are}
use Rattle.split_slots.proofs.PlannedFunctions.{all_defined}
use Rattle.split_slots.proofs.SharedEntities.{slots_for}
use Rattle.split_slots.proofs.SlotTables.{has_place, table_tells}

few_of : (types : List FuncType) (f : Func) (o : Option FuncType) → param_count o + declared_count f.locals < 2 ^ 32 → length (option_map_or (λ t. t.params) o []) ≤ 2 ^ 32
few_of types f None lt = omega arith
few_of types f (Some ty) lt = omega (arith, lt)

-- A u32 counts the parameters of each function.
pub few_params : (m : Module) → IsBounded m → EachFewParams m.types m.funcs
few_params m bounded i f at = few_of m.types f (slice_get m.types f.ty) (bounded.locals i f at)

pub ascend_from : (k : ℕ) (moved : List ℕ) → Every (λ f. k ≤ f) moved → IsStrictlyIncreasing moved → Ascends k moved
ascend_from k [] le inc = tt
ascend_from k (f ∷ fs) le inc = ascends k f fs le.0 inc

pub all_func_space : (m : Module) → length (imported_funcs m.imports) + length m.funcs ≡ length (funcs_of m)
all_func_space m = let all = length-append (imported_funcs m.imports) (map (λ f. f.ty) m.funcs) in let types = length-map m.funcs (λ f. f.ty) in omega (arith, all, types)

module _ (m : Module) (moved : List ℕ) (can : CanMove m moved) (c : Calls) (slots : c.slots.now ≡ slots_for m moved) where
  slot_is : (f : ℕ) → slot_at c.slots.now f ≡ place_among moved f
  slot_is f = ap (λ ss. slot_at ss f) slots ∙ table_tells moved (length (funcs_of m)) (all_there m moved can) f

  pub few_slots : FewFuncs m moved → c.base ≡ length (funcs_of m) → c.types.now ≡ funcs_of m → FewSlots c
  few_slots few base types f slot at =
      let place = sym (slot_is f) ∙ at in
      let less = place_less f moved 0 slot place in
      let i = place_is f moved 0 slot place in
      let there = every_at (λ g. g < length (funcs_of m)) moved i.0 f (all_there m moved can) i.2 in
      let many = ap length types in
      (omega (arith, few, less), omega (arith, few, less, base), omega (arith, there, many), omega (arith, there, base))

  tells : Tells c (length (imported_funcs m.imports)) moved
  tells f le = ap is_some (slot_is f) ∙ has_place moved f 0

  pub moved_are : IsStrictlyIncreasing moved → own_funcs c (length (imported_funcs m.imports)) m.funcs ≡ defined_at m moved
  moved_are inc = own_are c (length (imported_funcs m.imports)) m.funcs moved (ascend_from (length (imported_funcs m.imports)) moved (all_defined m moved can) inc) tells

-- The functions that are left in the primary module are those of its definition.
pub left_funcs_are : (m : Module) (moved : List ℕ) → CanMove m moved → (c : Calls) → PrimaryCalls m moved c → (left : List Bool) → left ≡ left_marks m moved →
    kept (drop (length (imported_funcs m.imports)) left) (parted_funcs m.types c (length (imported_funcs m.imports)) m.funcs)
    ≡ kept (drop (length (imported_funcs m.imports)) (left_marks m moved)) (primary_funcs m moved (length (imported_funcs m.imports)) m.funcs)
left_funcs_are m moved can c is left left_is =
    ap₂ (λ bs fs. kept (drop (length (imported_funcs m.imports)) bs) fs) left_is
    (funcs_are m moved (all_there m moved can) c is (length (imported_funcs m.imports)) m.funcs
    (λ i f at. append_right (imported_funcs m.imports) (map (λ g. g.ty) m.funcs) i ∙ map_at (λ g. g.ty) m.funcs i f at))

-- The module with the functions that are left and the added parts is the primary module.
pub tree_is : (namespace prefix : List ℕ) (m : Module) (moved : List ℕ) (types : List ℕ) (table base : ℕ) (funcs : List Func) (added : List Export) →
    types ≡ funcs_of m → table ≡ slot_table m → base ≡ length (funcs_of m) → added ≡ added_exports prefix m moved →
    funcs ≡ kept (drop (length (imported_funcs m.imports)) (left_marks m moved)) (primary_funcs m moved (length (imported_funcs m.imports)) m.funcs) →
    record m {
      imports = m.imports ++ placeholders_of namespace types 0 moved;
      funcs = funcs;
      tables = m.tables ++ slot_table_type (length moved) ∷ [];
      exports = m.exports ++ added;
      elems = m.elems ++ slot_segment table 0 (numbers base (length moved)) ∷ [];
    } ≡ primary_tree (λ slot. namespace) prefix m moved
tree_is namespace prefix m moved types table base funcs added ts tab bas add fun =
    ap₂ (λ i f. with_parts i f added (slot_segment table 0 (numbers base (length moved)))) (ap (λ xs. placeholders_of namespace xs 0 moved) ts ∙ placeholders_are namespace m 0 moved) fun
    ∙ ap₂ (λ es e. with_parts (placeholder_imports (λ slot. namespace) m 0 moved) left es e) add (ap₂ (λ t b. slot_segment t 0 (numbers b (length moved))) tab bas)
  where
    left : List Func
    left = kept (drop (length (imported_funcs m.imports)) (left_marks m moved)) (primary_funcs m moved (length (imported_funcs m.imports)) m.funcs)

    with_parts : List Import → List Func → List Export → ElemSeg → Module
    with_parts i f es e = record m { imports = m.imports ++ i; funcs = f; tables = m.tables ++ slot_table_type (length moved) ∷ []; exports = m.exports ++ es; elems = m.elems ++ e ∷ [] }

pub parted_length : (types : List FuncType) (c : Calls) (first : ℕ) (fs : List Func) → length (parted_funcs types c first fs) ≡ length fs
parted_length types c first [] = refl
parted_length types c first (f ∷ fs) = ap suc (parted_length types c (suc first) fs)

pub left_many : (m : Module) (moved : List ℕ) → length (left_marks m moved) ≡ length (funcs_of m)
left_many m moved = length-map (numbers 0 (length (funcs_of m))) (is_left m moved) ∙ length-numbers 0 (length (funcs_of m))
