-- The tree of the secondary module is that of the definitions of a split.
use Rattle.base_lists.proofs.Common.{◌≡◌, ℕ, ◌<◌, ◌^◌, ◌+◌, ◌-◌, true, false, slice_get, arith, List, [], ◌∷◌, map, length, None, ap, ap₂, ◌∙◌, fun_ext, nat_le, nat_lt, leb-true, ltb-true, left_true, right_true, length-append, length-map, slice_get_there, every_at, all_counted}
use Rattle.base_lists.specs.Every.{Every}
use Rattle.base_lists.specs.Places.{numbers}
use Rattle.wasm_tree_spec.specs.Prelude.{IsBounded, funcs_of, imported_funcs, globals_of, memories_of, tables_of, ElemSeg, Func, Import, Module, Functions, Tables, Memories, Globals, FuncType}
use Rattle.wasm_tree.specs.declared.module.ImportDesc.TheVariants as im
use Rattle.split_spec.specs.declared.names.SplitNames.{SplitNames}
use Rattle.split_spec.specs.Prelude.{secondary_func, secondary_imports, secondary_tree, defined_at, slot_segment, slot_table}
use Rattle.split_plan.specs.PlannedMoves.{body_uses_segment}
use Rattle.split_plan.specs.NamedFunctions.{is_defined}
use Rattle.split_proof.specs.Premises.{CanMove}
use Rattle.split_slots.specs.declared.call_replacement.Calls.{Calls}
use Rattle.split_slots.specs.declared.named_entities.Marks.{Marks}
use Rattle.split_slots.specs.DividedDefinitions.{own_func}
use Rattle.split_slots.specs.SurveysAndDrafts.{FewFuncs}
use Rattle.split_slots.proofs.CallsAndFunctions.{SecondaryCalls, own_func_is}
use Rattle.split_slots.proofs.PlannedFunctions.{many_marks}
use Rattle.split_slots.proofs.SharedEntities.{AreMarks}

pub own_funcs_are : (m : Module) (moved : List ℕ) → Every (λ f. f < length (funcs_of m)) moved → (c : Calls) → SecondaryCalls m moved c → (own : List Func) → own ≡ defined_at m moved →
    map (own_func c) own ≡ map (secondary_func m moved moved) (defined_at m moved)
own_funcs_are m moved there c is own e = ap (map (own_func c)) e ∙ ap (λ f. map f (defined_at m moved)) (fun_ext (own_func_is m moved there c is))

pub secondary_tree_is : (names : SplitNames) (m : Module) (moved : List ℕ) (types : List FuncType) (imports : List Import) (funcs : List Func) (table base count : ℕ) →
    types ≡ m.types → imports ≡ secondary_imports names m moved moved → funcs ≡ map (secondary_func m moved moved) (defined_at m moved) → table ≡ slot_table m → base ≡ length (funcs_of m) →
    count ≡ length moved →
    record { types = types; imports = imports; funcs = funcs; tables = []; mems = []; globals = []; exports = []; start = None; elems = slot_segment table 0 (numbers base count) ∷ []; datas = [] } ≡ secondary_tree names m moved moved 0
secondary_tree_is names m moved types imports funcs table base count ts is fs tab bas cou =
    ap₂ (λ t i. with_all t i funcs (slot_segment table 0 (numbers base count))) ts is
    ∙ ap₂ (λ f t. with_all m.types (secondary_imports names m moved moved) f (slot_segment t 0 (numbers base count))) fs tab
    ∙ ap₂ (λ b k. with_all m.types (secondary_imports names m moved moved) (map (secondary_func m moved moved) (defined_at m moved)) (slot_segment (slot_table m) 0 (numbers b k))) bas cou
  where
    with_all : List FuncType → List Import → List Func → ElemSeg → Module
    with_all t i f e = record { types = t; imports = i; funcs = f; tables = []; mems = []; globals = []; exports = []; start = None; elems = e ∷ []; datas = [] }

-- The numbers of marks of each index space are within u32.
pub record FewMarks (m : Module) (moved : List ℕ) (marks : Marks) : Type 0 where
  pub funcs : length marks.funcs.items + length moved < 2 ^ 32
  pub tables : length marks.tables.items < 2 ^ 32
  pub mems : length marks.mems.items < 2 ^ 32
  pub globals : length marks.globals.items < 2 ^ 32

-- The marks of a module whose counts are bounded are within u32.
pub few_marks : (m : Module) (moved : List ℕ) (marks : Marks) → IsBounded m → FewFuncs m moved → AreMarks m moved marks → FewMarks m moved marks
few_marks m moved marks bounded few are =
    let funcs = ap length (are Functions) ∙ many_marks m moved moved Functions ∙ length-map (funcs_of m) im.Func in
    let tables = ap length (are Tables) ∙ many_marks m moved moved Tables ∙ length-map (tables_of m) im.Table in
    let mems = ap length (are Memories) ∙ many_marks m moved moved Memories ∙ length-map (memories_of m) im.Memory in
    let globals = ap length (are Globals) ∙ many_marks m moved moved Globals ∙ length-map (globals_of m) im.Global in
    let b1 = bounded.tables in
    let b2 = bounded.memories in
    let b3 = bounded.globals in
    record { funcs = omega (arith, few, funcs); tables = omega (arith, tables, b1); mems = omega (arith, mems, b2); globals = omega (arith, globals, b3) }

-- Each moved function has a definition.
pub own_many : (m : Module) (moved : List ℕ) → CanMove m moved → length (defined_at m moved) ≡ length moved
own_many m moved can =
    all_counted (λ func. slice_get m.funcs (func - length (imported_funcs m.imports))) moved (λ p f at.
    let h = every_at (λ func. (is_defined m func ≡ true) × (body_uses_segment m func ≡ false)) moved p f can at in
    let k = length (imported_funcs m.imports) in
    let from = leb-true k f (left_true (nat_le k f) (nat_lt f (length (funcs_of m))) h.0) in
    let to = ltb-true f (length (funcs_of m)) (right_true (nat_le k f) (nat_lt f (length (funcs_of m))) h.0) in
    let all = length-append (imported_funcs m.imports) (map (λ f. f.ty) m.funcs) in
    let types = length-map m.funcs (λ f. f.ty) in
    slice_get_there m.funcs (f - k) (omega (arith, from, to, all, types)))
