-- The numbers of a secondary module are in range: they are those of the module, or small ones that
-- the split adds.
use Rattle.base_lists.proofs.Common.{◌≡◌, ℕ, ◌+◌, ◌-◌, ◌≤◌, ◌<◌, ◌^◌, List, length, Option, Some, None, true, slice_get, subst, arith, IsUtf8, option_map, slice_get_within, every_at, option_map_is, chosen_from}
use Rattle.base_lists.proofs.Every.{every_of, every_from, every_map, every_some, every_append}
use Rattle.std.proofs.Common.{filter_map}
use Rattle.base_lists.specs.Every.{Every}
use Rattle.wasm_tree_spec.specs.Prelude.{Space, Types, Functions, Tables, Memories, Globals, ElementSegments, DataSegments, Limits, TableType, Import, ImportDesc, Func, Module, IsBounded, funcs_of, globals_of, imported_funcs, imported_memories, imported_tables, memories_of, memory_of, table_of}
use Rattle.wasm_tree_spec.specs.Prelude.{tables_of}
use Rattle.wasm_tree.specs.declared.module.ImportDesc.TheVariants as im
use Rattle.index_remap.specs.Prelude.{renumbered_tree}
use Rattle.wasm_write_proof.specs.Ranges.{all_numbers_in, InRange, LimitsInRange}
use Rattle.wasm_valid_proof.specs.Numbers.{FuncNumbersInRange, ImportLimitsInRange, ImportNumbersInRange, NumbersInRange}
use Rattle.split_spec.specs.declared.names.SplitNames.{SplitNames}
use Rattle.split_spec.specs.Prelude.{defined_at, in_slots, place_among, slot_table, slot_table_type, entities, from_primary, imports_from_primary, name_from_primary, slots_name, secondary_call, secondary_call_by_place, secondary_func, secondary_imports, secondary_map, secondary_tree}
use Rattle.split_spec.specs.Secondary.{secondary_with}
use Rattle.split_proof.proofs.CallsInRange.{call_numbers, calls_numbers, through_slot_numbers}
use Rattle.split_proof.proofs.NamesInRange.{name_in, slots_name_in}
use Rattle.split_proof.proofs.SlotTableInRange.{NumberLaws, entities_few, slot_limits_in, slots_from}

-- ---- what the module has in each index space ----

-- A property of the elements of a list gives a property of the values that are chosen from them.
every_chosen : {A B : Type 0} (P : A → Type 0) (Q : B → Type 0) (f : A → Option B) → ((x : A) (y : B) → P x → f x ≡ Some y → Q y) → (xs : List A) → Every P xs → Every Q (filter_map f xs)
every_chosen P Q f keep xs h = every_from Q (filter_map f xs) (λ n y at. let c = chosen_from f xs n y at in keep c.0 y (every_at P xs c.1.0 c.0 h c.1.1) c.2)

table_limits : (d : ImportDesc) (t : TableType) → ImportLimitsInRange d → table_of d ≡ Some t → LimitsInRange t.limits
table_limits (im.Func ty) t h e = absurd (let k = e in cc)
table_limits (im.Table u) t h e = let same : u ≡ t = cc in subst (λ (t : TableType). LimitsInRange t.limits) same h
table_limits (im.Memory l) t h e = absurd (let k = e in cc)
table_limits (im.Global g) t h e = absurd (let k = e in cc)

memory_limits : (d : ImportDesc) (l : Limits) → ImportLimitsInRange d → memory_of d ≡ Some l → LimitsInRange l
memory_limits (im.Func ty) l h e = absurd (let k = e in cc)
memory_limits (im.Table t) l h e = absurd (let k = e in cc)
memory_limits (im.Memory k) l h e = let same : k ≡ l = cc in subst LimitsInRange same h
memory_limits (im.Global g) l h e = absurd (let k = e in cc)

module _ (m : Module) (numbers : NumbersInRange m) where
  abbrev TableIn : TableType → Type 0
  TableIn t = LimitsInRange t.limits

  tables_in : Every TableIn (tables_of m)
  tables_in =
      let imported = every_chosen ImportNumbersInRange TableIn (λ (i : Import). table_of i.desc) (λ i t h e. table_limits i.desc t h.2 e) m.imports numbers.imports in
      every_append TableIn (imported_tables m.imports) m.tables imported numbers.tables

  memories_in : Every LimitsInRange (memories_of m)
  memories_in =
      let imported = every_chosen ImportNumbersInRange LimitsInRange (λ (i : Import). memory_of i.desc) (λ i l h e. memory_limits i.desc l h.2 e) m.imports numbers.imports in
      every_append LimitsInRange (imported_memories m.imports) m.mems imported numbers.mems

  entities_in : (space : Space) → Every ImportLimitsInRange (entities m space)
  entities_in Functions = every_map (λ (ty : ℕ). Unit {0}) ImportLimitsInRange im.Func (λ ty u. tt) (funcs_of m) (every_of (λ (ty : ℕ). Unit {0}) (funcs_of m) (λ ty. tt))
  entities_in Tables = every_map TableIn ImportLimitsInRange im.Table (λ t h. h) (tables_of m) tables_in
  entities_in Memories = every_map LimitsInRange ImportLimitsInRange im.Memory (λ l h. h) (memories_of m) memories_in
  entities_in Globals = every_map (λ g. Unit {0}) ImportLimitsInRange im.Global (λ g u. tt) (globals_of m) (every_of (λ g. Unit {0}) (globals_of m) (λ g. tt))
  entities_in Types = tt
  entities_in ElementSegments = tt
  entities_in DataSegments = tt

module _ (names : SplitNames) (m : Module) (moved own : List ℕ) (before : ℕ) (namespace_in : IsUtf8 names.import_namespace) (prefix_in : IsUtf8 names.export_prefix)
    (numbers : NumbersInRange m) (few : IsBounded m) (most : length moved ≤ 2 ^ 31) (first : before < 2 ^ 31)
  where
    -- ---- imports ----

    abbrev one_import : Space → ℕ → ImportDesc → Import
    one_import space i d = record { «module» = names.import_namespace; field = name_from_primary names.export_prefix space i; desc = d }

    import_in : (space : Space) (i : ℕ) (x : Import) → option_map (one_import space i) (slice_get (entities m space) i) ≡ Some x → ImportNumbersInRange x
    import_in space i x e =
        let d = option_map_is (one_import space i) (slice_get (entities m space) i) x e in
        let within = slice_get_within (entities m space) i d.0 d.1 in
        let count = entities_few m few space in
        let name = name_in names.export_prefix prefix_in space i (omega (arith, within, count)) in
        subst ImportNumbersInRange d.2 (namespace_in, name, every_at ImportLimitsInRange (entities m space) i d.0 (entities_in m numbers space) d.1)

    imports_in : (space : Space) → Every ImportNumbersInRange (imports_from_primary names.import_namespace names.export_prefix m space (from_primary m moved own space))
    imports_in space = every_some ImportNumbersInRange (λ i. option_map (one_import space i) (slice_get (entities m space) i)) (import_in space) (from_primary m moved own space)

    slots_in : ImportNumbersInRange (record { «module» = names.import_namespace; field = slots_name names.export_prefix; desc = im.Table (slot_table_type (length moved)) })
    slots_in = (namespace_in, slots_name_in names.export_prefix prefix_in, slot_limits_in (length moved) (omega (arith, most)))

    all_imports_in : Every ImportNumbersInRange (secondary_imports names m moved own)
    all_imports_in =
        every_append ImportNumbersInRange _ _ (imports_in Functions)
        (every_append ImportNumbersInRange _ _ (imports_in Tables) (slots_in, every_append ImportNumbersInRange _ _ (imports_in Memories) (imports_in Globals)))

    -- ---- functions ----

    call_in : (f : ℕ) → all_numbers_in (secondary_call m moved own f) ≡ true
    call_in f = by (place_among own f)
      where
        by : (o : Option ℕ) → all_numbers_in (secondary_call_by_place m moved o f) ≡ true
        by None = through_slot_numbers m moved most f
        by (Some place) = call_numbers (length (funcs_of m) + place)

    func_in : (f : Func) → FuncNumbersInRange f → FuncNumbersInRange (secondary_func m moved own f)
    func_in f h = (h.0, calls_numbers (secondary_call m moved own) call_in f.body h.1)

    abbrev definition : ℕ → Option Func
    definition func = slice_get m.funcs (func - length (imported_funcs m.imports))

    own_in : Every FuncNumbersInRange (defined_at m own)
    own_in = every_some FuncNumbersInRange definition (λ func f at. every_at FuncNumbersInRange m.funcs (func - length (imported_funcs m.imports)) f numbers.funcs at) own

    -- ---- the module ----

    tree_numbers : NumbersInRange (secondary_tree names m moved own before)
    tree_numbers = record {
      imports = all_imports_in;
      funcs = every_map FuncNumbersInRange FuncNumbersInRange (secondary_func m moved own) func_in (defined_at m own) own_in;
      tables = tt;
      mems = tt;
      globals = tt;
      exports = tt;
      elems = (slots_from (slot_table m) before (in_slots m (length own)) first, tt);
      datas = tt;
    }

pub secondary_numbers : NumberLaws → (names : SplitNames) (m : Module) (moved own : List ℕ) (before : ℕ) → IsUtf8 names.import_namespace → IsUtf8 names.export_prefix →
    InRange m → IsBounded m → length moved ≤ 2 ^ 31 → before < 2 ^ 31 → NumbersInRange (secondary_with names m moved own before)
unfolding secondary_with
secondary_numbers laws names m moved own before namespace_in prefix_in h few most first =
    let t = secondary_tree names m moved own before in
    let numbers = tree_numbers names m moved own before namespace_in prefix_in (laws.own m h) few most first in
    laws.declared (renumbered_tree (secondary_map m moved own) t) (laws.renumbered (secondary_map m moved own) t numbers)
