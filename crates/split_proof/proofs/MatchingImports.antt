-- Each import of a secondary module denotes an external value that matches it, in each store in
-- which the instance of the primary module is well typed.
use Rattle.base_lists.proofs.Common.{◌≡◌, ◌∙◌, ap, ap₂, sym, subst, refl, ℕ, zero, suc, List, [], ◌∷◌, ◌++◌, map, length, Option}
use Rattle.base_lists.proofs.Common.{Some, None, true, false, cond, ⊎_elim, slice_get, slice_index, unwrap_or, arith, option_map, and_from, slice_get_within, same_Some, chosen_from, numbers_index, option_map_is}
use Rattle.base_lists.proofs.Common.{append_at_left, append_from, map_from, push_last, Has}
use Rattle.base_lists.proofs.Same.{text_self}
use Rattle.base_lists.specs.Options.{◌>>=◌, all_there}
use Rattle.wasm_tree_spec.specs.Prelude.{Space, Functions, Tables, Memories, Globals, Limits, TableType, GlobalType, Import, ImportDesc, Module, same_func_type, imported_tables, imported_memories, imported_globals, funcs_of, tables_of, memories_of, globals_of}
use Rattle.wasm_tree.specs.declared.module.ImportDesc.TheVariants as im
use Rattle.wasm_tree.specs.declared.module.ExportDesc.TheVariants as ex
use Rattle.wasm_meaning.specs.Prelude.{Inst, Store, type_at, export_named, ExternalValue, FuncAt, address_in, is_match, all_match, supplied_by_primary}
use Rattle.index_remap.specs.declared.remap.Remap.{Remap}
use Rattle.index_remap.specs.Prelude.{declared_refs, new_import, new_import_desc, renumbered_tree}
use Rattle.world_simulation.specs.Prelude.{IsWithDeclared}
use Rattle.world_simulation.specs.TypedInstances.{Offers, IsTyped}
use Rattle.split_spec.specs.declared.names.SplitNames.{SplitNames}
use Rattle.split_spec.specs.Prelude.{defined_at, slot_table, slot_table_type, entities, from_primary, imports_from_primary, is_from_primary, name_from_primary, slots_name, primary_map, primary_tree, primary_with, HasSlots, secondary_imports, secondary_map, secondary_tree}
use Rattle.split_spec.specs.Secondary.{secondary_with}
use Rattle.split_proof.specs.Premises.{CanMove}
use Rattle.split_proof.proofs.PrimarySpaces as spaces
use Rattle.split_proof.proofs.SharedFunctions.{shared_left, shared_within}
use Rattle.split_proof.proofs.DescribedSpaces.{declared_keeps, type_there}
use Rattle.wasm_valid.specs.Prelude.{ItemsHold}
use Rattle.split_proof.proofs.ExportsForSecondary.{primary, primary_types, primary_keeps, among_all, slots_exported, func_exported, table_exported, memory_exported, global_exported}

-- ---- imports that are there ----

module _ (supply : Import → Option ExternalValue) (s : Store) (m : Module) where
  -- The import denotes an external value that matches it.
  abbrev pub Supplied : Import → Type 0
  Supplied x = (t : ExternalValue) × (supply x ≡ Some t) × (is_match s m x.desc t ≡ Some true)

  pub all_supplied : (is : List Import) → ((n : ℕ) (x : Import) → slice_get is n ≡ Some x → Supplied x) → (things : List ExternalValue) × (all_there supply is ≡ Some things) × (all_match s m is things ≡ true)
  all_supplied [] h = ([], refl, refl)
  all_supplied (x ∷ is) h =
      let t = h 0 x refl in
      let r = all_supplied is (λ n. h (suc n)) in
      (t.0 ∷ r.0, rw (t.1, r.1) refl, and_from (unwrap_or (is_match s m x.desc t.0) false) (all_match s m is r.0) (ap (λ o. unwrap_or o false) t.2) r.2)

-- The match of an external value depends only on the types of the module.
match_same : (s : Store) (m n : Module) → m.types ≡ n.types → (d : ImportDesc) (x : ExternalValue) → is_match s m d x ≡ is_match s n d x
match_same s m n e (im.Func ty) (FuncAt a) = ap (λ ts. slice_get ts ty >>= λ t. type_at s a >>= λ u. Some (same_func_type t u)) e
match_same s m n e _ _ = refl

-- Each import from the primary module is one of an entity on the list.
pub import_from : (namespace prefix : List ℕ) (m : Module) (space : Space) (is : List ℕ) (n : ℕ) (x : Import) → slice_get (imports_from_primary namespace prefix m space is) n ≡ Some x →
    (i : ℕ) × Has is i × (d : ImportDesc) × (slice_get (entities m space) i ≡ Some d) × (record { «module» = namespace; field = name_from_primary prefix space i; desc = d } ≡ x)
import_from namespace prefix m space is n x at =
    let c = chosen_from (λ i. option_map (λ d. record { «module» = namespace; field = name_from_primary prefix space i; desc = d }) (slice_get (entities m space) i)) is n x at in
    let d = option_map_is (λ d. record { «module» = namespace; field = name_from_primary prefix space c.0; desc = d }) (slice_get (entities m space) c.0) x c.2 in
    (c.0, c.1, d.0, d.1, d.2)

-- ---- what the primary module offers ----

module _ (namespace : ℕ → List ℕ) (names : SplitNames) (m : Module) (holds : ItemsHold m) (moved : List ℕ) (can : CanMove m moved) (primary_holds : ItemsHold (primary_with namespace names.export_prefix m moved)) (own : List ℕ) (before : ℕ) (slots : HasSlots moved own before) where
  abbrev pub first : Module
  first = primary namespace names.export_prefix m moved primary_holds

  abbrev pub first_map : Remap
  first_map = primary_map m moved

  abbrev first_tree : Module
  first_tree = renumbered_tree first_map (primary_tree namespace names.export_prefix m moved)

  abbrev kept : IsWithDeclared first_tree first (declared_refs first_tree)
  kept = primary_keeps namespace names.export_prefix m moved primary_holds

  first_tables : tables_of first ≡ tables_of m ++ slot_table_type (length moved) ∷ []
  first_tables = ap₂ (λ is ts. imported_tables is ++ ts) kept.imports kept.tables ∙ spaces.tables_are namespace names.export_prefix m holds moved can

  first_memories : memories_of first ≡ memories_of m
  first_memories = ap₂ (λ is ms. imported_memories is ++ ms) kept.imports kept.mems ∙ spaces.memories_are namespace names.export_prefix m holds moved can

  first_globals : globals_of first ≡ globals_of m
  first_globals = ap₂ (λ is gs. imported_globals is ++ map (λ g. g.ty) gs) kept.imports kept.globals ∙ spaces.globals_are namespace names.export_prefix m holds moved can

  module _ (i : Inst) (s : Store) (typed : IsTyped first i s) where
    pub func_offered : (x ty : ℕ) → is_from_primary moved (defined_at m own) Functions x ≡ true → slice_get (funcs_of m) x ≡ Some ty → Offers s first (im.Func ty) (address_in i (ex.Func (slice_index first_map.funcs x)))
    func_offered x ty h at =
        typed.funcs (slice_index first_map.funcs x) ty
        (ap (λ fs. slice_get fs (slice_index first_map.funcs x)) kept.func_space ∙ spaces.func_entry namespace names.export_prefix m holds moved can x ty (shared_left m moved x (among_all m moved own before slots Functions x h)) at)

    pub table_offered : (x : ℕ) (t : TableType) → slice_get (tables_of m) x ≡ Some t → Offers s first (im.Table t) (address_in i (ex.Table (slice_index first_map.tables x)))
    table_offered x t at =
        let lt = slice_get_within (tables_of m) x t at in
        let entry : slice_index first_map.tables x ≡ x = numbers_index (suc (length (tables_of m))) x (omega (arith, lt)) in
        subst (λ n. Offers s first (im.Table t) (address_in i (ex.Table n))) (sym entry) (typed.tables x t (ap (λ ts. slice_get ts x) first_tables ∙ append_at_left (tables_of m) (slot_table_type (length moved) ∷ []) x t at))

    pub slots_offered : Offers s first (im.Table (slot_table_type (length moved))) (address_in i (ex.Table (slice_index first_map.tables (slot_table m))))
    slots_offered =
        let entry : slice_index first_map.tables (slot_table m) ≡ slot_table m = numbers_index (suc (length (tables_of m))) (slot_table m) (omega arith) in
        subst (λ n. Offers s first (im.Table (slot_table_type (length moved))) (address_in i (ex.Table n))) (sym entry)
        (typed.tables (slot_table m) (slot_table_type (length moved)) (ap (λ ts. slice_get ts (slot_table m)) first_tables ∙ push_last (tables_of m) (slot_table_type (length moved))))

    pub memory_offered : (x : ℕ) (l : Limits) → slice_get (memories_of m) x ≡ Some l → Offers s first (im.Memory l) (address_in i (ex.Memory (slice_index first_map.mems x)))
    memory_offered x l at =
        let entry : slice_index first_map.mems x ≡ x = numbers_index (length (memories_of m)) x (slice_get_within (memories_of m) x l at) in
        subst (λ n. Offers s first (im.Memory l) (address_in i (ex.Memory n))) (sym entry) (typed.mems x l (ap (λ ms. slice_get ms x) first_memories ∙ at))

    pub global_offered : (x : ℕ) (g : GlobalType) → slice_get (globals_of m) x ≡ Some g → Offers s first (im.Global g) (address_in i (ex.Global (slice_index first_map.globals x)))
    global_offered x g at =
        let entry : slice_index first_map.globals x ≡ x = numbers_index (length (globals_of m)) x (slice_get_within (globals_of m) x g at) in
        subst (λ n. Offers s first (im.Global g) (address_in i (ex.Global n))) (sym entry) (typed.globals x g (ap (λ gs. slice_get gs x) first_globals ∙ at))

    -- ---- what the secondary module imports ----

    abbrev pub second : Module
    second = secondary_with names m moved own before

    abbrev pub second_map : Remap
    second_map = secondary_map m moved own

    abbrev pub second_tree : Module
    second_tree = renumbered_tree second_map (secondary_tree names m moved own before)

    pub second_keeps : IsWithDeclared second_tree second (declared_refs second_tree)
    unfolding secondary_with
    second_keeps = declared_keeps second_tree

    abbrev pub supply : Import → Option ExternalValue
    supply = supplied_by_primary names.import_namespace first i

    -- An import from the primary module's namespace is looked up by its field.
    pub by_field : (field : List ℕ) (d : ImportDesc) → supply (record { «module» = names.import_namespace; field = field; desc = d }) ≡ (export_named first.exports field >>= (address_in i))
    by_field field d = ap (λ b. cond b (export_named first.exports field >>= (address_in i)) None) (text_self names.import_namespace)

    abbrev Given : Import → Type 0
    Given x = Supplied supply s second (new_import second_map x)

    abbrev from : Space → List Import
    from space = imports_from_primary names.import_namespace names.export_prefix m space (from_primary m moved own space)

    abbrev matched : (d : ImportDesc) (t : ExternalValue) → is_match s first d t ≡ Some true → is_match s second d t ≡ Some true
    matched d t h = match_same s second first (second_keeps.types ∙ sym (primary_types namespace names.export_prefix m moved primary_holds)) d t ∙ h

    func_given : (n : ℕ) (x : Import) → slice_get (from Functions) n ≡ Some x → Given x
    func_given n x at =
        let c = import_from names.import_namespace names.export_prefix m Functions (from_primary m moved own Functions) n x at in
        let w = shared_within m moved own Functions c.1.0 c.0 c.1.1 in
        let ty = map_from im.Func (funcs_of m) c.0 c.2 c.3 in
        let o = func_offered c.0 ty.0 w.1 ty.1 in
        subst Given c.4 (
          o.0,
          by_field (name_from_primary names.export_prefix Functions c.0) (new_import_desc second_map c.2) ∙ ap (λ e. e >>= (address_in i)) (func_exported namespace names.export_prefix m moved primary_holds own before slots c.0 w.0 w.1) ∙ o.1,
          subst (λ d. is_match s second (new_import_desc second_map d) o.0 ≡ Some true) ty.2 (ap (λ z. is_match s second (im.Func z) o.0) (numbers_index (length m.types) ty.0 (type_there m holds c.0 ty.0 ty.1)) ∙ matched (im.Func ty.0) o.0 o.2),
        )

    table_given : (n : ℕ) (x : Import) → slice_get (from Tables) n ≡ Some x → Given x
    table_given n x at =
        let c = import_from names.import_namespace names.export_prefix m Tables (from_primary m moved own Tables) n x at in
        let w = shared_within m moved own Tables c.1.0 c.0 c.1.1 in
        let t = map_from im.Table (tables_of m) c.0 c.2 c.3 in
        let o = table_offered c.0 t.0 t.1 in
        subst Given c.4 (
          o.0,
          by_field (name_from_primary names.export_prefix Tables c.0) (new_import_desc second_map c.2) ∙ ap (λ e. e >>= (address_in i)) (table_exported namespace names.export_prefix m moved primary_holds own before slots c.0 w.0 w.1) ∙ o.1,
          subst (λ d. is_match s second (new_import_desc second_map d) o.0 ≡ Some true) t.2 (matched (im.Table t.0) o.0 o.2),
        )

    memory_given : (n : ℕ) (x : Import) → slice_get (from Memories) n ≡ Some x → Given x
    memory_given n x at =
        let c = import_from names.import_namespace names.export_prefix m Memories (from_primary m moved own Memories) n x at in
        let w = shared_within m moved own Memories c.1.0 c.0 c.1.1 in
        let t = map_from im.Memory (memories_of m) c.0 c.2 c.3 in
        let o = memory_offered c.0 t.0 t.1 in
        subst Given c.4 (
          o.0,
          by_field (name_from_primary names.export_prefix Memories c.0) (new_import_desc second_map c.2) ∙ ap (λ e. e >>= (address_in i)) (memory_exported namespace names.export_prefix m moved primary_holds own before slots c.0 w.0 w.1) ∙ o.1,
          subst (λ d. is_match s second (new_import_desc second_map d) o.0 ≡ Some true) t.2 (matched (im.Memory t.0) o.0 o.2),
        )

    global_given : (n : ℕ) (x : Import) → slice_get (from Globals) n ≡ Some x → Given x
    global_given n x at =
        let c = import_from names.import_namespace names.export_prefix m Globals (from_primary m moved own Globals) n x at in
        let w = shared_within m moved own Globals c.1.0 c.0 c.1.1 in
        let t = map_from im.Global (globals_of m) c.0 c.2 c.3 in
        let o = global_offered c.0 t.0 t.1 in
        subst Given c.4 (
          o.0,
          by_field (name_from_primary names.export_prefix Globals c.0) (new_import_desc second_map c.2) ∙ ap (λ e. e >>= (address_in i)) (global_exported namespace names.export_prefix m moved primary_holds own before slots c.0 w.0 w.1) ∙ o.1,
          subst (λ d. is_match s second (new_import_desc second_map d) o.0 ≡ Some true) t.2 (matched (im.Global t.0) o.0 o.2),
        )

    abbrev pub slots_import : Import
    slots_import = record { «module» = names.import_namespace; field = slots_name names.export_prefix; desc = im.Table (slot_table_type (length moved)) }

    slots_given : Given slots_import
    slots_given =
        let o = slots_offered in
        (o.0, by_field (slots_name names.export_prefix) (im.Table (slot_table_type (length moved))) ∙ ap (λ e. e >>= (address_in i)) (slots_exported namespace names.export_prefix m moved primary_holds) ∙ o.1, matched (im.Table (slot_table_type (length moved))) o.0 o.2)

    abbrev Each : List Import → Type 0
    Each xs = (n : ℕ) (x : Import) → slice_get xs n ≡ Some x → Given x

    each_both : (xs ys : List Import) → Each xs → Each ys → Each (xs ++ ys)
    each_both xs ys f g n x at = ⊎_elim (λ h. f n x h) (λ h. g h.0 x h.2) (append_from xs ys n x at)

    each_slots : (ys : List Import) → Each ys → Each (slots_import ∷ ys)
    each_slots ys g zero x at = subst Given (same_Some _ _ at) slots_given
    each_slots ys g (suc n) x at = g n x at

    each_given : Each (secondary_imports names m moved own)
    each_given =
        each_both (from Functions) (from Tables ++ (slots_import ∷ (from Memories ++ from Globals))) func_given
        (each_both (from Tables) (slots_import ∷ (from Memories ++ from Globals)) table_given (each_slots (from Memories ++ from Globals) (each_both (from Memories) (from Globals) memory_given global_given)))

    pub imports_supplied : (things : List ExternalValue) × (all_there supply second.imports ≡ Some things) × (all_match s second second.imports things ≡ true)
    imports_supplied =
        subst (λ is. (things : List ExternalValue) × (all_there supply is ≡ Some things) × (all_match s second is things ≡ true)) (sym second_keeps.imports)
        (all_supplied supply s second (map (new_import second_map) (secondary_imports names m moved own)) (λ n x at.
        let y = map_from (new_import second_map) (secondary_imports names m moved own) n x at in
        subst (Supplied supply s second) y.2 (each_given n y.0 y.1)))
