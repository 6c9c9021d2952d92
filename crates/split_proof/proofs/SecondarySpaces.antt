-- The index spaces of a secondary module (its imports from the primary module, and then its own
-- functions), and the new index of each entity of the module.
use Rattle.base_lists.proofs.Common.{◌≡◌, ◌∙◌, ap, ap₂, sym, refl, ℕ, ◌+◌, ◌-◌, ◌<◌, List, [], ◌∷◌, ◌++◌, map, length, Option, Some, None, Bool, true, false, option_and_then, slice_get, slice_index, arith, true≢false, option_map, cons_option, length-append, length-map, map-append, filter_map-append}
use Rattle.base_lists.proofs.Common.{get_or_from_slice_get, slice_get_within, every_at, length-numbers, numbers_at, numbers_index, and_then_is, append_at_left, append_right, map_at, map_from, push_last, slice_get_there, all_counted, map_stays, index_left, index_right}
use Rattle.base_lists.proofs.Filtered.{all_chosen}
use Rattle.base_kept.proofs.Chosen.{chosen_kept, kept_counted, kept_given, kept_themselves, kept_none}
use Rattle.std.proofs.Common.{filter_map}
use Rattle.std.proofs.lemmas.List.{append-nil}
use Rattle.base_lists.specs.Places.{numbers}
use Rattle.base_kept.specs.Kept.{is_marked, kept, new_places, kept_before}
use Rattle.base_kept.proofs.Laws.{kept_from, moved as kept_moved}
use Rattle.wasm_tree_spec.specs.Prelude.{Space, Types, Functions, Tables, Memories, Globals, ElementSegments, DataSegments, Limits, TableType, GlobalType, Func, Import, ImportDesc, Module, func_of, table_of, memory_of, global_of, imported_funcs, imported_tables, imported_memories, imported_globals}
use Rattle.wasm_tree_spec.specs.Prelude.{funcs_of, tables_of, memories_of, globals_of}
use Rattle.wasm_tree.specs.declared.types.RefType.TheVariants.{Func as func_ref}
use Rattle.wasm_tree.specs.declared.module.ImportDesc.TheVariants as im
use Rattle.wasm_valid.specs.Prelude.{table_types, ItemsHold}
use Rattle.index_remap.specs.declared.remap.Remap.{Remap}
use Rattle.index_remap.specs.Prelude.{new_func, new_import, new_import_desc, renumbered_tree}
use Rattle.index_remap_proof.specs.Indices.{Indices}
use Rattle.index_remap_proof.specs.Trees.{TreesAgree}
use Rattle.split_plan.specs.NamedFunctions.{is_defined}
use Rattle.split_plan.specs.PlannedMoves.{body_uses_segment}
use Rattle.split_spec.specs.declared.names.SplitNames.{SplitNames}
use Rattle.split_spec.specs.Prelude.{defined_at, slot_table, slot_table_type, entities, from_primary, imports_from_primary, is_from_primary, marks_from_primary, name_from_primary, secondary_func, secondary_map, secondary_tree}
use Rattle.split_proof.specs.Premises.{CanMove}
use Rattle.split_proof.proofs.DescribedSpaces.{Moves, moves, func_holds, type_there}

module _ (names : SplitNames) (m : Module) (holds : ItemsHold m) (moved own : List ℕ) (before : ℕ) where
  abbrev pub r : Remap
  r = secondary_map m moved own

  abbrev pub u : Module
  u = renumbered_tree r (secondary_tree names m moved own before)

  abbrev marks : Space → List Bool
  marks space = marks_from_primary m moved own space

  marks_many : (space : Space) → length (marks space) ≡ length (entities m space)
  marks_many space = length-map (numbers 0 (length (entities m space))) (is_from_primary moved (defined_at m own) space) ∙ length-numbers 0 (length (entities m space))

  -- ---- imports ----

  -- The entities that renumbered imports add to an index space.
  abbrev adds : {B : Type 0} → (ImportDesc → Option B) → List Import → List B
  adds h xs = filter_map (λ i. h i.desc) (map (new_import r) xs)

  adds_append : {B : Type 0} (h : ImportDesc → Option B) (xs ys : List Import) → adds h (xs ++ ys) ≡ adds h xs ++ adds h ys
  adds_append h xs ys = ap (filter_map (λ i. h i.desc)) (map-append (new_import r) xs ys) ∙ filter_map-append (λ i. h i.desc) (map (new_import r) xs) (map (new_import r) ys)

  abbrev new_kind : {B : Type 0} → (ImportDesc → Option B) → ImportDesc → Option B
  new_kind h d = h (new_import_desc r d)

  one_added : {B : Type 0} (h : ImportDesc → Option B) (space : Space) (i : ℕ) (o : Option ImportDesc) (xs : List Import) (ys : List B) → adds h xs ≡ ys →
      adds h (cons_option (option_map (λ d. record { «module» = names.import_namespace; field = name_from_primary names.export_prefix space i; desc = d }) o) xs) ≡ cons_option (option_and_then (new_kind h) o) ys
  one_added h space i None xs ys e = e
  one_added h space i (Some d) xs ys e = ap (cons_option (new_kind h d)) e

  each_added : {B : Type 0} (h : ImportDesc → Option B) (space : Space) (is : List ℕ) →
      adds h (imports_from_primary names.import_namespace names.export_prefix m space is) ≡ filter_map (λ i. option_and_then (new_kind h) (slice_get (entities m space) i)) is
  each_added h space [] = refl
  each_added h space (i ∷ is) = one_added h space i (slice_get (entities m space) i) (imports_from_primary names.import_namespace names.export_prefix m space is) _ (each_added h space is)

  added : {B : Type 0} (h : ImportDesc → Option B) (space : Space) →
      adds h (imports_from_primary names.import_namespace names.export_prefix m space (from_primary m moved own space)) ≡ filter_map (new_kind h) (kept (marks space) (entities m space))
  added h space =
      each_added h space (from_primary m moved own space)
      ∙ chosen_kept (new_kind h) (slice_get (entities m space)) (marks space) (entities m space) 0 (marks_many space) (λ i. let e : 0 + i ≡ i = omega arith in ap (slice_get (entities m space)) e)

  abbrev from : Space → List Import
  from space = imports_from_primary names.import_namespace names.export_prefix m space (from_primary m moved own space)

  -- The imports in their order: functions, tables, the slot table, memories, globals.
  all_added : {B : Type 0} (h : ImportDesc → Option B) (fs ts ms gs : List B) →
      filter_map (new_kind h) (kept (marks Functions) (entities m Functions)) ≡ fs → filter_map (new_kind h) (kept (marks Tables) (entities m Tables)) ≡ ts →
      filter_map (new_kind h) (kept (marks Memories) (entities m Memories)) ≡ ms → filter_map (new_kind h) (kept (marks Globals) (entities m Globals)) ≡ gs →
      filter_map (λ i. h i.desc) u.imports ≡ fs ++ (ts ++ cons_option (h (im.Table (slot_table_type (length moved)))) (ms ++ gs))
  all_added h fs ts ms gs f t s g =
      adds_append h (from Functions) _
      ∙ ap₂ (λ xs ys. xs ++ ys) (added h Functions ∙ f) (
      adds_append h (from Tables) _
      ∙ ap₂ (λ xs ys. xs ++ ys) (added h Tables ∙ t) (
      ap (cons_option (h (im.Table (slot_table_type (length moved))))) (
      adds_append h (from Memories) (from Globals) ∙ ap₂ (λ xs ys. xs ++ ys) (added h Memories ∙ s) (added h Globals ∙ g))))

  pub imported_funcs_are : imported_funcs u.imports ≡ kept (marks Functions) (funcs_of m)
  imported_funcs_are =
      all_added func_of (kept (marks Functions) (funcs_of m)) [] [] []
      (kept_given (new_kind func_of) im.Func (slice_index r.types) (marks Functions) (funcs_of m) (λ ty. refl)
      ∙ map_stays (slice_index r.types) (kept (marks Functions) (funcs_of m)) (λ n ty at. let p = kept_from (marks Functions) (funcs_of m) n ty at in numbers_index (length m.types) ty (type_there m holds p.place ty p.is)))
      (kept_none (new_kind func_of) im.Table (marks Tables) (tables_of m) (λ x. refl))
      (kept_none (new_kind func_of) im.Memory (marks Memories) (memories_of m) (λ x. refl))
      (kept_none (new_kind func_of) im.Global (marks Globals) (globals_of m) (λ x. refl))
      ∙ append-nil (kept (marks Functions) (funcs_of m))

  pub imported_tables_are : imported_tables u.imports ≡ kept (marks Tables) (tables_of m) ++ slot_table_type (length moved) ∷ []
  imported_tables_are =
      all_added table_of [] (kept (marks Tables) (tables_of m)) [] []
      (kept_none (new_kind table_of) im.Func (marks Functions) (funcs_of m) (λ x. refl))
      (kept_themselves (new_kind table_of) im.Table (marks Tables) (tables_of m) (λ x. refl))
      (kept_none (new_kind table_of) im.Memory (marks Memories) (memories_of m) (λ x. refl))
      (kept_none (new_kind table_of) im.Global (marks Globals) (globals_of m) (λ x. refl))

  pub imported_memories_are : imported_memories u.imports ≡ kept (marks Memories) (memories_of m)
  imported_memories_are =
      all_added memory_of [] [] (kept (marks Memories) (memories_of m)) []
      (kept_none (new_kind memory_of) im.Func (marks Functions) (funcs_of m) (λ x. refl))
      (kept_none (new_kind memory_of) im.Table (marks Tables) (tables_of m) (λ x. refl))
      (kept_themselves (new_kind memory_of) im.Memory (marks Memories) (memories_of m) (λ x. refl))
      (kept_none (new_kind memory_of) im.Global (marks Globals) (globals_of m) (λ x. refl))
      ∙ append-nil (kept (marks Memories) (memories_of m))

  pub imported_globals_are : imported_globals u.imports ≡ kept (marks Globals) (globals_of m)
  imported_globals_are =
      all_added global_of [] [] [] (kept (marks Globals) (globals_of m))
      (kept_none (new_kind global_of) im.Func (marks Functions) (funcs_of m) (λ x. refl))
      (kept_none (new_kind global_of) im.Table (marks Tables) (tables_of m) (λ x. refl))
      (kept_none (new_kind global_of) im.Memory (marks Memories) (memories_of m) (λ x. refl))
      (kept_themselves (new_kind global_of) im.Global (marks Globals) (globals_of m) (λ x. refl))

  -- ---- where what is imported goes ----

  -- The indices that stay: those of all types, and of the entities of the primary module that its
  -- own functions name.
  abbrev pub stays : Indices
  stays Types = λ i. true
  stays Functions = is_from_primary moved (defined_at m own) Functions
  stays Tables = is_from_primary moved (defined_at m own) Tables
  stays Memories = is_from_primary moved (defined_at m own) Memories
  stays Globals = is_from_primary moved (defined_at m own) Globals
  stays ElementSegments = λ i. false
  stays DataSegments = λ i. false

  is_there : (space : Space) (i : ℕ) → is_from_primary moved (defined_at m own) space i ≡ true → i < length (entities m space) → is_marked (marks space) i ≡ true
  is_there space i h lt =
      let at = map_at (is_from_primary moved (defined_at m own) space) (numbers 0 (length (entities m space))) i (0 + i) (numbers_at 0 (length (entities m space)) i lt) in
      let e : 0 + i ≡ i = omega arith in
      get_or_from_slice_get (marks space) i true false (at ∙ ap (λ n. Some (is_from_primary moved (defined_at m own) space n)) e ∙ ap Some h)

  pub places_many : (space : Space) → length (new_places (marks space)) ≡ length (entities m space)
  places_many space = length-map (numbers 0 (length (marks space))) (kept_before (marks space)) ∙ length-numbers 0 (length (marks space)) ∙ marks_many space

  goes : {A : Type 0} (space : Space) (xs : List A) → length xs ≡ length (entities m space) → (i : ℕ) (x : A) → is_from_primary moved (defined_at m own) space i ≡ true → slice_get xs i ≡ Some x →
      slice_get (kept (marks space) xs) (slice_index (new_places (marks space)) i) ≡ Some x
  goes space xs many i x h e =
      let lt = slice_get_within xs i x e in
      let all = marks_many space in
      kept_moved (marks space) xs i x (omega (arith, many, all)) (is_there space i h (omega (arith, lt, many))) e

  func_entry : (i ty : ℕ) → is_from_primary moved (defined_at m own) Functions i ≡ true → slice_get (funcs_of m) i ≡ Some ty → slice_get (funcs_of u) (slice_index r.funcs i) ≡ Some ty
  func_entry i ty h e =
      let many = sym (length-map (funcs_of m) im.Func) in
      let lt = slice_get_within (funcs_of m) i ty e in
      let all = places_many Functions in
      let left = index_left (new_places (marks Functions)) (numbers (length (from_primary m moved own Functions)) (length own)) i (omega (arith, lt, many, all)) in
      ap (slice_get (funcs_of u)) left
      ∙ append_at_left (imported_funcs u.imports) (map (λ f. f.ty) u.funcs) (slice_index (new_places (marks Functions)) i) ty
      (ap (λ xs. slice_get xs (slice_index (new_places (marks Functions)) i)) imported_funcs_are ∙ goes Functions (funcs_of m) many i ty h e)

  table_entry : (i : ℕ) (t : TableType) → is_from_primary moved (defined_at m own) Tables i ≡ true → slice_get (tables_of m) i ≡ Some t → slice_get (tables_of u) (slice_index r.tables i) ≡ Some t
  table_entry i t h e =
      let many = sym (length-map (tables_of m) im.Table) in
      let lt = slice_get_within (tables_of m) i t e in
      let all = places_many Tables in
      let left = index_left (new_places (marks Tables)) (length (from_primary m moved own Tables) ∷ []) i (omega (arith, lt, many, all)) in
      ap (slice_get (tables_of u)) left
      ∙ append_at_left (imported_tables u.imports) [] (slice_index (new_places (marks Tables)) i) t
      (ap (λ xs. slice_get xs (slice_index (new_places (marks Tables)) i)) imported_tables_are
      ∙ append_at_left (kept (marks Tables) (tables_of m)) (slot_table_type (length moved) ∷ []) (slice_index (new_places (marks Tables)) i) t (goes Tables (tables_of m) many i t h e))

  memory_entry : (i : ℕ) (l : Limits) → is_from_primary moved (defined_at m own) Memories i ≡ true → slice_get (memories_of m) i ≡ Some l → slice_get (memories_of u) (slice_index r.mems i) ≡ Some l
  memory_entry i l h e =
      append_at_left (imported_memories u.imports) [] (slice_index r.mems i) l (ap (λ xs. slice_get xs (slice_index r.mems i)) imported_memories_are ∙ goes Memories (memories_of m) (sym (length-map (memories_of m) im.Memory)) i l h e)

  global_entry : (i : ℕ) (g : GlobalType) → is_from_primary moved (defined_at m own) Globals i ≡ true → slice_get (globals_of m) i ≡ Some g → slice_get (globals_of u) (slice_index r.globals i) ≡ Some g
  global_entry i g h e =
      append_at_left (imported_globals u.imports) [] (slice_index r.globals i) g (ap (λ xs. slice_get xs (slice_index r.globals i)) imported_globals_are ∙ goes Globals (globals_of m) (sym (length-map (globals_of m) im.Global)) i g h e)

  pub agree : TreesAgree r stays m u
  agree = record {
    types = λ i h v e. ap (slice_get m.types) (numbers_index (length m.types) i (slice_get_within m.types i v e)) ∙ e;
    funcs = λ i h v e. let ty = and_then_is (slice_get (funcs_of m) i) (slice_get m.types) v e in ap (option_and_then (slice_get m.types)) (func_entry i ty.0 h ty.1) ∙ ty.2;
    func_space = λ i h lt. let ty = slice_get_there (funcs_of m) i lt in slice_get_within (funcs_of u) (slice_index r.funcs i) ty.0 (func_entry i ty.0 h ty.1);
    tables = λ i h v e. let t = map_from (λ t. t.ty) (tables_of m) i v e in map_at (λ t. t.ty) (tables_of u) (slice_index r.tables i) t.0 (table_entry i t.0 h t.1) ∙ ap Some t.2;
    memories = λ i h lt. let l = slice_get_there (memories_of m) i lt in slice_get_within (memories_of u) (slice_index r.mems i) l.0 (memory_entry i l.0 h l.1);
    globals = λ i h v e. global_entry i v h e;
    elems = λ i h v e. absurd (true≢false (sym h));
    datas = λ i h lt. absurd (true≢false (sym h));
  }

  -- ---- the functions of its own, and the slot table ----

  module _ (can : CanMove m own) where
    pub own_moves : (p f : ℕ) → slice_get own p ≡ Some f → Moves m f
    own_moves p f at = let c = every_at (λ func. (is_defined m func ≡ true) × (body_uses_segment m func ≡ false)) own p f can at in moves m f c.0 c.1

    all_moves : (p f : ℕ) → slice_get own p ≡ Some f → (g : Func) × (slice_get m.funcs (f - length (imported_funcs m.imports)) ≡ Some g)
    all_moves p f at = let g = own_moves p f at in (g.func, g.is)

    pub own_many : length (defined_at m own) ≡ length own
    own_many = all_counted (λ func. slice_get m.funcs (func - length (imported_funcs m.imports))) own all_moves

    pub own_at : (p f : ℕ) (at : slice_get own p ≡ Some f) → slice_get (defined_at m own) p ≡ Some (own_moves p f at).func
    own_at p f at = all_chosen (λ func. slice_get m.funcs (func - length (imported_funcs m.imports))) own all_moves p f at ∙ (own_moves p f at).is

    imports_counted : length (from_primary m moved own Functions) ≡ length (imported_funcs u.imports)
    imports_counted =
        let many = sym (length-map (funcs_of m) im.Func) in
        let all = marks_many Functions in
        kept_counted (marks Functions) (funcs_of m) 0 (omega (arith, many, all)) ∙ ap length (sym imported_funcs_are)

    pub own_entry : (p : ℕ) → p < length own → slice_index r.funcs (length (funcs_of m) + p) ≡ length (imported_funcs u.imports) + p
    own_entry p lt =
        let n = length (from_primary m moved own Functions) in
        let many = sym (length-map (funcs_of m) im.Func) in
        index_right (new_places (marks Functions)) (numbers n (length own)) (length (funcs_of m)) p (n + p) (many ∙ sym (places_many Functions)) (numbers_at n (length own) p lt) ∙ ap (λ k. k + p) imports_counted

    pub own_type : (p f : ℕ) (at : slice_get own p ≡ Some f) → slice_get (funcs_of u) (length (imported_funcs u.imports) + p) ≡ Some (own_moves p f at).func.ty
    own_type p f at =
        let g = (own_moves p f at).func in
        let new : slice_get u.funcs p ≡ Some (new_func r (secondary_func m moved own g)) = map_at (new_func r) (map (secondary_func m moved own) (defined_at m own)) p _ (map_at (secondary_func m moved own) (defined_at m own) p g (own_at p f at)) in
        append_right (imported_funcs u.imports) (map (λ f. f.ty) u.funcs) p ∙ map_at (λ f. f.ty) u.funcs p (new_func r (secondary_func m moved own g)) new
        ∙ ap Some (numbers_index (length m.types) g.ty (func_holds m holds (f - length (imported_funcs m.imports)) g (own_moves p f at).is))

    pub funcs_many : length (funcs_of u) ≡ length (imported_funcs u.imports) + length own
    funcs_many =
        let all = length-append (imported_funcs u.imports) (map (λ f. f.ty) u.funcs) in
        let a = length-map u.funcs (λ f. f.ty) in
        let b = length-map (map (secondary_func m moved own) (defined_at m own)) (new_func r) in
        let c = length-map (defined_at m own) (secondary_func m moved own) in
        let d = own_many in
        omega (arith, all, a, b, c, d)

  pub slot_table_at : slice_get (table_types u) (slice_index r.tables (slot_table m)) ≡ Some func_ref
  slot_table_at =
      let n = length (from_primary m moved own Tables) in
      let many = sym (length-map (tables_of m) im.Table) in
      let zero_more : length (tables_of m) + 0 ≡ length (tables_of m) = omega arith in
      let entry : slice_index r.tables (slot_table m) ≡ n = ap (slice_index r.tables) (sym zero_more) ∙ index_right (new_places (marks Tables)) (n ∷ []) (length (tables_of m)) 0 n (many ∙ sym (places_many Tables)) refl in
      let all = marks_many Tables in
      let counted : n ≡ length (kept (marks Tables) (tables_of m)) = kept_counted (marks Tables) (tables_of m) 0 (omega (arith, many, all)) in
      let at : slice_get (tables_of u) n ≡ Some (slot_table_type (length moved)) =
      append_at_left (imported_tables u.imports) [] n (slot_table_type (length moved)) (ap (λ xs. slice_get xs n) imported_tables_are ∙ ap (slice_get (kept (marks Tables) (tables_of m) ++ slot_table_type (length moved) ∷ [])) counted ∙
      push_last (kept (marks Tables) (tables_of m)) (slot_table_type (length moved))) in
      ap (slice_get (table_types u)) entry ∙ map_at (λ t. t.ty) (tables_of u) n (slot_table_type (length moved)) at
