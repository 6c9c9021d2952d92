-- The indices of the instance of a secondary module name entities of the instance of the primary
-- module, and its own functions.
use Rattle.base_lists.proofs.Common.{◌≡◌, ◌∙◌, ap, ap₂, sym, refl, ℕ, zero, suc, ◌+◌, ◌<◌, List, [], ◌∷◌, ◌++◌, map, length, Option, Some, None, Bool, true, false, slice_get, slice_index, arith, option_map, cons_option, length-append, length-map, filter_map-append, same_Some, every_at}
use Rattle.base_lists.proofs.Common.{length-numbers, numbers_at, numbers_index, and_then_is, append_at_left, append_right, slice_get_there, all_counted, index_left, index_right}
use Rattle.base_lists.proofs.Filtered.{all_chosen}
use Rattle.base_kept.proofs.Chosen.{kept_counted}
use Rattle.base_lists.proofs.Every.{every_from}
use Rattle.std.proofs.Common.{filter_map}
use Rattle.std.proofs.lemmas.List.{append-nil}
use Rattle.base_lists.specs.Options.{◌>>=◌, all_there}
use Rattle.base_lists.specs.Places.{numbers, places}
use Rattle.base_kept.specs.Kept.{kept_before, new_places}
use Rattle.base_kept.proofs.Laws.{new_place}
use Rattle.wasm_tree_spec.specs.Prelude.{Space, Functions, Tables, Memories, Globals, Import, ImportDesc, Module, imported_funcs, funcs_of, tables_of, memories_of, globals_of}
use Rattle.wasm_tree.specs.declared.module.ImportDesc.TheVariants as im
use Rattle.wasm_meaning.specs.Prelude.{Inst, Store, export_named, ExternalValue, FuncAt, TableAt, MemoryAt, GlobalAt, address_in, address_of, addresses_of, next_inst}
use Rattle.index_remap.specs.declared.remap.Remap.{Remap}
use Rattle.index_remap.specs.Prelude.{new_func, new_import, declared_refs}
use Rattle.world_simulation.specs.Prelude.{IsWithDeclared}
use Rattle.world_simulation.specs.TypedInstances.{IsTyped}
use Rattle.split_plan.specs.NamedFunctions.{is_defined}
use Rattle.split_plan.specs.PlannedMoves.{body_uses_segment}
use Rattle.split_spec.specs.declared.names.SplitNames.{SplitNames}
use Rattle.split_spec.specs.Prelude.{defined_at, slot_table, slot_table_type, slots_name, entities, from_primary, imports_from_primary, is_from_primary, marks_from_primary, name_from_primary, primary_map, primary_with, HasSlots, secondary_func, secondary_imports, secondary_map}
use Rattle.split_proof.specs.Premises.{CanMove}
use Rattle.split_proof.proofs.SecondarySpaces as second_spaces
use Rattle.split_proof.proofs.SharedFunctions.{shared_within}
use Rattle.wasm_valid.specs.Prelude.{ItemsHold}
use Rattle.split_proof.specs.Loads.{NamesWhatThePrimaryHas}
use Rattle.split_proof.proofs.ExportsForSecondary.{marked_at, slots_exported, func_exported, table_exported, memory_exported, global_exported}
use Rattle.split_proof.proofs.MatchingImports.{first, func_offered, table_offered, memory_offered, global_offered, slots_offered, second, second_tree, second_keeps, supply, by_field, slots_import}

-- ---- lists ----

-- The place of a marked element among the marked ones.
place_at : (bs : List Bool) (n x : ℕ) → slice_get bs x ≡ Some true → slice_get (places (λ b. b) bs n) (kept_before bs x) ≡ Some (n + x)
place_at [] n x h = absurd (let k = h in cc)
place_at (true ∷ bs) n zero h = ap Some (omega arith)
place_at (false ∷ bs) n zero h = absurd (let k = h in cc)
place_at (true ∷ bs) n (suc x) h = let e : suc n + x ≡ n + suc x = omega arith in place_at bs (suc n) x h ∙ ap Some e
place_at (false ∷ bs) n (suc x) h = let e : suc n + x ≡ n + suc x = omega arith in place_at bs (suc n) x h ∙ ap Some e

none_chosen : {A B : Type 0} (xs : List A) → filter_map {Y = B} (λ x. None) xs ≡ []
none_chosen [] = refl
none_chosen (x ∷ xs) = none_chosen xs

chosen_mapped : {A B : Type 0} (g : A → Option B) (f : A → A) → ((x : A) → g (f x) ≡ g x) → (xs : List A) → filter_map g (map f xs) ≡ filter_map g xs
chosen_mapped g f same [] = refl
chosen_mapped g f same (x ∷ xs) = ap₂ cons_option (same x) (chosen_mapped g f same xs)

-- The functions of one secondary module can move.
pub own_can : (m : Module) (moved own : List ℕ) (before : ℕ) → HasSlots moved own before → CanMove m moved → CanMove m own
own_can m moved own before slots can =
    every_from (λ func. (is_defined m func ≡ true) × (body_uses_segment m func ≡ false)) own (λ n f at.
    every_at (λ func. (is_defined m func ≡ true) × (body_uses_segment m func ≡ false)) moved (length slots.earlier + n) f can
    (ap (λ fs. slice_get fs (length slots.earlier + n)) slots.all ∙ append_right slots.earlier (own ++ slots.later) n ∙ append_at_left own slots.later n f at))

-- ---- addresses of imports ----

-- The addresses of one kind among the external values that the imports denote.
addresses_are : (supply : Import → Option ExternalValue) (k : Space) (is : List Import) (things : List ExternalValue) → all_there supply is ≡ Some things → addresses_of k things ≡ filter_map (λ x. supply x >>= address_of k) is
addresses_are supply k [] things h = ap (addresses_of k) (sym (same_Some _ _ h))
addresses_are supply k (x ∷ is) things h =
    let t = and_then_is (supply x) _ things h in
    let r = and_then_is (all_there supply is) _ things t.2 in
    ap (addresses_of k) (sym (same_Some _ _ r.2)) ∙ ap₂ cons_option (sym (ap (λ o. o >>= address_of k) t.1)) (addresses_are supply k is r.0 r.1)

of_its_kind : (k : Space) (thing : ℕ → ExternalValue) → ((a : ℕ) → address_of k (thing a) ≡ Some a) → (o : Option ℕ) → ((o >>= λ a. Some (thing a)) >>= address_of k) ≡ o
of_its_kind k thing h None = refl
of_its_kind k thing h (Some a) = h a

of_another : (k : Space) (thing : ℕ → ExternalValue) → ((a : ℕ) → address_of k (thing a) ≡ None) → (o : Option ℕ) → ((o >>= λ a. Some (thing a)) >>= address_of k) ≡ None
of_another k thing h None = refl
of_another k thing h (Some a) = h a

module _ (namespace : ℕ → List ℕ) (names : SplitNames) (m : Module) (holds : ItemsHold m) (moved : List ℕ) (can : CanMove m moved) (primary_holds : ItemsHold (primary_with namespace names.export_prefix m moved)) (own : List ℕ) (before : ℕ) (slots : HasSlots moved own before) (i : Inst) (s : Store)
    (typed : IsTyped (first namespace names m holds moved can primary_holds own before slots) i s) where
  abbrev pub loads : Module
  loads = second namespace names m holds moved can primary_holds own before slots i s typed

  abbrev pub tree : Module
  tree = second_tree namespace names m holds moved can primary_holds own before slots i s typed

  abbrev pub keeps : IsWithDeclared tree loads (declared_refs tree)
  keeps = second_keeps namespace names m holds moved can primary_holds own before slots i s typed

  abbrev pub given : Import → Option ExternalValue
  given = supply namespace names m holds moved can primary_holds own before slots i s typed

  abbrev named_by_field : (field : List ℕ) (d : ImportDesc) → given (record { «module» = names.import_namespace; field = field; desc = d }) ≡ (export_named (first namespace names m holds moved can primary_holds own before slots).exports field >>= (address_in i))
  named_by_field = by_field namespace names m holds moved can primary_holds own before slots i s typed

  abbrev for_slots : Import
  for_slots = slots_import namespace names m holds moved can primary_holds own before slots i s typed

  abbrev first_map : Remap
  first_map = primary_map m moved

  abbrev second_map : Remap
  second_map = secondary_map m moved own

  abbrev shared : Space → List ℕ
  shared = from_primary m moved own

  abbrev from : Space → List Import
  from space = imports_from_primary names.import_namespace names.export_prefix m space (shared space)

  abbrev at_kind : Space → Import → Option ℕ
  at_kind k x = given x >>= address_of k

  -- The address that the instance of the primary module has for an index of the module.
  abbrev func_there : ℕ → Option ℕ
  func_there x = slice_get i.funcs (slice_index first_map.funcs x)

  abbrev table_there : ℕ → Option ℕ
  table_there x = slice_get i.tables (slice_index first_map.tables x)

  abbrev memory_there : ℕ → Option ℕ
  memory_there x = slice_get i.mems (slice_index first_map.mems x)

  abbrev global_there : ℕ → Option ℕ
  global_there x = slice_get i.globals (slice_index first_map.globals x)

  -- ---- the imports of each space ----

  part : (k space : Space) (value : ℕ → Option ℕ) (is : List ℕ) → ((n x : ℕ) → slice_get is n ≡ Some x → x < length (entities m space)) →
      ((n x : ℕ) → slice_get is n ≡ Some x → ((export_named (first namespace names m holds moved can primary_holds own before slots).exports (name_from_primary names.export_prefix space x) >>= (address_in i)) >>= address_of k) ≡ value x) →
      filter_map (at_kind k) (imports_from_primary names.import_namespace names.export_prefix m space is) ≡ filter_map value is
  part k space value [] there h = refl
  part k space value (x ∷ is) there h =
      let d = slice_get_there (entities m space) x (there 0 x refl) in
      ap (λ o. filter_map (at_kind k) (cons_option (option_map (λ d. record { «module» = names.import_namespace; field = name_from_primary names.export_prefix space x; desc = d }) o) (imports_from_primary names.import_namespace names.export_prefix m space is))) d.1
      ∙ ap₂ cons_option (ap (λ o. o >>= address_of k) (named_by_field (name_from_primary names.export_prefix space x) d.0) ∙ h 0 x refl) (part k space value is (λ n. there (suc n)) (λ n. h (suc n)))

  within : (space : Space) (n x : ℕ) → slice_get (shared space) n ≡ Some x → x < length (entities m space)
  within space n x at = (shared_within m moved own space n x at).0

  funcs_part : (k : Space) (value : ℕ → Option ℕ) → ((x : ℕ) → ((func_there x >>= λ a. Some (FuncAt a)) >>= address_of k) ≡ value x) → filter_map (at_kind k) (from Functions) ≡ filter_map value (shared Functions)
  funcs_part k value h = part k Functions value (shared Functions) (within Functions) (λ n x at.
      let w = shared_within m moved own Functions n x at in ap (λ e. (e >>= (address_in i)) >>= address_of k) (func_exported namespace names.export_prefix m moved primary_holds own before slots x w.0 w.1) ∙ h x)

  tables_part : (k : Space) (value : ℕ → Option ℕ) → ((x : ℕ) → ((table_there x >>= λ a. Some (TableAt a)) >>= address_of k) ≡ value x) → filter_map (at_kind k) (from Tables) ≡ filter_map value (shared Tables)
  tables_part k value h = part k Tables value (shared Tables) (within Tables) (λ n x at.
      let w = shared_within m moved own Tables n x at in ap (λ e. (e >>= (address_in i)) >>= address_of k) (table_exported namespace names.export_prefix m moved primary_holds own before slots x w.0 w.1) ∙ h x)

  mems_part : (k : Space) (value : ℕ → Option ℕ) → ((x : ℕ) → ((memory_there x >>= λ a. Some (MemoryAt a)) >>= address_of k) ≡ value x) → filter_map (at_kind k) (from Memories) ≡ filter_map value (shared Memories)
  mems_part k value h = part k Memories value (shared Memories) (within Memories) (λ n x at.
      let w = shared_within m moved own Memories n x at in ap (λ e. (e >>= (address_in i)) >>= address_of k) (memory_exported namespace names.export_prefix m moved primary_holds own before slots x w.0 w.1) ∙ h x)

  globals_part : (k : Space) (value : ℕ → Option ℕ) → ((x : ℕ) → ((global_there x >>= λ a. Some (GlobalAt a)) >>= address_of k) ≡ value x) → filter_map (at_kind k) (from Globals) ≡ filter_map value (shared Globals)
  globals_part k value h = part k Globals value (shared Globals) (within Globals) (λ n x at.
      let w = shared_within m moved own Globals n x at in ap (λ e. (e >>= (address_in i)) >>= address_of k) (global_exported namespace names.export_prefix m moved primary_holds own before slots x w.0 w.1) ∙ h x)

  slots_part : (k : Space) → at_kind k for_slots ≡ ((table_there (slot_table m) >>= λ a. Some (TableAt a)) >>= address_of k)
  slots_part k = ap (λ o. o >>= address_of k) (named_by_field (slots_name names.export_prefix) (im.Table (slot_table_type (length moved)))) ∙ ap (λ e. (e >>= (address_in i)) >>= address_of k) (slots_exported namespace names.export_prefix m moved primary_holds)

  module _ (things : List ExternalValue) (supplied : all_there given loads.imports ≡ Some things) where
    -- The instance of the secondary module.
    abbrev pub j : Inst
    j = next_inst s loads things

    all_parts : (k : Space) (fs ts ms gs : List ℕ) (o : Option ℕ) → filter_map (at_kind k) (from Functions) ≡ fs → filter_map (at_kind k) (from Tables) ≡ ts → at_kind k for_slots ≡ o → filter_map (at_kind k) (from Memories) ≡ ms → filter_map (at_kind k) (from Globals) ≡ gs →
        addresses_of k things ≡ fs ++ (ts ++ cons_option o (ms ++ gs))
    all_parts k fs ts ms gs o f t e g h =
        addresses_are given k loads.imports things supplied
        ∙ ap (filter_map (at_kind k)) keeps.imports
        ∙ chosen_mapped (at_kind k) (new_import second_map) (λ x. refl) (secondary_imports names m moved own)
        ∙ filter_map-append (at_kind k) (from Functions) (from Tables ++ (for_slots ∷ (from Memories ++ from Globals)))
        ∙ ap₂ (λ xs ys. xs ++ ys) f (filter_map-append (at_kind k) (from Tables) (for_slots ∷ (from Memories ++ from Globals)) ∙ ap₂ (λ xs ys. xs ++ ys) t (ap₂ cons_option e (filter_map-append (at_kind k) (from Memories) (from Globals) ∙ ap₂ (λ xs ys. xs ++ ys) g h)))

    none : (k : Space) (thing : ℕ → ExternalValue) (there : ℕ → Option ℕ) → ((a : ℕ) → address_of k (thing a) ≡ None) → (x : ℕ) → ((there x >>= λ a. Some (thing a)) >>= address_of k) ≡ None
    none k thing there h x = of_another k thing h (there x)

    func_addresses : addresses_of Functions things ≡ filter_map func_there (shared Functions)
    func_addresses =
        all_parts Functions (filter_map func_there (shared Functions)) [] [] [] None (funcs_part Functions func_there (λ x. of_its_kind Functions FuncAt (λ a. refl) (func_there x)))
        (tables_part Functions (λ x. None) (none Functions TableAt table_there (λ a. refl)) ∙ none_chosen (shared Tables)) (slots_part Functions ∙ none Functions TableAt table_there (λ a. refl) (slot_table m))
        (mems_part Functions (λ x. None) (none Functions MemoryAt memory_there (λ a. refl)) ∙ none_chosen (shared Memories)) (globals_part Functions (λ x. None) (none Functions GlobalAt global_there (λ a. refl)) ∙ none_chosen (shared Globals))
        ∙ append-nil (filter_map func_there (shared Functions))

    table_addresses : addresses_of Tables things ≡ filter_map table_there (shared Tables) ++ cons_option (table_there (slot_table m)) []
    table_addresses =
        all_parts Tables [] (filter_map table_there (shared Tables)) [] [] (table_there (slot_table m)) (funcs_part Tables (λ x. None) (none Tables FuncAt func_there (λ a. refl)) ∙ none_chosen (shared Functions))
        (tables_part Tables table_there (λ x. of_its_kind Tables TableAt (λ a. refl) (table_there x))) (slots_part Tables ∙ of_its_kind Tables TableAt (λ a. refl) (table_there (slot_table m)))
        (mems_part Tables (λ x. None) (none Tables MemoryAt memory_there (λ a. refl)) ∙ none_chosen (shared Memories)) (globals_part Tables (λ x. None) (none Tables GlobalAt global_there (λ a. refl)) ∙ none_chosen (shared Globals))

    memory_addresses : addresses_of Memories things ≡ filter_map memory_there (shared Memories)
    memory_addresses =
        all_parts Memories [] [] (filter_map memory_there (shared Memories)) [] None (funcs_part Memories (λ x. None) (none Memories FuncAt func_there (λ a. refl)) ∙ none_chosen (shared Functions))
        (tables_part Memories (λ x. None) (none Memories TableAt table_there (λ a. refl)) ∙ none_chosen (shared Tables)) (slots_part Memories ∙ none Memories TableAt table_there (λ a. refl) (slot_table m))
        (mems_part Memories memory_there (λ x. of_its_kind Memories MemoryAt (λ a. refl) (memory_there x))) (globals_part Memories (λ x. None) (none Memories GlobalAt global_there (λ a. refl)) ∙ none_chosen (shared Globals))
        ∙ append-nil (filter_map memory_there (shared Memories))

    global_addresses : addresses_of Globals things ≡ filter_map global_there (shared Globals)
    global_addresses =
        all_parts Globals [] [] [] (filter_map global_there (shared Globals)) None (funcs_part Globals (λ x. None) (none Globals FuncAt func_there (λ a. refl)) ∙ none_chosen (shared Functions))
        (tables_part Globals (λ x. None) (none Globals TableAt table_there (λ a. refl)) ∙ none_chosen (shared Tables)) (slots_part Globals ∙ none Globals TableAt table_there (λ a. refl) (slot_table m))
        (mems_part Globals (λ x. None) (none Globals MemoryAt memory_there (λ a. refl)) ∙ none_chosen (shared Memories)) (globals_part Globals global_there (λ x. of_its_kind Globals GlobalAt (λ a. refl) (global_there x)))

    -- ---- one index ----

    -- The place of a shared entity among the imported ones.
    place_of : (space : Space) (x : ℕ) → x < length (entities m space) → is_from_primary moved (defined_at m own) space x ≡ true → slice_get (shared space) (kept_before (marks_from_primary m moved own space) x) ≡ Some x
    place_of space x lt h = let e : 0 + x ≡ x = omega arith in place_at (marks_from_primary m moved own space) 0 x (marked_at m moved own space x lt h) ∙ ap Some e

    new_index : (space : Space) (more : List ℕ) (x : ℕ) → x < length (entities m space) → slice_index (new_places (marks_from_primary m moved own space) ++ more) x ≡ kept_before (marks_from_primary m moved own space) x
    new_index space more x lt =
        let many = second_spaces.places_many names m holds moved own before space in
        let marked = length-map (numbers 0 (length (entities m space))) (is_from_primary moved (defined_at m own) space) in
        let counted = length-numbers 0 (length (entities m space)) in
        index_left (new_places (marks_from_primary m moved own space)) more x (omega (arith, many, lt)) ∙ new_place (marks_from_primary m moved own space) x (omega (arith, marked, counted, lt))

    -- A shared entity has an address where all shared entities of its index space have one.
    shared_at : (space : Space) (there : ℕ → Option ℕ) → ((n x : ℕ) → slice_get (shared space) n ≡ Some x → (a : ℕ) × (there x ≡ Some a)) → (x : ℕ) → x < length (entities m space) → is_from_primary moved (defined_at m own) space x ≡ true →
        slice_get (filter_map there (shared space)) (kept_before (marks_from_primary m moved own space) x) ≡ there x
    shared_at space there each x lt h = all_chosen there (shared space) each (kept_before (marks_from_primary m moved own space) x) x (place_of space x lt h)

    func_each : (n x : ℕ) → slice_get (shared Functions) n ≡ Some x → (a : ℕ) × (func_there x ≡ Some a)
    func_each n x at =
        let w = shared_within m moved own Functions n x at in
        let many = length-map (funcs_of m) im.Func in
        let lt = w.0 in
        let ty = slice_get_there (funcs_of m) x (omega (arith, lt, many)) in
        let o = func_offered namespace names m holds moved can primary_holds own before slots i s typed x ty.0 w.1 ty.1 in
        let a = and_then_is (func_there x) _ o.0 o.1 in
        (a.0, a.1)

    table_each : (n x : ℕ) → slice_get (shared Tables) n ≡ Some x → (a : ℕ) × (table_there x ≡ Some a)
    table_each n x at =
        let lt = within Tables n x at in
        let many = length-map (tables_of m) im.Table in
        let t = slice_get_there (tables_of m) x (omega (arith, lt, many)) in
        let o = table_offered namespace names m holds moved can primary_holds own before slots i s typed x t.0 t.1 in
        let a = and_then_is (table_there x) _ o.0 o.1 in
        (a.0, a.1)

    memory_each : (n x : ℕ) → slice_get (shared Memories) n ≡ Some x → (a : ℕ) × (memory_there x ≡ Some a)
    memory_each n x at =
        let lt = within Memories n x at in
        let many = length-map (memories_of m) im.Memory in
        let t = slice_get_there (memories_of m) x (omega (arith, lt, many)) in
        let o = memory_offered namespace names m holds moved can primary_holds own before slots i s typed x t.0 t.1 in
        let a = and_then_is (memory_there x) _ o.0 o.1 in
        (a.0, a.1)

    global_each : (n x : ℕ) → slice_get (shared Globals) n ≡ Some x → (a : ℕ) × (global_there x ≡ Some a)
    global_each n x at =
        let lt = within Globals n x at in
        let many = length-map (globals_of m) im.Global in
        let t = slice_get_there (globals_of m) x (omega (arith, lt, many)) in
        let o = global_offered namespace names m holds moved can primary_holds own before slots i s typed x t.0 t.1 in
        let a = and_then_is (global_there x) _ o.0 o.1 in
        (a.0, a.1)

    -- The instance of the primary module has an address for the slot table.
    pub slots_there : (a : ℕ) × (table_there (slot_table m) ≡ Some a)
    slots_there = let o = slots_offered namespace names m holds moved can primary_holds own before slots i s typed in let a = and_then_is (table_there (slot_table m)) _ o.0 o.1 in (a.0, a.1)

    -- The new index of a shared entity names its address.
    goes : (space : Space) (there : ℕ → Option ℕ) → ((n x : ℕ) → slice_get (shared space) n ≡ Some x → (a : ℕ) × (there x ≡ Some a)) → (addresses more : List ℕ) → addresses ≡ filter_map there (shared space) ++ more → (rest entries : List ℕ) →
        (x : ℕ) → x < length (entities m space) → is_from_primary moved (defined_at m own) space x ≡ true → slice_get (addresses ++ rest) (slice_index (new_places (marks_from_primary m moved own space) ++ entries) x) ≡ there x
    goes space there each addresses more are rest entries x lt h =
        let p = place_of space x lt h in
        let a = each (kept_before (marks_from_primary m moved own space) x) x p in
        ap (slice_get (addresses ++ rest)) (new_index space entries x lt)
        ∙ append_at_left addresses rest (kept_before (marks_from_primary m moved own space) x) a.0
        (ap (λ l. slice_get l (kept_before (marks_from_primary m moved own space) x)) are ∙ append_at_left (filter_map there (shared space)) more (kept_before (marks_from_primary m moved own space) x) a.0 (shared_at space there each x lt h ∙ a.1))
        ∙ sym a.1

    pub names_primarys : NamesWhatThePrimaryHas m moved own i j
    names_primarys = record {
      types = keeps.types;
      funcs = λ x lt h. let many = length-map (funcs_of m) im.Func in
          goes Functions func_there func_each (addresses_of Functions things) [] (func_addresses ∙ sym (append-nil _)) _ _ x (omega (arith, lt, many)) h;
      tables = λ x lt h. let many = length-map (tables_of m) im.Table in
          goes Tables table_there table_each (addresses_of Tables things) (cons_option (table_there (slot_table m)) []) table_addresses _ _ x (omega (arith, lt, many)) h ∙ ap (slice_get i.tables) (numbers_index (suc (length (tables_of m))) x (omega (arith, lt)));
      mems = λ x lt h. let many = length-map (memories_of m) im.Memory in
          ap (λ es. slice_get j.mems (slice_index es x)) (sym (append-nil (new_places (marks_from_primary m moved own Memories)))) ∙ goes Memories memory_there memory_each (addresses_of Memories things) [] (memory_addresses ∙ sym (append-nil _)) _ [] x (omega (arith, lt, many)) h
          ∙ ap (slice_get i.mems) (numbers_index (length (memories_of m)) x lt);
      globals = λ x lt h. let many = length-map (globals_of m) im.Global in
          ap (λ es. slice_get j.globals (slice_index es x)) (sym (append-nil (new_places (marks_from_primary m moved own Globals)))) ∙ goes Globals global_there global_each (addresses_of Globals things) [] (global_addresses ∙ sym (append-nil _)) _ [] x (omega (arith, lt, many)) h
          ∙ ap (slice_get i.globals) (numbers_index (length (globals_of m)) x lt);
      slots = slots_name_it;
    }
      where
        slots_name_it : slice_get j.tables (slice_index second_map.tables (slot_table m)) ≡ slice_get i.tables (slot_table m)
        slots_name_it =
            let n = length (shared Tables) in
            let many = length-map (tables_of m) im.Table in
            let zero_more : length (tables_of m) + 0 ≡ length (tables_of m) = omega arith in
            let entry : slice_index second_map.tables (slot_table m) ≡ n =
            ap (slice_index second_map.tables) (sym zero_more) ∙ index_right (new_places (marks_from_primary m moved own Tables)) (n ∷ []) (length (tables_of m)) 0 n (sym many ∙ sym (second_spaces.places_many names m holds moved own before Tables)) refl in
            let count : length (filter_map table_there (shared Tables)) ≡ n = all_counted table_there (shared Tables) table_each in
            let last : n ≡ length (filter_map table_there (shared Tables)) + 0 = omega (arith, count) in
            let t = slots_there in
            let at : slice_get (addresses_of Tables things) n ≡ Some t.0 =
            ap (slice_get (addresses_of Tables things)) last ∙ ap (λ l. slice_get l (length (filter_map table_there (shared Tables)) + 0)) table_addresses ∙ append_right (filter_map table_there (shared Tables)) (cons_option (table_there (slot_table m)) []) 0 ∙
            ap (λ o. slice_get (cons_option o []) 0) t.1 in
            ap (slice_get j.tables) entry ∙ append_at_left (addresses_of Tables things) _ n t.0 at ∙ sym t.1 ∙ ap (slice_get i.tables) (numbers_index (suc (length (tables_of m))) (slot_table m) (omega arith))

    -- ---- its own functions ----

    -- The imports of functions denote as many addresses.
    funcs_imported : length (addresses_of Functions things) ≡ length (imported_funcs tree.imports)
    funcs_imported =
        let a = ap length func_addresses in
        let b = all_counted func_there (shared Functions) func_each in
        let marked = length-map (numbers 0 (length (entities m Functions))) (is_from_primary moved (defined_at m own) Functions) in
        let counted = length-numbers 0 (length (entities m Functions)) in
        let many = length-map (funcs_of m) im.Func in
        let c = kept_counted (marks_from_primary m moved own Functions) (funcs_of m) 0 (omega (arith, marked, counted, many)) in
        let d = ap length (second_spaces.imported_funcs_are names m holds moved own before) in
        omega (arith, a, b, c, d)

    -- The instance has as many functions as the secondary module.
    pub funcs_counted : length j.funcs ≡ length (funcs_of loads)
    funcs_counted =
        let a = funcs_imported in
        let b = ap (λ is. length (imported_funcs is)) keeps.imports in
        let c = length-append (addresses_of Functions things) (numbers (length s.funcs) (length loads.funcs)) in
        let d = length-numbers (length s.funcs) (length loads.funcs) in
        let e = length-append (imported_funcs loads.imports) (map (λ f. f.ty) loads.funcs) in
        let f = length-map loads.funcs (λ f. f.ty) in
        omega (arith, a, b, c, d, e, f)

    pub own_named : (p : ℕ) → p < length own → slice_get j.funcs (slice_index second_map.funcs (length (funcs_of m) + p)) ≡ Some (length s.funcs + p)
    own_named p lt =
        let own_moves = own_can m moved own before slots can in
        let entry = second_spaces.own_entry names m holds moved own before own_moves p lt in
        let a = funcs_imported in
        let e : length (imported_funcs tree.imports) + p ≡ length (addresses_of Functions things) + p = omega (arith, a) in
        let f = ap length keeps.funcs in
        let g = length-map (map (secondary_func m moved own) (defined_at m own)) (new_func second_map) in
        let h = length-map (defined_at m own) (secondary_func m moved own) in
        let n = second_spaces.own_many names m holds moved own before own_moves in
        ap (slice_get j.funcs) (entry ∙ e) ∙ append_right (addresses_of Functions things) (numbers (length s.funcs) (length loads.funcs)) p ∙ numbers_at (length s.funcs) (length loads.funcs) p (omega (arith, f, g, h, n, lt))
