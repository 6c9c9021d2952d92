-- All imports of the parts match exactly if all imports of the merged module do.
use Rattle.base_lists.proofs.Common.{◌≡◌, ℕ, ◌+◌, ◌-◌, ◌≤◌, List, ◌++◌, length, Some, refl, sym, arith, Option, None, true, option_and_then, slice_get, and_then_is, map_from, append_right, same_tests, is_kept, chosen_from, has_chosen, list_all_each, list_all_from, map, map-id, copies_length}
use Rattle.base_lists.proofs.Common.{then_eq, numbers_at, ◌<◌, places_many}
use Rattle.std.proofs.Common.{eq-eqb}
use Rattle.wasm_tree_spec.specs.Prelude.{Space, Functions, Tables, Memories, Globals, FuncType, ExportDesc, Module, type_of_func, index_of_export, space_of_export, Import, imported_funcs, imported_tables, imported_memories, imported_globals}
use Rattle.wasm_meaning.specs.Prelude.{Inst, Store, type_at, imports_of, module_at, Part, Site, import_at, is_outside, sites, linked_end, met_limits, Environment, owned_of, all_of, base, external_value_at, own_store, stores_from, outside_external_value, is_matched, defined_external_value}
use Rattle.wasm_meaning.specs.Prelude.{defined_count, Outside}
use Rattle.world_simulation.specs.Prelude.{Instantiated, DefinedAt, HasDefinitions, one, site}
use Rattle.merge_spec.specs.Prelude.{External, external_of, asked_at, stays, link_fault, merged_import, merged_desc, joined_module}
use Rattle.merge_proof.proofs.ExternalTypes.{type_in, fits_type, type_same, kept, kept_fits, fits_kept, site_limits, matched_is, type_fits, demands_met}
use Rattle.run_simulation.specs.Prelude.{StoreRel}
use Rattle.merge_names.specs.declared.mode.Mode.{Mode}
use Rattle.merge_spec.specs.Merged.{staying}
use Rattle.merge_proof.specs.ImportEnds.{inside, outside}
use Rattle.merge_proof.specs.AgreeingInstances.{InstancesAgree}
use Rattle.merge_proof.specs.SharedAddresses.{sharing}
use Rattle.merge_proof.proofs.SpaceLaws.{SpaceLaws}
use Rattle.merge_proof.proofs.Counterparts.{outside_rel}
use Rattle.merge_proof.proofs.MergedAlone.{IsStaying, staying_is, import_is, moved_thing, joined_types, joined_imports}
use Rattle.wasm_tree.specs.declared.module.ExportDesc.TheVariants as ex

-- ---- the external types of the entities that a part defines ----

module _ (env : Environment) (w : Instantiated) (s : Store) (has : HasDefinitions env w s) (q : ℕ) (m : Module) (i : Inst) (is : module_at w.parts q ≡ Some m) (there : slice_get w.insts q ≡ Some i) (types : i.types ≡ m.types) where
  abbrev place : Space → ℕ → ℕ
  place k n = n - length (imports_of k m)

  abbrev address : Space → ℕ → ℕ
  address k n = base env w.parts k q + place k n

  -- An index after the imports belongs to a definition of the module, and what is looked up for the
  -- index is that of the definition.
  abbrev defined : (k : Space) {A B C : Type 0} (definitions : Module → List A) (entry : A → B) (imported : List B) (found : B → Option C) {entries : List B} {n : ℕ} {x : C} → length (imports_of k m) ≡ length imported → entries ≡ map entry (definitions m) →
      length (imports_of k m) ≤ n → option_and_then found (slice_get (imported ++ entries) n) ≡ Some x → (d : DefinedAt env w k definitions (address k n)) × (found (entry d.definition) ≡ Some x)
  defined k definitions entry imported found {entries} {n} {x} many are le h =
      let b = and_then_is (slice_get (imported ++ entries) n) found x h in
      let at_n : length imported + place k n ≡ n = omega arith in
      let d = map_from entry (definitions m) (place k n) b.0 (rw (← are, ← append_right imported entries (place k n), at_n) b.1) in
      (record { part = q; of = m; is_part = is; inst = i; is_inst = there; place = place k n; definition = d.0; stands = d.1; address = refl }, rw d.2 b.2)

  pub func_typed : (n : ℕ) (t : FuncType) → length (imports_of Functions m) ≤ n → type_of_func m n ≡ Some t → type_at s (address Functions n) ≡ Some t
  func_typed n t le h =
      let many : length (imports_of Functions m) ≡ length (imported_funcs m.imports) = places_many _ _ m.imports (grind arith) 0 in
      let f = defined Functions (λ m. m.funcs) (λ f. f.ty) _ _ many refl le h in
      let x = has.funcs f.0 in
      grind arith

  pub defined_type : (what : ExportDesc) (x : External) → external_of m what ≡ Some x → length (imports_of (space_of_export what) m) ≤ index_of_export what →
      option_and_then (type_in s) (external_value_at (space_of_export what) (address (space_of_export what) (index_of_export what))) ≡ Some x
  defined_type (ex.Func n) x h le = grind (arith, func_typed n)
  defined_type (ex.Table n) x h le =
      let many : length (imports_of Tables m) ≡ length (imported_tables m.imports) = places_many _ _ m.imports (grind arith) 0 in
      let d = defined Tables (λ m. m.tables) (λ t. t) _ _ many (sym (map-id _)) le h in
      grind (arith, has.tables d.0, copies_length)
  defined_type (ex.Memory n) x h le =
      let many : length (imports_of Memories m) ≡ length (imported_memories m.imports) = places_many _ _ m.imports (grind arith) 0 in
      let d = defined Memories (λ m. m.mems) (λ l. l) _ _ many (sym (map-id _)) le h in
      rw (has.mems d.0) d.1
  defined_type (ex.Global n) x h le =
      let many : length (imports_of Globals m) ≡ length (imported_globals m.imports) = places_many _ _ m.imports (grind arith) 0 in
      let d = defined Globals (λ m. m.globals) (λ g. g.ty) _ _ many refl le h in
      let p = has.globals d.0 in
      grind arith

-- ---- all imports ----

linked_to : (parts : List Part) (u t : Site) → is_outside u (linked_end parts t) ≡ true → linked_end parts t ≡ Some (Outside u)
linked_to parts u t h = grind arith

module _ (laws : SpaceLaws) (env : Environment) (parts : List Part) (linked : link_fault parts true ≡ None) (mode : Mode) where
  abbrev whole : Module
  whole = joined_module parts mode

  -- The external type of the external value that a staying import denotes.
  abbrev own_type : Store → Site → Option External
  own_type s u = option_and_then (type_in s) (outside_external_value (owned_of env) parts u)

  module _ {s z : Store} (like : StoreRel (sharing env parts) s z) where
    abbrev AllMatch : Type 0
    AllMatch = all_of (is_matched env parts s) (sites parts) ≡ true

    -- If all imports match, the type of the external value that a staying import denotes fits what
    -- each import asks for that ends at it.
    ends_at : AllMatch → (u t : Site) (i : Import) → import_at parts t ≡ Some i → linked_end parts t ≡ Some (Outside u) → (demand : External) × (asked_at parts t ≡ Some demand) × (fits_type demand (own_type s u) ≡ true)
    ends_at all u t i at h =
        elim (laws.ends parts linked t i at) [
          | inside w ↦ cc (w.linked, h)
          | outside w ↦ (w.demand, w.asks, grind (arith, w.same_thing (owned_of env), type_fits env parts s t i w.demand at w.asks laws.sites all))
        ]

    -- ---- an import that stays, in the merged module ----

    -- A staying import asks for the same in the merged module, with the limits that are asked for
    -- together, and matches exactly if the type of the external value that it denotes fits.
    site_matched : (u : Site) (w : IsStaying parts u) (y : External) → asked_at parts u ≡ Some y → (n : ℕ) → slice_get whole.imports n ≡ Some (record w.import { desc = merged_desc parts u w.of w.import.desc }) →
        is_matched env (one whole) z (site n) ≡ fits_type (kept y (met_limits parts u)) (own_type s u)
    site_matched u w y asks n stands =
        -- The environment's own entity has one type in both stores.
        let own_same = then_eq (outside_rel env parts laws.own u) (λ _ _. type_same like) in
        grind (arith, matched_is env (one whole) z (site n) _ (kept y (met_limits parts u)) stands, laws.things env whole n, joined_types parts mode, laws.types parts u.part w.of, moved_thing laws env parts linked u w)

    -- ---- both stores ----

    merged_matches : AllMatch → all_of (is_matched env (one whole) z) (sites (one whole)) ≡ true
    merged_matches all = list_all_from _ _ (λ n t stands.
        let x = (laws.sites (one whole) t).0 n stands in
        let only : t ≡ site t.import = grind arith in
        let c = chosen_from (merged_import parts) (staying parts) t.import x.0 (grind (arith, joined_imports parts mode)) in
        let u = c.0 in
        let w = staying_is laws parts c.1.0 u c.1.1 in
        let y = ends_at all u u w.import w.at (laws.stays parts linked u w.import w.at w.remains).1 in
        rw (only, site_matched u w y.0 y.1 t.import (grind (arith, import_is parts u w)))
        -- The limits of the entity that the import denotes meet those that are asked for together.
        (kept_fits parts u y.0 (own_type s u) y.2 (λ t i at h. ends_at all u t i at (linked_to parts u t h))))

    module _ (insts js : List Inst) (agree : InstancesAgree env parts insts js) (made : stores_from env parts insts (own_store env) 0 parts insts ≡ Some s) where
      all_parts_match : all_of (is_matched env (one whole) z) (sites (one whole)) ≡ true → AllMatch
      unfolding staying
      all_parts_match all = list_all_from _ _ (λ k t stands.
          let i = (laws.sites parts t).0 k stands in
          elim (laws.ends parts linked t i.0 i.1) [
            | inside w ↦
                let e = w.entity in
                let kd = space_of_export e.what in
                let here : index_of_export e.what - length (imports_of kd w.of) < defined_count kd w.of → defined_external_value env parts e ≡ external_value_at kd (base env parts kd e.part + (index_of_export e.what - length (imports_of kd w.of))) =
                λ low. rw (w.is_part, numbers_at _ _ _ low) in
                let a = agree.each e.part w.of w.is_part in
                let type = defined_type env (record { parts = parts; insts = insts }) s (laws.placed env (record { parts = parts; insts = insts }) s made) e.part w.of a.0 w.is_part a.1 a.2.own_types e.what w.thing w.is (grind arith) in
                grind (arith, matched_is env parts s t i.0 w.demand i.1 w.asks, here)
            | outside w ↦
                let u = w.to in
                let place = (laws.sites parts u).1 w.import w.at in
                let a = is_kept (stays parts) (sites parts) place.0 u place.1 w.remains in
                let v = staying_is laws parts a.0 u a.1 in
                let c = has_chosen (merged_import parts) (staying parts) a.0 u _ a.1 (import_is parts u v) in
                let moved = rw (← joined_imports parts mode) at c.1 in
                let n = (laws.sites (one whole) (site c.0)).1 _ moved in
                let f = rw (site_matched u v w.thing w.is c.0 moved) at (list_all_each _ _ all n.0 (site c.0) n.1) in
                rw (matched_is env parts s t i.0 w.demand i.1 w.asks, w.end, w.same_thing (owned_of env)) (fits_kept w.demand w.thing (own_type s u) (met_limits parts u) w.same f
                (λ l e size most h. grind (arith, list_all_each _ _ (rw demands_met at h) k t stands, eq-eqb u.part u.part refl, eq-eqb u.import u.import refl, site_limits parts t i.0 w.demand)))
          ])

      pub all_matched : all_of (is_matched env parts s) (sites parts) ≡ all_of (is_matched env (one whole) z) (sites (one whole))
      all_matched = same_tests _ _ merged_matches all_parts_match
