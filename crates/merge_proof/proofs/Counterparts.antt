-- The entity that each entry of a part's index space denotes, in the parts' world and in the merged
-- module: a definition of a part, found by its number among all definitions, or an import that
-- stays.
use Rattle.base_lists.proofs.Common.{◌≡◌, ℕ, ◌+◌, ◌-◌, ◌<◌, List, length, Option, Some, None, true, arith, option_and_then, slice_get, place_back, slice_get_past, opt_self, then_same_is, then_rel, numbers_at}
use Rattle.wasm_tree_spec.specs.Prelude.{Space, Module, index_of_export, space_of_import, space_of_export}
use Rattle.wasm_meaning.specs.Prelude.{Part, Site, Defined, Outside, has_kind, module_at, import_at, imports_of, Environment, owned_of, same_key, own_count, defined_count, defined_before, address_of, own_key, outside_external_value, base, external_value_at, defined_external_value}
use Rattle.merge_spec.specs.Prelude.{link_fault, staying_of, new_index}
use Rattle.merge_proof.specs.ImportEnds.{inside, outside, is_external}
use Rattle.run_simulation.specs.Prelude.{OptRel, ExternalValueRel}
use Rattle.world_simulation.proofs.EnvironmentEntities.{look_rel, address_rel}
use Rattle.world_simulation.specs.Prelude.{OwnEntitiesCorrespond, import_address, SpaceEntry, imports, defines}
use Rattle.merge_proof.specs.SharedAddresses.{shared_count, is_shared, sharing}
use Rattle.merge_proof.proofs.SpaceLaws.{SpaceLaws}
use Rattle.merge_proof.proofs.SharedPairing.{is_same, shares_own}

-- ---- the environment's own ----

module _ (env : Environment) (parts : List Part) where
  -- The number of definitions of a kind in all parts.
  abbrev pub total : Space → ℕ
  total k = defined_before k parts (length parts)

  -- ---- addresses ----

  -- The address of the environment's entity that a staying import denotes.
  abbrev pub site_address : Space → Site → Option ℕ
  site_address k s = option_and_then (address_of k) (outside_external_value (owned_of env) parts s)

  -- The external value that a staying import denotes is related to itself.
  pub outside_rel : OwnEntitiesCorrespond → (s : Site) → OptRel (ExternalValueRel (sharing env parts)) (outside_external_value (owned_of env) parts s) (outside_external_value (owned_of env) parts s)
  outside_rel law s =
      then_same_is (module_at parts s.part) (λ m _. then_same_is (import_at parts s) (λ i _. then_same_is (own_key m i) (λ key _. look_rel (sharing env parts) env (shares_own env parts) (same_key key) (law (is_shared env parts) env (shares_own env parts)).owned)))

  -- The address of a staying import is one that both worlds have.
  pub site_low : OwnEntitiesCorrespond → (k : Space) (s : Site) (a : ℕ) → site_address k s ≡ Some a → a < shared_count env parts k
  site_low law k s a h = (is_same env parts k a a (opt_self (then_rel (outside_rel law s) (λ _ _. address_rel (sharing env parts) k)) h)).1

  -- An address in the parts' world and an index of the merged module that denote one entity.
  pub data Stands (k : Space) (address : Option ℕ) (index : ℕ) : Type 0 where
    own : (d : ℕ) → d < total k → address ≡ Some (own_count k env + d) → index ≡ length (staying_of parts k) + d → Stands k address index
    stays : (u : Site) → slice_get (staying_of parts k) index ≡ Some u → address ≡ site_address k u → Stands k address index

  module _ (laws : SpaceLaws) (linked : link_fault parts true ≡ None) where
    -- The address of a part's import and its new index denote one entity.
    pub import_stands : (k : Space) (p : ℕ) (m : Module) (x n : ℕ) → module_at parts p ≡ Some m → slice_get (imports_of k m) x ≡ Some n → Stands k (import_address env parts k p n) (new_index parts p k x)
    import_stands k p m x n is h =
        let r = place_back (has_kind k) m.imports 0 x n h in
        let kind : k ≡ space_of_import r.1.desc = grind (arith, r.4) in
        let external : is_external (space_of_import r.1.desc) ≡ true = grind arith in
        let entry = (laws.indices parts p m k x is).0 n in
        elim (laws.ends parts linked (record { part = p; import = n }) r.1 (grind (arith, r.2))) [
          | inside w ↦
              let e = w.entity in
              let kd = space_of_export e.what in
              let here : index_of_export e.what - length (imports_of kd w.of) < defined_count kd w.of → defined_external_value env parts e ≡ external_value_at kd (base env parts kd e.part + (index_of_export e.what - length (imports_of kd w.of))) =
              λ low. rw (w.is_part, numbers_at _ _ _ low) in
              own (defined_before k parts e.part + (index_of_export e.what - length (imports_of k w.of)))
              (grind (arith, laws.within k parts e.part w.of))
              (grind (arith, here, external))
              (grind (arith, entry (Defined e) h, laws.defined parts e))
          | outside w ↦ stays w.to (grind (arith, entry (Outside w.to) h, laws.places parts w.to w.import w.at w.remains)) (grind (arith, w.same_thing (owned_of env)))
        ]

    -- The address that an index of a part names and its new index denote one entity.
    pub entry_stands : (k : Space) (p : ℕ) (m : Module) (x a : ℕ) → module_at parts p ≡ Some m → SpaceEntry env parts k p m x a → Stands k (Some a) (new_index parts p k x)
    entry_stands k p m x a is (imports n h e) = rw e at (import_stands k p m x n is h)
    entry_stands k p m x a is (defines j at l e) = own (defined_before k parts p + j) (omega (arith, laws.within k parts p m is)) (grind arith) (grind (arith, (laws.indices parts p m k x is).1, slice_get_past))
