-- The merged module alone: its imports are those that stay, and denote the same external values as
-- in the parts' world; the definitions of the parts follow them.
use Rattle.base_lists.proofs.Common.{◌≡◌, ◌∙◌, refl, sym, append-nil, ℕ, ◌+◌, List, [], ◌∷◌, ◌++◌, length, Option, Some, None, true, arith, option_and_then, slice_get, filter_map, length-map, kept_is, and_then_is}
use Rattle.wasm_tree_spec.specs.Prelude.{Space, Functions, DataSegments, ElementSegments, Import, Module}
use Rattle.wasm_meaning.specs.Prelude.{Text, Part, Site, has_kind, module_at, import_at, sites, Environment, owned_of, own_count, defined_before, address_of, outside_external_value, all_there, numbers, space}
use Rattle.index_remap.specs.Prelude.{declared_refs, with_declared}
use Rattle.world_simulation.specs.DeclaredReferences.{IsWithDeclared}
use Rattle.merge_names.specs.declared.mode.Mode.{Mode}
use Rattle.merge_names.specs.Names.{new_names}
use Rattle.merge_spec.specs.Prelude.{link_fault, stays, merged_types, merged_desc, imports_kind, export_names, named_exports, start_among, start_calls, starts}
use Rattle.merge_spec.specs.Merged.{merged, merged_import, staying, staying_of, all_exports, defined_funcs}
use Rattle.merge_spec.specs.Joined.{joined_module}
use Rattle.merge_proof.specs.ImportEnds.{added_count, is_external}
use Rattle.merge_proof.proofs.ListsByPart.{by_part_many}
use Rattle.world_simulation.specs.ModulesAlone.{one, external_value_in, addresses}
use Rattle.merge_proof.proofs.SpaceLaws.{SpaceLaws}
use Rattle.merge_proof.proofs.Counterparts.{site_address}
use Rattle.base_lists.proofs.Filtered.{at_places, of_chosen}

-- ---- with references declared ----

-- The names of the merged module's exports.
abbrev pub names_of : List Part → Mode → List (Option Text)
names_of parts mode = new_names mode (export_names parts)

pub joined_keeps : (parts : List Part) (mode : Mode) → IsWithDeclared (merged parts (names_of parts mode)) (joined_module parts mode) (declared_refs (merged parts (names_of parts mode)))
unfolding joined_module
joined_keeps parts mode =
    let m = merged parts (names_of parts mode) in
    elim (declared_refs m) as (λ fs. IsWithDeclared m (with_declared m fs) fs) [ [] ↦ assumption (sym (append-nil m.elems)) | f ∷ fs ↦ assumption ]

pub joined_types : (parts : List Part) (mode : Mode) → (joined_module parts mode).types ≡ merged_types parts
unfolding merged
joined_types parts mode = (joined_keeps parts mode).types

pub joined_imports : (parts : List Part) (mode : Mode) → (joined_module parts mode).imports ≡ filter_map (merged_import parts) (staying parts)
unfolding merged
joined_imports parts mode = (joined_keeps parts mode).imports

pub joined_exports : (parts : List Part) (mode : Mode) → (joined_module parts mode).exports ≡ named_exports (all_exports parts) (names_of parts mode)
unfolding merged
joined_exports parts mode = (joined_keeps parts mode).exports

pub joined_start : (parts : List Part) (mode : Mode) → (joined_module parts mode).start ≡ start_among (length (staying_of parts Functions) + defined_before Functions parts (length parts)) (starts parts)
unfolding merged
joined_start parts mode = (joined_keeps parts mode).start

pub joined_funcs : (parts : List Part) (mode : Mode) → (joined_module parts mode).funcs ≡ defined_funcs parts ++ start_calls parts (starts parts)
unfolding merged
joined_funcs parts mode = (joined_keeps parts mode).funcs

pub elems_many : (parts : List Part) (names : List (Option Text)) → length (merged parts names).elems ≡ defined_before ElementSegments parts (length parts)
unfolding merged
elems_many parts names = by_part_many _ ElementSegments (λ p m. length-map m.elems _) 0 parts

pub datas_many : (parts : List Part) (names : List (Option Text)) → length (merged parts names).datas ≡ defined_before DataSegments parts (length parts)
unfolding merged
datas_many parts names = by_part_many _ DataSegments (λ p m. length-map m.datas _) 0 parts

-- ---- an import that stays ----

pub record IsStaying (parts : List Part) (s : Site) : Type 0 where
  pub import : Import
  pub at : import_at parts s ≡ Some import
  pub remains : stays parts s ≡ true
  pub of : Module
  pub is_part : module_at parts s.part ≡ Some of
  pub stands : slice_get of.imports s.import ≡ Some import

-- A staying import becomes this import of the merged module.
pub import_is : (parts : List Part) (s : Site) (w : IsStaying parts s) → merged_import parts s ≡ Some (record w.import { desc = merged_desc parts s w.of w.import.desc })
unfolding merged_import
import_is parts s w = rw (w.is_part, w.stands) refl

pub staying_is : SpaceLaws → (parts : List Part) (n : ℕ) (s : Site) → slice_get (staying parts) n ≡ Some s → IsStaying parts s
unfolding staying
staying_is laws parts n s h =
    let k = kept_is (stays parts) (sites parts) n s h in
    let i = (laws.sites parts s).0 k.1.0 k.1.1 in
    let m = and_then_is (module_at parts s.part) _ i.0 i.1 in
    record { import = i.0; at = i.1; remains = k.0; of = m.0; is_part = m.1; stands = m.2 }

-- The staying imports of one kind are staying imports of that kind.
pub staying_kind : SpaceLaws → (parts : List Part) (k : Space) (n : ℕ) (s : Site) → slice_get (staying_of parts k) n ≡ Some s → (w : IsStaying parts s) × (has_kind k w.import ≡ true)
unfolding staying_of
staying_kind laws parts k n s h =
    let r = kept_is (imports_kind parts k) (staying parts) n s h in
    let w = staying_is laws parts r.1.0 s r.1.1 in
    (w, rw w.at at r.0)

module _ (laws : SpaceLaws) (env : Environment) (parts : List Part) (linked : link_fault parts true ≡ None) where
  module _ (s : Site) (w : IsStaying parts s) where
    -- In the merged module, a staying import denotes the external value that it denotes in the
    -- parts' world.
    pub moved_thing : external_value_in env (merged_types parts) (Some (record w.import { desc = merged_desc parts s w.of w.import.desc })) ≡ outside_external_value (owned_of env) parts s
    moved_thing =
        let ended = laws.ends parts linked s w.import w.at in
        grind (arith, laws.types parts s.part w.of)

  -- The imports of the merged module have the addresses of the imports that stay.
  chosen_addresses : (k : Space) → addresses env (merged_types parts) (filter_map (merged_import parts) (staying parts)) k ≡ all_there (site_address env parts k) (staying_of parts k)
  unfolding staying_of
  chosen_addresses k =
      at_places (has_kind k) (λ i. option_and_then (address_of k) (external_value_in env (merged_types parts) (Some i))) _ 0 _ (λ i y e. grind arith)
      ∙ of_chosen _ _ (imports_kind parts k) _ (site_address env parts k) _ (λ n s h.
      let w = staying_is laws parts n s h in
      (_, import_is parts s w, grind arith, λ q. grind (arith, moved_thing s w)))

  -- The index spaces of the merged module: the addresses of the staying imports, followed by those
  -- of its definitions.
  pub merged_space : (mode : Mode) (k : Space) → is_external k ≡ true →
      space env (one (joined_module parts mode)) k 0 (joined_module parts mode) ≡ option_and_then (λ l. Some (l ++ numbers (own_count k env) (defined_before k parts (length parts) + added_count parts k))) (all_there (site_address env parts k) (staying_of parts k))
  merged_space mode k e =
      grind (arith, joined_keeps parts mode, laws.spaces env (joined_module parts mode) k, laws.counts parts (names_of parts mode) k e, joined_types parts mode, joined_imports parts mode, chosen_addresses k)
