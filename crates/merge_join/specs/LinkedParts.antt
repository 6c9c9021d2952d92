-- What the contracts of this crate say about parts, links and index spaces.
use Rattle.std.specs.Prelude.{◌≡◌, ℕ, ◌+◌, ◌-◌, ◌<◌, List, ◌∷◌, [], length, Some, None, true, unwrap_or}
use Rattle.wasm_tree_spec.specs.Prelude.{Space, Functions, Module, IsBounded}
use Rattle.wasm_valid.specs.Prelude.{IsValid}
use Rattle.wasm_meaning.specs.Prelude.{defined_before, defined_count, Site, module_at, imports_of, same_site, first_place}
use Rattle.wasm_meaning.specs.Linking as linking
use Rattle.index_remap.specs.declared.remap.Remap.{Remap}
use Rattle.merge_spec.specs.declared.parts.Part.{Part}
use Rattle.merge_spec.specs.declared.links.End.{End}
use Rattle.merge_spec.specs.declared.links.End.TheVariants.{Defined, Outside}
use Rattle.merge_spec.specs.declared.links.Links.{Links}
use Rattle.merge_spec.specs.Prelude.{named_modules, link_fault, staying_of, imported_count, by_part, map_of, FewInAll}
use Rattle.merge_spec.specs.Linked.{AreLinks}
use Rattle.merge_join.specs.declared.mapped_parts.MappedParts.{MappedParts}

abbrev pub site : (part import : ℕ) → Site
site p n = record { part = p; import = n }

-- the part `p` has an import at place `n`
abbrev pub IsSite : List linking.Part → ℕ → ℕ → Type 0
IsSite ps p n = (m : Module) × (module_at ps p ≡ Some m) × (n < length m.imports)

abbrev pub space_size : Space → Module → ℕ
space_size k m = length (imports_of k m) + defined_count k m

-- the end exists: part `p` has this entry in its index space `k`, or has this import
abbrev pub EndExists : List linking.Part → Space → End → Type 0
EndExists ps k (Defined p i) = (m : Module) × (module_at ps p ≡ Some m) × (i < space_size k m)
EndExists ps k (Outside p n) = IsSite ps p n

-- the place of an end in the merged index space `k`
unfoldable pub place_at : List linking.Part → Space → End → ℕ
place_at ps k (Defined p i) = length (staying_of ps k) + (defined_before k ps p + (i - imported_count ps p k))
place_at ps k (Outside p n) = unwrap_or (first_place (same_site (site p n)) (staying_of ps k) 0) 0

-- each part's module is valid and bounded
abbrev pub PartsHold : List linking.Part → Type 0
PartsHold ps = (p : ℕ) (m : Module) → module_at ps p ≡ Some m → IsValid m × IsBounded m

-- `links` are the links of the parts, which are valid and bounded, have no link fault (several
-- memories are allowed), and can be joined with indices below 2^32
pub record PartsAreLinked (parts : List Part) (links : Links) : Type 0 where
  pub links_are : AreLinks (named_modules parts) links
  pub no_fault : link_fault (named_modules parts) true ≡ None
  pub few : FewInAll (named_modules parts)
  pub hold : PartsHold (named_modules parts)

-- one entry for each part
abbrev pub each_part : {A : Type 0} → (ℕ → Module → A) → List linking.Part → List A
each_part f = by_part (λ p m. f p m ∷ [])

-- `maps` are the maps of the parts
abbrev pub AreMaps : List linking.Part → List Remap → Type 0
AreMaps ps maps = maps ≡ each_part (map_of ps) ps

-- the parts are linked, and the maps are their maps
pub record HaveTheirMaps (j : MappedParts) : Type 0 where
  pub linked : PartsAreLinked j.parts.now j.links.now
  pub maps : AreMaps (named_modules j.parts.now) j.maps.now

-- how many functions come before the one that calls several starts
abbrev pub funcs_before_calls : List linking.Part → ℕ
funcs_before_calls ps = length (staying_of ps Functions) + defined_before Functions ps (length ps)
