-- Where the imports of linked parts end, and where the types and entities of the parts are in the
-- merged module.
use Rattle.std.specs.Prelude.{◌≡◌, ℕ, ◌+◌, ◌-◌, ◌<◌, ◌≤◌, List, length, Option, Some, None, true, slice_index, slice_get, Bool, false}
use Rattle.wasm_tree_spec.specs.Prelude.{Space, Types, Functions, Tables, Memories, Globals, ElementSegments, DataSegments, FuncType, Import, Module, index_of_export, space_of_export, space_of_import}
use Rattle.wasm_meaning.specs.Prelude.{Text, Part, Site, End, Defined, Outside, Entity, module_at, import_at, imports_of, pair_of, sites, end_of, linked_end, Owned, defined_count, defined_before}
use Rattle.wasm_meaning.specs.Prelude.{outside_external_value}
use Rattle.merge_spec.specs.Prelude.{External, asked_at, external_of, same_but_limits, meets_limits, link_fault, stays, merged, merged_types, map_of, staying_of, place_of_end, new_index, starts}
use Rattle.merge_spec.specs.Prelude.{start_calls}

-- An import ends with an entity that a part defines and that is what the import asks for.
pub record EndsInside (parts : List Part) (s : Site) (i : Import) : Type 0 where
  pub entity : Entity
  pub end : end_of parts s ≡ Some (Defined entity)
  pub linked : linked_end parts s ≡ Some (Defined entity)
  pub kind : space_of_export entity.what ≡ space_of_import i.desc
  pub of : Module
  pub is_part : module_at parts entity.part ≡ Some of
  -- in its index space it comes after the imports, and it exists
  pub follows : length (imports_of (space_of_import i.desc) of) ≤ index_of_export entity.what
  pub within : index_of_export entity.what < length (imports_of (space_of_import i.desc) of) + defined_count (space_of_import i.desc) of
  pub demand : External
  pub asks : asked_at parts s ≡ Some demand
  pub thing : External
  pub is : external_of of entity.what ≡ Some thing
  pub same : same_but_limits demand thing ≡ true
  pub meets : meets_limits demand thing ≡ true

-- An import ends with an import that is joined with nothing and has the kind and type that it asks
-- for, apart from limits. That one stays, or, for a memory, the first with the same module and
-- field name.
pub record EndsOutside (parts : List Part) (s : Site) (i : Import) : Type 0 where
  pub last : Site
  pub end : end_of parts s ≡ Some (Outside last)
  pub last_import : Import
  pub last_at : import_at parts last ≡ Some last_import
  pub last_kind : space_of_import last_import.desc ≡ space_of_import i.desc
  -- the one that stays
  pub to : Site
  pub linked : linked_end parts s ≡ Some (Outside to)
  pub import : Import
  pub at : import_at parts to ≡ Some import
  pub kind : space_of_import import.desc ≡ space_of_import i.desc
  pub remains : stays parts to ≡ true
  pub pair : pair_of last_import ≡ pair_of import
  pub only_memories : (space_of_import i.desc ≡ Memories → ⊥) → to ≡ last
  -- both denote the same entity of the environment
  pub same_thing : (owned : Owned) → outside_external_value owned parts last ≡ outside_external_value owned parts to
  pub demand : External
  pub asks : asked_at parts s ≡ Some demand
  pub thing : External
  pub is : asked_at parts to ≡ Some thing
  pub same : same_but_limits demand thing ≡ true

pub data Ended (parts : List Part) (s : Site) (i : Import) : Type 0 where
  inside : EndsInside parts s i → Ended parts s i
  outside : EndsOutside parts s i → Ended parts s i

-- each import of linked parts ends in one of these two ways
abbrev pub LinkedImportsEnd : Type 0
LinkedImportsEnd = (parts : List Part) → link_fault parts true ≡ None → (s : Site) (i : Import) → import_at parts s ≡ Some i → Ended parts s i

-- a staying import is its own end
abbrev pub StayingImportsEndThere : Type 0
StayingImportsEndThere = (parts : List Part) → link_fault parts true ≡ None → (s : Site) (i : Import) → import_at parts s ≡ Some i → stays parts s ≡ true → (end_of parts s ≡ Some (Outside s)) ×
    (linked_end parts s ≡ Some (Outside s))

-- the sites are the imports that exist
abbrev pub SitesAreImports : Type 0
SitesAreImports =
    (parts : List Part) (s : Site) →
    ((n : ℕ) → slice_get (sites parts) n ≡ Some s → (i : Import) × (import_at parts s ≡ Some i)) × ((i : Import) → import_at parts s ≡ Some i → (n : ℕ) × (slice_get (sites parts) n ≡ Some s))

-- ---- in the merged module ----

-- a staying import is at its place among those of its kind
abbrev pub StayingImportsHavePlaces : Type 0
StayingImportsHavePlaces =
    (parts : List Part) (s : Site) (i : Import) → import_at parts s ≡ Some i → stays parts s ≡ true → (k : Space) → space_of_import i.desc ≡ k →
    slice_get (staying_of parts k) (place_of_end parts k (Outside s)) ≡ Some s

-- an index of a part becomes the place of its import's end, or of what the part defines: after the
-- staying imports and what earlier parts define
abbrev pub NewIndicesArePlaces : Type 0
NewIndicesArePlaces =
    (parts : List Part) (p : ℕ) (m : Module) (k : Space) (x : ℕ) → module_at parts p ≡ Some m →
    ((n : ℕ) (e : End) → slice_get (imports_of k m) x ≡ Some n → linked_end parts (record { part = p; import = n }) ≡ Some e → new_index parts p k x ≡ place_of_end parts k e)
    × (slice_get (imports_of k m) x ≡ None → new_index parts p k x ≡ length (staying_of parts k) + (defined_before k parts p + (x - length (imports_of k m))))

-- what a part defines comes after the staying imports and what earlier parts define
abbrev pub DefinedEntitiesHavePlaces : Type 0
DefinedEntitiesHavePlaces =
    (parts : List Part) (e : Entity) (m : Module) (k : Space) → module_at parts e.part ≡ Some m →
    place_of_end parts k (Defined e) ≡ length (staying_of parts k) + (defined_before k parts e.part + (index_of_export e.what - length (imports_of k m)))

-- each type of a part is where the part's map says
abbrev pub TypesHavePlaces : Type 0
TypesHavePlaces =
    (parts : List Part) (p : ℕ) (m : Module) (x : ℕ) (t : FuncType) → module_at parts p ≡ Some m → slice_get m.types x ≡ Some t →
    slice_get (merged_types parts) (slice_index (map_of parts p m).types x) ≡ Some t

-- the index spaces of what may be imported and exported
abbrev pub is_external : Space → Bool
is_external Types = false
is_external Functions = true
is_external Tables = true
is_external Memories = true
is_external Globals = true
is_external ElementSegments = false
is_external DataSegments = false

-- how many more entries of an index space the merged module defines than the parts do
abbrev pub added_count : List Part → Space → ℕ
added_count parts Types = 0
added_count parts Functions = length (start_calls parts (starts parts))
added_count parts Tables = 0
added_count parts Memories = 0
added_count parts Globals = 0
added_count parts ElementSegments = 0
added_count parts DataSegments = 0

-- the merged module defines as many functions, tables, memories and globals as all parts together,
-- plus those that are added
abbrev pub MergedModulesDefineAll : Type 0
MergedModulesDefineAll =
    (parts : List Part) (names : List (Option Text)) (k : Space) → is_external k ≡ true →
    defined_count k (merged parts names) ≡ defined_before k parts (length parts) + added_count parts k
