-- What is looked up in parts, in terms of linking by name.
use Rattle.std.specs.Prelude.{◌≡◌, ◌+◌, ◌<◌, ℕ, zero, suc, List, [], ◌∷◌, length, Some, slice_get}
use Rattle.wasm_tree_spec.specs.Prelude.{Space, Types, Functions, Tables, Memories, Globals, ElementSegments, DataSegments, Import, Module}
use Rattle.std.specs.BTreeMap.{BTreeMap, get_by}
use Rattle.std.specs.Ordering.{nat_cmp}
use Rattle.std.specs.Cmp.Lexicographic.{slice_cmp}
use denote.Ref.{Bor}
use Rattle.wasm_meaning.specs.Linking as linking
use Rattle.wasm_meaning.specs.Prelude.{defined_before}
use Rattle.merge_link.specs.declared.tables.Table.{Table}

-- how many imports the first `p` parts have
abbrev pub imports_before : List linking.Part → ℕ → ℕ
imports_before [] p = 0
imports_before (part ∷ parts) zero = 0
imports_before (part ∷ parts) (suc p) = length part.«module».imports + imports_before parts p

abbrev pub places_of : Table → Space → List ℕ
places_of t Functions = t.funcs.items
places_of t Tables = t.tables.items
places_of t Memories = t.memories.items
places_of t Globals = t.globals.items
places_of t Types = []
places_of t ElementSegments = []
places_of t DataSegments = []

-- the table has the places of the module's imports
abbrev pub HasPlaces : Module → Table → Type 0
HasPlaces m t = (k : Space) → places_of t k ≡ linking.imports_of k m

-- for each import how many globals are imported before it: its global index, if it is a global
pub record AreIndices (imports : List Import) (indices : List ℕ) : Type 0 where
  pub one_each : length indices ≡ length imports
  pub right : (n : ℕ) → n < length imports → slice_get indices n ≡ Some (linking.space_index imports n Globals)

-- the look-up table of a part; `imports` and `globals` count the imports and defined globals of the
-- parts before it
pub record IsTableOf (imports globals : ℕ) (m : Module) (t : Table) : Type 0 where
  pub exports : (name : List ℕ) → get_by (λ k. slice_cmp nat_cmp name k.now) t.exports ≡ linking.export_named m.exports name
  pub places : HasPlaces m t
  pub indices : AreIndices m.imports t.indices.items
  pub first_import : t.first_import ≡ imports
  pub first_global : t.first_global ≡ globals

-- `tables` has the look-up table of each part
pub record AreTables (parts : List linking.Part) (tables : List Table) : Type 0 where
  pub one_each : length tables ≡ length parts
  pub right : (p : ℕ) (m : Module) (t : Table) → linking.module_at parts p ≡ Some m → slice_get tables p ≡ Some t
      → IsTableOf (imports_before parts p) (defined_before Globals parts p) m t

-- `names` has the first part of each name
abbrev pub AreNames : List linking.Part → BTreeMap (Bor (List ℕ)) ℕ → Type 0
AreNames parts names = (name : List ℕ) → get_by (λ k. slice_cmp nat_cmp name k.now) names ≡ linking.first_place (linking.is_named name) parts 0
