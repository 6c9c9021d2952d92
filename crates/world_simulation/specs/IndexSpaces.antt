-- The index spaces and the instances of the parts of a world (WebAssembly Core 2.0, sections 2.5.1
-- and 4.2.5): first the imports, then what the part defines.
use Rattle.std.specs.Prelude.{◌≡◌, ℕ, ◌+◌, ◌<◌, List, ◌++◌, length, Option, Some, slice_get}
use Rattle.base_lists.specs.Options.{◌>>=◌}
use Rattle.wasm_tree_spec.specs.Prelude.{Space, Functions, Tables, Memories, Globals, DataSegments, ElementSegments, Module}
use Rattle.wasm_meaning.specs.Prelude.{Inst, Part, module_at, imports_of, Environment, space, numbers, inst_of, insts_from, defined_before, defined_count, base, address_of, all_there}
use Rattle.wasm_meaning.specs.Prelude.{imported_external_value}

-- ---- an index space ----

module _ (env : Environment) (parts : List Part) (k : Space) (p : ℕ) where
  -- the address of an import of a part
  abbrev pub import_address : ℕ → Option ℕ
  import_address n = imported_external_value env parts (record { part = p; import = n }) >>= address_of k

  module _ (m : Module) where
    -- the addresses of the imports, then those of what the part defines
    pub record IsSpace (xs : List ℕ) : Type 0 where
      pub imported : List ℕ
      pub are : all_there import_address (imports_of k m) ≡ Some imported
      pub all : xs ≡ imported ++ numbers (base env parts k p) (defined_count k m)
      pub size : length xs ≡ length (imports_of k m) + defined_count k m

    -- what the index `x` names, with its address `a`: an import, or what the part defines
    pub data SpaceEntry (x a : ℕ) : Type 0 where
      imports : (n : ℕ) → slice_get (imports_of k m) x ≡ Some n → import_address n ≡ Some a → SpaceEntry x a
      defines : (j : ℕ) → x ≡ length (imports_of k m) + j → j < defined_count k m → a ≡ base env parts k p + j → SpaceEntry x a

-- ---- an instance ----

-- what an instance of a part has: the part's types and index spaces, and the addresses of its
-- segments
pub record IsInst (env : Environment) (parts : List Part) (p : ℕ) (m : Module) (i : Inst) : Type 0 where
  pub types : i.types ≡ m.types
  pub funcs : space env parts Functions p m ≡ Some i.funcs
  pub tables : space env parts Tables p m ≡ Some i.tables
  pub mems : space env parts Memories p m ≡ Some i.mems
  pub globals : space env parts Globals p m ≡ Some i.globals
  pub elems : i.elems ≡ numbers (defined_before ElementSegments parts p) (length m.elems)
  pub datas : i.datas ≡ numbers (defined_before DataSegments parts p) (length m.datas)

-- the instances of the parts from part `p` on, one for each
pub record EachInst (env : Environment) (all : List Part) (p : ℕ) (parts : List Part) (is : List Inst) : Type 0 where
  pub size : length is ≡ length parts
  pub each : (q : ℕ) (m : Module) → module_at parts q ≡ Some m → (i : Inst) × (slice_get is q ≡ Some i) × (inst_of env all (p + q) m ≡ Some i)

-- ---- the laws ----

abbrev pub SpacesAreImportsAndDefinitions : Type 0
SpacesAreImportsAndDefinitions = (env : Environment) (parts : List Part) (k : Space) (p : ℕ) (m : Module) (xs : List ℕ) → space env parts k p m ≡ Some xs → IsSpace env parts k p m xs

abbrev pub IndicesNameImportsOrDefinitions : Type 0
IndicesNameImportsOrDefinitions = (env : Environment) (parts : List Part) (k : Space) (p : ℕ) (m : Module) (xs : List ℕ) → IsSpace env parts k p m xs → (x a : ℕ) → slice_get xs x ≡ Some a →
    SpaceEntry env parts k p m x a

abbrev pub EachPartHasAnInstance : Type 0
EachPartHasAnInstance = (env : Environment) (all : List Part) (p : ℕ) (parts : List Part) (is : List Inst) → insts_from env all p parts ≡ Some is → EachInst env all p parts is
