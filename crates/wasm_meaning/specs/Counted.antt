-- How many entities of a kind parts define, and which exports are found by name.
use Rattle.std.proofs.Common.{◌≡◌, ℕ, suc, ◌+◌, ◌≤◌, List, length, Some, slice_get}
use Rattle.wasm_tree_spec.specs.Prelude.{Space, Module, Export, ExportDesc}
use Rattle.wasm_meaning.specs.State.{Text}
use Rattle.wasm_meaning.specs.Linking.{Part, module_at, export_named}
use Rattle.wasm_meaning.specs.World.{defined_count, defined_before}

-- The parts before the first one define nothing.
abbrev pub NothingIsDefinedBeforeTheFirst : Type 0
NothingIsDefinedBeforeTheFirst = (k : Space) (parts : List Part) → defined_before k parts 0 ≡ 0

-- The parts before the next one define what those before this one do, and what this one does.
abbrev pub EachPartAddsItsDefinitions : Type 0
EachPartAddsItsDefinitions = (k : Space) (parts : List Part) (p : ℕ) (m : Module) → module_at parts p ≡ Some m → defined_before k parts (suc p) ≡ defined_before k parts p + defined_count k m

-- The parts up to one define no more than all parts do.
abbrev pub NoPartDefinesMoreThanAll : Type 0
NoPartDefinesMoreThanAll = (k : Space) (parts : List Part) (p : ℕ) (m : Module) → module_at parts p ≡ Some m → defined_before k parts p + defined_count k m ≤ defined_before k parts (length parts)

-- What is found under a name is what an export of that name has.
abbrev pub FoundExportsAreThere : Type 0
FoundExportsAreThere = (es : List Export) (name : Text) (d : ExportDesc) → export_named es name ≡ Some d → (n : ℕ) × (e : Export) × (slice_get es n ≡ Some e) × (e.desc ≡ d) × (e.name ≡ name)
