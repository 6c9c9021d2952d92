-- Sections are encoded unambiguously. (The grammar of the binary format defines a decoding function:
-- Core 2.0, 5.1.)
use Rattle.std.specs.Prelude.{◌≡◌, ℕ, List, ◌++◌, Bool}
use Rattle.wasm_bytes.specs.Prelude.{U32, Section, Framed}
use Rattle.wasm_read_spec.specs.Values.{SpellsFuncType, SpellsTable, SpellsLimits}
use Rattle.wasm_read_spec.specs.Sections.{SpellsImport, SpellsGlobalDef, SpellsExport, SpellsElem, SpellsData}
use Rattle.wasm_read_spec.specs.Bodies.{SpellsEntry}

-- No encoding is a proper prefix of another, and no bytes encode two values: where the same bytes
-- begin with two encodings, both are of one value, and the same bytes follow them.
abbrev pub IsPrefixFree : {A : Type 0} → (List ℕ → A → Type 0) → Type 0
IsPrefixFree {A} P = (one other rest more : List ℕ) (x y : A) → one ++ rest ≡ other ++ more → P one x → P other y → (x ≡ y) × (rest ≡ more)

-- The encodings of the items of each section that lists items. (An item of the code section is the
-- entry of a function; if `many` is true, memories have indices in its body.)
pub record ItemsArePrefixFree : Type 0 where
  pub types : IsPrefixFree SpellsFuncType
  pub imports : IsPrefixFree SpellsImport
  pub func_types : IsPrefixFree U32
  pub tables : IsPrefixFree SpellsTable
  pub mems : IsPrefixFree SpellsLimits
  pub globals : IsPrefixFree SpellsGlobalDef
  pub exports : IsPrefixFree SpellsExport
  pub elems : IsPrefixFree SpellsElem
  pub codes : (many : Bool) → IsPrefixFree (SpellsEntry many)
  pub datas : IsPrefixFree SpellsData

-- The bytes of a file have at most one list of section frames.
abbrev pub FramesAreUnique : Type 0
FramesAreUnique = (bytes : List ℕ) (ss ts : List Section) → Framed bytes ss → Framed bytes ts → ss ≡ ts
