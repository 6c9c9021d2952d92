-- The names that a file gives its functions (WebAssembly Core 2.0, section 7.4.1): which bytes
-- encode them.
use Rattle.std.specs.Prelude.{◌≡◌, ◌==◌, ℕ, List, [], ◌∷◌, ◌++◌, ◌⊎◌, map, filter}
use Rattle.std.specs.List.Sorted.{IsStrictlyIncreasing}
use Rattle.base_lists.specs.Every.{Every}
use Rattle.wasm_bytes.specs.Prelude.{Takes, U32, Each, Vector, Sized, Named, Section, Framed}
use Rattle.wasm_read_spec.specs.Prelude.{Byte, Both}
use Rattle.wasm_names.specs.declared.func_name.FuncName.{FuncName}

-- ---- a name map

-- a function's index and its name
abbrev pub SpellsFuncName : List ℕ → FuncName → Type 0
SpellsFuncName bytes n = Both U32 Named bytes (n.index, n.name)

abbrev pub indices : List FuncName → List ℕ
indices = map (λ n. n.index)

-- a vector of entries, each index greater than the one before
abbrev pub SpellsNameMap : List ℕ → List FuncName → Type 0
SpellsNameMap bytes ns = Vector SpellsFuncName bytes ns × IsStrictlyIncreasing (indices ns)

-- ---- the subsections

-- an id, the size of the content, and the content
abbrev pub SpellsSubsection : List ℕ → Section → Type 0
SpellsSubsection = Both Byte Sized

-- the contents of the subsections that name functions
abbrev pub func_name_maps : List Section → List (List ℕ)
func_name_maps ss = map (λ s. s.1) (filter (λ s. s.0 == 1) ss)

-- there is at most one such subsection; without one no function has a name
abbrev pub SpellsOneMap : List (List ℕ) → List FuncName → Type 0
SpellsOneMap [] ns = ns ≡ []
SpellsOneMap (content ∷ []) ns = SpellsNameMap content ns
SpellsOneMap (one ∷ other ∷ more) ns = ⊥

-- what follows the name of a name section
abbrev pub SpellsNames : List ℕ → List FuncName → Type 0
SpellsNames bytes ns = (ss : List Section) × Each SpellsSubsection bytes ss × SpellsOneMap (func_name_maps ss) ns

-- ---- the name section

-- `name`
abbrev pub section_name : List ℕ
section_name = 0x6E ∷ 0x61 ∷ 0x6D ∷ 0x65 ∷ []

-- a custom section named `name`, and what follows its name
abbrev pub IsNameSection : Section → List ℕ → Type 0
IsNameSection s rest = (s.0 ≡ 0) × Takes Named s.1 section_name rest

-- any other section
abbrev pub IsCalledOtherwise : Section → Type 0
IsCalledOtherwise s = (rest : List ℕ) → IsNameSection s rest → ⊥

-- The file can be divided into sections, and the first custom section named `name` encodes these
-- function names.
pub record SpellsFunctionNames (bytes : List ℕ) (ns : List FuncName) : Type 0 where
  pub before : List Section
  pub section : Section
  pub after : List Section
  pub framed : Framed bytes (before ++ section ∷ after)
  pub first : Every IsCalledOtherwise before
  pub content : List ℕ
  pub called : IsNameSection section content
  pub spelled : SpellsNames content ns

-- the function names of a file: those of the first custom section named `name`; none if there is no
-- such section, if it is malformed, or if the file cannot be divided into sections
abbrev pub AreFunctionNames : List ℕ → List FuncName → Type 0
AreFunctionNames bytes ns = SpellsFunctionNames bytes ns ⊎ (((ms : List FuncName) → SpellsFunctionNames bytes ms → ⊥) × (ns ≡ []))
