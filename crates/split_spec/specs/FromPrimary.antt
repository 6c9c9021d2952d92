-- What a secondary module imports from the primary one besides the slot table: all that its
-- functions name, except moved functions that they only call. There may be several secondary
-- modules: `moved` are all moved functions, and `own` those of one secondary module.
use Rattle.std.specs.Prelude.{ℕ, Bool, ◌&&◌, not, List, [], ◌++◌, ◌∷◌, map, length, nat_eq, slice_get, decimal, option_map}
use Rattle.base_lists.specs.Members.{is_among}
use Rattle.std.specs.List.{filter_map, list_any}
use Rattle.base_lists.specs.Places.{numbers, places}
use Rattle.wasm_tree_spec.specs.Prelude.{Space, Types, Functions, Tables, Memories, Globals, ElementSegments, DataSegments, Operand, any_operand_passes, same_space, ImportDesc, ExportDesc, Import}
use Rattle.wasm_tree_spec.specs.Prelude.{Export, Func, Module, funcs_of, tables_of, memories_of, globals_of}
use Rattle.wasm_tree.specs.declared.module.ImportDesc.TheVariants as im
use Rattle.split_spec.specs.SplitSlots.{defined_at}

-- ---- what is imported ----

-- the operand names this entity, and is not that of a `call` of a moved function
abbrev pub is_named_from_primary : (moved : List ℕ) → Space → ℕ → Operand → Bool
is_named_from_primary moved space index o = same_space o.space space && (nat_eq o.index index && not (o.called && is_among moved index))

-- one of these functions has such an operand in its body
abbrev pub is_from_primary : (moved : List ℕ) → List Func → Space → ℕ → Bool
is_from_primary moved funcs space index = list_any (λ f. any_operand_passes (is_named_from_primary moved space index) f.body) funcs

-- the functions, tables, memories or globals of the module, each as an import would describe it
-- (section 2.5.11); nothing for types and segments, which cannot be imported
abbrev pub entities : Module → Space → List ImportDesc
entities m Functions = map im.Func (funcs_of m)
entities m Tables = map im.Table (tables_of m)
entities m Memories = map im.Memory (memories_of m)
entities m Globals = map im.Global (globals_of m)
entities m Types = []
entities m ElementSegments = []
entities m DataSegments = []

-- for each entity of an index space, whether one of the functions `own` has such an operand
abbrev pub marks_from_primary : Module → (moved own : List ℕ) → Space → List Bool
marks_from_primary m moved own space = map (is_from_primary moved (defined_at m own) space) (numbers 0 (length (entities m space)))

-- the indices of the entities for which that is so, in ascending order
abbrev pub from_primary : Module → (moved own : List ℕ) → Space → List ℕ
from_primary m moved own space = places (λ named. named) (marks_from_primary m moved own space) 0

-- ---- under which names ----

-- the letter of a kind: f, t, m or g
abbrev pub kind_letter : Space → List ℕ
kind_letter Functions = 102 ∷ []
kind_letter Tables = 116 ∷ []
kind_letter Memories = 109 ∷ []
kind_letter Globals = 103 ∷ []
kind_letter Types = []
kind_letter ElementSegments = []
kind_letter DataSegments = []

-- the prefix, the letter of the kind, and the index in the input module in decimal
abbrev pub name_from_primary : (prefix : List ℕ) → Space → ℕ → List ℕ
name_from_primary prefix space index = prefix ++ (kind_letter space ++ decimal index)

-- the prefix and `slots`
abbrev pub slots_name : (prefix : List ℕ) → List ℕ
slots_name prefix = prefix ++ 115 ∷ 108 ∷ 111 ∷ 116 ∷ 115 ∷ []

-- the exports of the entities at these indices
abbrev pub exports_for_secondary : (prefix : List ℕ) → Space → (ℕ → ExportDesc) → List ℕ → List Export
exports_for_secondary prefix space desc indices = map (λ i. record { name = name_from_primary prefix space i; desc = desc i }) indices

-- the imports of the entities at these indices
abbrev pub imports_from_primary : (namespace prefix : List ℕ) → Module → Space → List ℕ → List Import
imports_from_primary namespace prefix m space indices =
    filter_map (λ i. option_map (λ d. record { «module» = namespace; field = name_from_primary prefix space i; desc = d }) (slice_get (entities m space) i)) indices
