-- A split module under the loader of its secondary modules. Each of these has some of the moved
-- functions, with their slots, and is instantiated by the first call of a placeholder of one of its
-- slots (WebAssembly Core 2.0, section 4.5.4).
use Rattle.std.specs.Prelude.{ℕ, suc, ◌+◌, List, [], ◌∷◌, length, option_map, unwrap_or, decimal}
use Rattle.std.specs.List.{filter_map}
use Rattle.wasm_tree_spec.specs.Prelude.{FuncType, ExportDesc, Module, type_of_func}
use Rattle.wasm_meaning.specs.Prelude.{Text, Pair, export_named, Secondary, LoaderWorld}
use Rattle.split_spec.specs.declared.names.SplitNames.{SplitNames}
use Rattle.split_spec.specs.Prelude.{slot_table, primary_with, secondary_with}

-- ---- any modules in place of the input module ----

-- what the embedder may use: the name of each export of the input module, with what the primary
-- module exports under that name
abbrev pub exports_under : (input primary : Module) → List (Text × ExportDesc)
exports_under input primary = filter_map (λ e. option_map (λ d. (e.name, d)) (export_named primary.exports e.name)) input.exports

-- these modules in place of the input module; secondary modules import under this namespace, and the
-- slot table comes after the tables of the input module
abbrev pub in_place_of : (import_namespace : Text) (input primary : Module) → List Secondary → LoaderWorld
in_place_of import_namespace input primary secondaries = record {
  primary = primary;
  secondaries = secondaries;
  import_namespace = import_namespace;
  slot_table = slot_table input;
  view = exports_under input primary;
}

-- ---- the modules of a split ----

-- the type of a function; if the function or its type does not exist, the type without parameters
-- and results
abbrev pub type_in : Module → ℕ → FuncType
type_in m func = unwrap_or (type_of_func m func) (record { params = []; results = [] })

-- the placeholders of these functions, from this slot on: the namespace of the slot, the slot in
-- decimal, and the type
abbrev pub placeholders_for : (namespace : ℕ → List ℕ) → Module → (slot : ℕ) → List ℕ → List (Pair × FuncType)
placeholders_for namespace m slot [] = []
placeholders_for namespace m slot (func ∷ funcs) = ((namespace slot, decimal slot), type_in m func) ∷ placeholders_for namespace m (suc slot) funcs

-- a secondary module for each list of moved functions; the first has the slots from `before` on,
-- the next those after these
abbrev pub secondaries_for : (namespace : ℕ → List ℕ) → SplitNames → Module → (moved : List ℕ) → (before : ℕ) → List (List ℕ) → List Secondary
secondaries_for namespace names m moved before [] = []
secondaries_for namespace names m moved before (own ∷ owns) =
    record { «module» = secondary_with names m moved own before; placeholders = placeholders_for namespace m before own } ∷ secondaries_for namespace names m moved (before + length own) owns

-- a split under its loader; each list has the functions of one secondary module
abbrev pub split_world : (namespace : ℕ → List ℕ) → SplitNames → Module → (moved : List ℕ) → List (List ℕ) → LoaderWorld
split_world namespace names m moved owns = in_place_of names.import_namespace m (primary_with namespace names.export_prefix m moved) (secondaries_for namespace names m moved 0 owns)

-- the same with one secondary module, which has all moved functions, and with one namespace
abbrev pub pair_world : SplitNames → Module → (moved : List ℕ) → LoaderWorld
pair_world names m moved = split_world (λ slot. names.placeholder_namespace) names m moved (moved ∷ [])

-- these two modules in place of the input module; all placeholders belong to the secondary one
abbrev pub pair_in_place : SplitNames → Module → (moved : List ℕ) → (primary secondary : Module) → LoaderWorld
pair_in_place names m moved primary secondary =
    in_place_of names.import_namespace m primary (record { «module» = secondary; placeholders = placeholders_for (λ slot. names.placeholder_namespace) m 0 moved } ∷ [])
