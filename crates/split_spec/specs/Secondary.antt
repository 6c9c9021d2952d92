-- A secondary module: it defines moved functions, imports from the primary module what they name,
-- and puts them into their slots when it is instantiated (WebAssembly Core 2.0, sections 2.5 and
-- 4.5.4).
use Rattle.std.specs.Prelude.{◌≡◌, ℕ, ◌+◌, List, [], ◌∷◌, ◌++◌, map, length, Option, Some, None}
use Rattle.base_lists.specs.Places.{numbers}
use Rattle.base_kept.specs.Kept.{new_places}
use Rattle.wasm_tree_spec.specs.Prelude.{Functions, Tables, Memories, Globals, Instr, Call, Import, Func, Module, funcs_of}
use Rattle.wasm_tree.specs.declared.module.ImportDesc.TheVariants as im
use Rattle.index_remap.specs.declared.remap.Remap.{Remap}
use Rattle.index_remap.specs.Prelude.{declared, renumbered_tree}
use Rattle.split_spec.specs.declared.names.SplitNames.{SplitNames}
use Rattle.split_spec.specs.SubstitutedCalls.{with_calls}
use Rattle.split_spec.specs.SplitSlots.{defined_at, place_among, slot_table, in_slots, slot_table_type, slot_segment, call_through_slot}
use Rattle.split_spec.specs.FromPrimary.{from_primary, imports_from_primary, marks_from_primary, slots_name}

-- The functions `own` of one secondary module are consecutive in `moved`, and their slots begin at
-- `before`.
pub record HasSlots (moved own : List ℕ) (before : ℕ) : Type 0 where
  pub earlier : List ℕ
  pub later : List ℕ
  pub all : moved ≡ earlier ++ (own ++ later)
  pub count : before ≡ length earlier

-- ---- functions ----

-- what replaces a call: a direct call, if the function has a place among the module's own; a call
-- through its slot, if it is another moved function; else the same call
abbrev pub secondary_call_by_place : Module → (moved : List ℕ) → Option ℕ → ℕ → List Instr
secondary_call_by_place m moved (Some place) func = Call (length (funcs_of m) + place) ∷ []
secondary_call_by_place m moved None func = call_through_slot m moved func

-- the same by the place of the function in `own`
abbrev pub secondary_call : Module → (moved own : List ℕ) → ℕ → List Instr
secondary_call m moved own func = secondary_call_by_place m moved (place_among own func) func

-- a moved function with its calls replaced
abbrev pub secondary_func : Module → (moved own : List ℕ) → Func → Func
secondary_func m moved own f = record f { body = with_calls (secondary_call m moved own) f.body }

-- ---- imports ----

-- functions, tables, the slot table, memories and globals, each kind in ascending order
abbrev pub secondary_imports : SplitNames → Module → (moved own : List ℕ) → List Import
secondary_imports names m moved own =
    imports_from_primary names.import_namespace names.export_prefix m Functions (from_primary m moved own Functions)
    ++ (imports_from_primary names.import_namespace names.export_prefix m Tables (from_primary m moved own Tables)
    ++ (record { «module» = names.import_namespace; field = slots_name names.export_prefix; desc = im.Table (slot_table_type (length moved)) }
    ∷ (imports_from_primary names.import_namespace names.export_prefix m Memories (from_primary m moved own Memories)
    ++ imports_from_primary names.import_namespace names.export_prefix m Globals (from_primary m moved own Globals))))

-- ---- the module ----

-- the secondary module, still in the indices of the input module
abbrev pub secondary_tree : SplitNames → Module → (moved own : List ℕ) → (before : ℕ) → Module
secondary_tree names m moved own before = record {
  types = m.types;
  imports = secondary_imports names m moved own;
  funcs = map (secondary_func m moved own) (defined_at m own);
  tables = [];
  mems = [];
  globals = [];
  exports = [];
  start = None;
  elems = slot_segment (slot_table m) before (in_slots m (length own)) ∷ [];
  datas = [];
}

-- The new index of each entity: an imported one goes to its place among the imports of its kind,
-- the own functions come after the imported ones, and the slot table after the other tables. Moved
-- functions name no segments.
abbrev pub secondary_map : Module → (moved own : List ℕ) → Remap
secondary_map m moved own = record {
  types = numbers 0 (length m.types);
  funcs = new_places (marks_from_primary m moved own Functions) ++ numbers (length (from_primary m moved own Functions)) (length own);
  tables = new_places (marks_from_primary m moved own Tables) ++ length (from_primary m moved own Tables) ∷ [];
  mems = new_places (marks_from_primary m moved own Memories);
  globals = new_places (marks_from_primary m moved own Globals);
  elems = [];
  datas = [];
}

-- the secondary module of the functions `own`, whose slots begin at `before` (HasSlots)
unfoldable pub secondary_with : SplitNames → Module → (moved own : List ℕ) → (before : ℕ) → Module
secondary_with names m moved own before = declared (renumbered_tree (secondary_map m moved own) (secondary_tree names m moved own before))

-- the secondary module of all moved functions
abbrev pub secondary : SplitNames → Module → (moved : List ℕ) → Module
secondary names m moved = secondary_with names m moved moved 0
