-- The primary module: it keeps everything but the moved functions, and calls these through the
-- slots. The slots hold placeholders until a secondary module puts its functions there (WebAssembly
-- Core 2.0, section 2.5).
use Rattle.std.specs.Prelude.{ℕ, suc, ◌+◌, Bool, ◌||◌, not, List, [], ◌∷◌, ◌++◌, drop, map, length, decimal, Option, Some, None}
use Rattle.base_lists.specs.Members.{is_among}
use Rattle.base_lists.specs.Places.{numbers}
use Rattle.base_kept.specs.Kept.{kept, new_places}
use Rattle.wasm_tree_spec.specs.Prelude.{Functions, Tables, Memories, Globals, Import, Export, Func, Module, imported_funcs, funcs_of, tables_of, memories_of, globals_of}
use Rattle.wasm_tree.specs.declared.module.ImportDesc.TheVariants as im
use Rattle.wasm_tree.specs.declared.module.ExportDesc.TheVariants as ex
use Rattle.index_remap.specs.declared.remap.Remap.{Remap}
use Rattle.index_remap.specs.Prelude.{declared, renumbered_tree}
use Rattle.split_spec.specs.declared.names.SplitNames.{SplitNames}
use Rattle.split_spec.specs.SubstitutedCalls.{with_calls}
use Rattle.split_spec.specs.SplitSlots.{type_index, place_among, slot_table, in_slots, slot_table_type, slot_segment, call_through_slot, trampoline_body}
use Rattle.split_spec.specs.TrampolineNeeds.{is_needed}
use Rattle.split_spec.specs.FromPrimary.{from_primary, exports_for_secondary, slots_name}

-- ---- functions ----

-- a function without a slot has its calls of moved functions go through the slots; a function with
-- a slot becomes a trampoline
abbrev pub primary_func : Module → (moved : List ℕ) → (slot : Option ℕ) → (func : ℕ) → Func → Func
primary_func m moved None func f = record f { body = with_calls (call_through_slot m moved) f.body }
primary_func m moved (Some slot) func f = record f { locals = []; body = trampoline_body m func slot }

-- the same for the defined functions from this index on
abbrev pub primary_funcs : Module → (moved : List ℕ) → (first : ℕ) → List Func → List Func
primary_funcs m moved func [] = []
primary_funcs m moved func (f ∷ fs) = primary_func m moved (place_among moved func) func f ∷ primary_funcs m moved (suc func) fs

-- whether the primary module has this function or a trampoline in its place; it has neither for a
-- moved function that needs no trampoline
abbrev pub is_left : Module → (moved : List ℕ) → ℕ → Bool
is_left m moved func = not (is_among moved func) || is_needed m func

-- the same for each function of the module
abbrev pub left_marks : Module → (moved : List ℕ) → List Bool
left_marks m moved = map (is_left m moved) (numbers 0 (length (funcs_of m)))

-- ---- placeholders ----

-- one import for each of these functions, from this slot on: its module name is the namespace of
-- the slot, its field is the slot in decimal, and its type is that of the function
abbrev pub placeholder_imports : (namespace : ℕ → List ℕ) → Module → (slot : ℕ) → List ℕ → List Import
placeholder_imports namespace m slot [] = []
placeholder_imports namespace m slot (func ∷ funcs) = record { «module» = namespace slot; field = decimal slot; desc = im.Func (type_index m func) } ∷ placeholder_imports namespace m (suc slot) funcs

-- ---- exports ----

-- what secondary modules import: of each kind the entities in `from_primary`, in ascending order,
-- and last the slot table
abbrev pub added_exports : (prefix : List ℕ) → Module → (moved : List ℕ) → List Export
added_exports prefix m moved =
    exports_for_secondary prefix Functions ex.Func (from_primary m moved moved Functions)
    ++ (exports_for_secondary prefix Tables ex.Table (from_primary m moved moved Tables)
    ++ (exports_for_secondary prefix Memories ex.Memory (from_primary m moved moved Memories)
    ++ (exports_for_secondary prefix Globals ex.Global (from_primary m moved moved Globals)
    ++ record { name = slots_name prefix; desc = ex.Table (slot_table m) } ∷ [])))

-- ---- the module ----

-- the primary module, still in the indices of the input module
abbrev pub primary_tree : (namespace : ℕ → List ℕ) → (prefix : List ℕ) → Module → (moved : List ℕ) → Module
primary_tree namespace prefix m moved =
    record m {
      imports = m.imports ++ placeholder_imports namespace m 0 moved;
      funcs = kept (drop (length (imported_funcs m.imports)) (left_marks m moved)) (primary_funcs m moved (length (imported_funcs m.imports)) m.funcs);
      tables = m.tables ++ slot_table_type (length moved) ∷ [];
      exports = m.exports ++ added_exports prefix m moved;
      elems = m.elems ++ slot_segment (slot_table m) 0 (in_slots m (length moved)) ∷ [];
    }

-- The new index of each function, and then of each placeholder: the placeholders come between the
-- imported and the defined functions. The entry of a function that is left out means nothing,
-- because only calls name it, and other code replaces these.
abbrev pub primary_funcs_map : Module → (moved : List ℕ) → List ℕ
primary_funcs_map m moved =
    numbers 0 (length (imported_funcs m.imports))
    ++ (map (λ place. length moved + place) (drop (length (imported_funcs m.imports)) (new_places (left_marks m moved)))
    ++ numbers (length (imported_funcs m.imports)) (length moved))

-- the remap of the primary module: everything but functions keeps its index
abbrev pub primary_map : Module → (moved : List ℕ) → Remap
primary_map m moved = record {
  types = numbers 0 (length m.types);
  funcs = primary_funcs_map m moved;
  tables = numbers 0 (suc (length (tables_of m)));
  mems = numbers 0 (length (memories_of m));
  globals = numbers 0 (length (globals_of m));
  elems = numbers 0 (length m.elems);
  datas = numbers 0 (length m.datas);
}

-- the primary module for any list of moved functions, in the order of their slots; `namespace`
-- gives the namespace of each slot's placeholder
unfoldable pub primary_with : (namespace : ℕ → List ℕ) → (prefix : List ℕ) → Module → (moved : List ℕ) → Module
primary_with namespace prefix m moved = declared (renumbered_tree (primary_map m moved) (primary_tree namespace prefix m moved))

-- the same with one namespace for all placeholders
abbrev pub primary : SplitNames → Module → (moved : List ℕ) → Module
primary names m moved = primary_with (λ slot. names.placeholder_namespace) names.export_prefix m moved
