-- The slots of a split. Each moved function has a slot: a place in a table that is added after the
-- tables of the input module (the one that is split), so no table of that module holds a slot
-- (WebAssembly Core 2.0, sections 2.5.4 and 4.4.8).
--
-- Both modules are first written in the indices of the input module, and then renumbered. New
-- entities have the indices after those: the slot table in the table index space; in the function
-- index space, for the primary module, the placeholder of each slot, and for a secondary module,
-- the moved function for each of its own slots.
use Rattle.std.specs.Prelude.{ℕ, ◌-◌, List, [], ◌∷◌, ◌++◌, map, nat_eq, length, Option, Some, None, pos, slice_get, slice_index}
use Rattle.std.specs.List.{filter_map}
use Rattle.std.specs.Option.{option_map_or}
use Rattle.base_lists.specs.Places.{first_place, numbers}
use Rattle.wasm_tree.specs.declared.types.RefType.TheVariants.{Func as func_ref}
use Rattle.wasm_tree_spec.specs.Prelude.{ValType, Limits, TableType, Instr, Call, ElemSeg, Func, Module, imported_funcs, funcs_of, tables_of, type_of_func}
use Rattle.wasm_tree.specs.declared.module.ConstExpr.TheVariants as const
use Rattle.wasm_tree.specs.declared.module.ElemMode.TheVariants as elem
use Rattle.run_simulation.specs.Prelude.{gets, slot_call}

-- ---- functions of the module ----

-- the type index of a function
abbrev pub type_index : Module → ℕ → ℕ
type_index m func = slice_index (funcs_of m) func

-- the parameter types of a function; none if the function or its type does not exist
abbrev pub params_of : Module → ℕ → List ValType
params_of m func = option_map_or (λ t. t.params) (type_of_func m func) []

-- the definitions of these functions, none of which is imported
abbrev pub defined_at : Module → List ℕ → List Func
defined_at m funcs = filter_map (λ func. slice_get m.funcs (func - length (imported_funcs m.imports))) funcs

-- ---- slots ----

-- the place of a function in a list; in the list of moved functions it is the function's slot
abbrev pub place_among : List ℕ → ℕ → Option ℕ
place_among funcs func = first_place (nat_eq func) funcs 0

-- the index of the slot table, after the tables of the module
abbrev pub slot_table : Module → ℕ
slot_table m = length (tables_of m)

-- the indices of the functions in so many slots, after the functions of the module
abbrev pub in_slots : Module → ℕ → List ℕ
in_slots m count = numbers (length (funcs_of m)) count

-- the type of a table of function references with exactly this many slots
abbrev pub slot_table_type : ℕ → TableType
slot_table_type count = record { ty = func_ref; limits = record { min = count; max = Some count } }

-- the segment that puts these functions into the slots, beginning at slot `from` (section 2.5.7)
abbrev pub slot_segment : (table from : ℕ) → List ℕ → ElemSeg
slot_segment table from funcs = record { mode = elem.Active table (const.I32 (pos from)); ty = func_ref; items = map const.Func funcs }

-- ---- calls through slots ----

-- a call of a function: by its type through its slot, if it has one
abbrev pub call_by_slot : Module → Option ℕ → ℕ → List Instr
call_by_slot m None func = Call func ∷ []
call_by_slot m (Some slot) func = slot_call (type_index m func) (slot_table m) (pos slot)

-- a call of a moved function goes through its slot; another call stays the same
abbrev pub call_through_slot : Module → List ℕ → ℕ → List Instr
call_through_slot m moved func = call_by_slot m (place_among moved func) func

-- the body of a trampoline: it passes the parameters on to the function in the slot
abbrev pub trampoline_body : Module → (func slot : ℕ) → List Instr
trampoline_body m func slot = gets 0 (params_of m func) ++ slot_call (type_index m func) (slot_table m) (pos slot)
