-- Marks of what functions name, leaving out calls of functions that have slots.
use Rattle.std.specs.Prelude.{◌≡◌, ℕ, Bool, ◌&&◌, ◌||◌, not, is_some, nat_eq, List, [], length, map, Option, option_map, slice_get}
use Rattle.std.specs.List.{list_any}
use Rattle.base_lists.specs.Places.{numbers}
use Rattle.wasm_tree_spec.specs.Prelude.{Space, Types, Functions, Tables, Memories, Globals, ElementSegments, DataSegments, Operand, Instr, out-Instr, any_operand_passes, held, same_space, Module}
use Rattle.split_spec.specs.Prelude.{defined_at, entities}
use Rattle.split_slots.specs.declared.named_entities.Marks.{Marks}
use Rattle.split_slots.specs.SlotLookup.{slot_at}

-- the marks of the entities of an index space; there are none for types and segments
abbrev pub marks_in : Marks → Space → List Bool
marks_in marks Functions = marks.funcs.items
marks_in marks Tables = marks.tables.items
marks_in marks Memories = marks.mems.items
marks_in marks Globals = marks.globals.items
marks_in marks Types = []
marks_in marks ElementSegments = []
marks_in marks DataSegments = []

-- The new marks are of the same entities as the old ones. The new mark of an entity is set exactly
-- if the old one is or the entity passes the test.
abbrev pub Notes : (Space → ℕ → Bool) → Marks → Marks → Type 0
Notes test old new = (space : Space) (index : ℕ) → slice_get (marks_in new space) index ≡ option_map (λ mark. mark || test space index) (slice_get (marks_in old space) index)

-- the operand names the entity, and is not that of a `call` of a function that has a slot
abbrev pub named_by : List (Option ℕ) → Space → ℕ → Operand → Bool
named_by slots space index o = same_space o.space space && (nat_eq o.index index && not (o.called && is_some (slot_at slots index)))

abbrev pub body_names : List (Option ℕ) → List Instr → Space → ℕ → Bool
body_names slots body space index = any_operand_passes (named_by slots space index) body

-- the instructions inside the instruction
abbrev pub held_in : Instr → List Instr
held_in i = held (out-Instr i)

-- for each entity of an index space, whether one of the functions `own` names it, leaving out calls
-- of functions that have slots
abbrev pub marks_by : List (Option ℕ) → Module → (own : List ℕ) → Space → List Bool
marks_by slots m own space = map (λ i. list_any (λ f. body_names slots f.body space i) (defined_at m own)) (numbers 0 (length (entities m space)))
