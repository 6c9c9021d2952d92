-- What replaces calls, instruction by instruction.
use Rattle.std.specs.Prelude.{◌≡◌, ℕ, ◌+◌, ◌-◌, ◌<◌, ◌^◌, Bool, true, false, ◌&&◌, cond, length, nat_le, nat_lt, List, [], ◌∷◌, Option, None, Some, pos, slice_index}
use Rattle.wasm_tree_spec.specs.Prelude.{Instr, out-Instr, Block, Loop, If, Call}
use Rattle.wasm_tree.specs.declared.instr.Instr.TheOpen.{Instr-F}
use Rattle.run_simulation.specs.Prelude.{slot_call}
use Rattle.split_spec.specs.Prelude.{with_calls}
use Rattle.split_slots.specs.declared.call_replacement.Calls.{Calls}
use Rattle.split_slots.specs.declared.call_replacement.Target.{Target}
use Rattle.split_slots.specs.declared.call_replacement.Target.TheVariants as target
use Rattle.split_slots.specs.SlotLookup.{slot_at}

-- the code that replaces a call
abbrev pub target_code : (table : ℕ) → Target → List Instr
target_code table (target.Func func) = Call func ∷ []
target_code table (target.Slot ty slot) = slot_call ty table (pos slot)

-- a function without a slot is called as before, a function in one of the module's own slots is
-- called directly, and any other through its slot
abbrev pub target_of : Calls → ℕ → Option ℕ → Target
target_of c func None = target.Func func
target_of c func (Some slot) = cond (nat_le c.first slot && nat_lt slot c.end) (target.Func (c.base + (slot - c.first))) (target.Slot (slice_index c.types.now func) slot)

abbrev pub code_of_call : Calls → ℕ → List Instr
code_of_call c func = target_code c.table (target_of c func (slot_at c.slots.now func))

-- Each slot is a non-negative i32, `base + slot` is a u32, and a function with a slot has a type
-- index and comes before `base`.
abbrev pub FewSlots : Calls → Type 0
FewSlots c = (func slot : ℕ) → slot_at c.slots.now func ≡ Some slot → (slot < 2 ^ 31) × (c.base + slot < 2 ^ 32) × (func < length c.types.now) × (func < c.base)

-- ---- one instruction ----

abbrev pub layer_code : (ℕ → List Instr) → Instr-F Instr → Instr → List Instr
layer_code code (Instr-F.Call func) i = code func
layer_code code layer i = i ∷ []

-- what replaces the instruction, if the code inside it is left as it is
abbrev pub code_here : (ℕ → List Instr) → Instr → List Instr
code_here code i = layer_code code (out-Instr i) i

-- ---- calls that are renamed in place ----

abbrev pub settled_by : ℕ → Target → ℕ
settled_by func (target.Func own) = own
settled_by func (target.Slot ty slot) = func

-- the function that a call names after renaming: a call through a slot still names the old one, and
-- is replaced by two instructions afterwards
abbrev pub settled_call : Calls → ℕ → ℕ
settled_call c func = settled_by func (target_of c func (slot_at c.slots.now func))

abbrev pub is_slot : Target → Bool
is_slot (target.Func func) = false
is_slot (target.Slot ty slot) = true

abbrev pub is_through_slot : Calls → ℕ → Bool
is_through_slot c func = is_slot (target_of c func (slot_at c.slots.now func))

abbrev pub layer_settled : Calls → Instr-F Instr → Instr → Instr
layer_settled c (Instr-F.Block ty body) i = Block ty (with_calls (code_of_call c) body)
layer_settled c (Instr-F.Loop ty body) i = Loop ty (with_calls (code_of_call c) body)
layer_settled c (Instr-F.If ty body other) i = If ty (with_calls (code_of_call c) body) (with_calls (code_of_call c) other)
layer_settled c (Instr-F.Call func) i = Call (settled_call c func)
layer_settled c layer i = i

-- the instruction with the calls inside it replaced; if it is itself a call, it is renamed
abbrev pub settled : Calls → Instr → Instr
settled c i = layer_settled c (out-Instr i) i

abbrev pub layer_spread : Calls → Instr-F Instr → Bool
layer_spread c (Instr-F.Call func) = is_through_slot c func
layer_spread c layer = false

-- whether the instruction is a call that two instructions replace
abbrev pub is_spread : Calls → Instr → Bool
is_spread c i = layer_spread c (out-Instr i)
