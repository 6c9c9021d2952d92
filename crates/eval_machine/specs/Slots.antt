-- What is in a slot of a table.
use Rattle.std.specs.Prelude.{◌≡◌, ℕ, ◌+◌, ◌-◌, ◌*◌, List, length, Bool, true, false, cond, Option, Some, None, slice_get, unwrap_or, nat_eq, nat_lt}
use Rattle.std.specs.Map.{lookup}
use Rattle.base_lists.specs.Options.{◌>>=◌}
use Rattle.wasm_tree_spec.specs.Prelude.{RefType, TableType, Module, imported_tables}
use Rattle.wasm_tree.specs.declared.types.RefType.TheVariants as reft
use Rattle.wasm_meaning.specs.Prelude.{RefVal, Ref}
use Rattle.eval_spec.specs.Prelude.{State, any_in_row}
use Rattle.eval_machine.specs.declared.value.Value.{Value}
use Rattle.eval_machine.specs.declared.value.Value.TheVariants as v
use Rattle.eval_machine.specs.declared.slots.Slot.{Slot}
use Rattle.eval_machine.specs.declared.slots.Slot.TheVariants as slot
use Rattle.eval_machine.specs.DenotedValues.{val_of}

-- ---- in a state ----

-- The reference in a slot, if the slot exists.
abbrev pub ref_in : State → (table place : ℕ) → Option RefVal
ref_in s table place = slice_get s.store.tables table >>= λ t. slice_get t.slots place

-- Whether nothing is known of the slot, as it is tested before a step reads it.
abbrev pub is_unknown_in : State → (table place : ℕ) → Bool
is_unknown_in s table place = any_in_row s.unknown.slots table place 1

-- The `Slot` describes a slot that holds this reference (`None`: it does not exist); if `unknown`,
-- nothing is known of it.
abbrev pub StandsAs : (unknown : Bool) → Option RefVal → Slot → Type 0
StandsAs unknown r slot.Unknown = unknown ≡ true
StandsAs unknown r (slot.Known value) = (unknown ≡ false) × ((r >>= λ x. Some (Ref x)) ≡ Some (val_of value))
StandsAs unknown r slot.OutOfBounds = (unknown ≡ false) × (r ≡ None)

-- The `Slot` describes this slot of the state.
abbrev pub IsSlot : State → (table place : ℕ) → Slot → Type 0
IsSlot s table place slot = StandsAs (is_unknown_in s table place) (ref_in s table place) slot

-- The number of slots of a table, if the table exists.
abbrev pub slot_count : State → (table : ℕ) → Option ℕ
slot_count s table = slice_get s.store.tables table >>= λ t. Some (length t.slots)

-- ---- in a machine ----

abbrev pub null_of : RefType → Value
null_of reft.Func = v.Func None
null_of reft.Extern = v.Extern

-- A slot of a table of this type to which no segment was copied; without a table there is no slot.
abbrev pub null_in : Option TableType → (place : ℕ) → Slot
null_in None place = slot.OutOfBounds
null_in (Some t) place = cond (nat_lt place t.limits.min) (slot.Known (null_of t.ty)) slot.OutOfBounds

-- The type of a table that the module defines; `None` for an imported one.
abbrev pub defined_table : Module → (table : ℕ) → Option TableType
defined_table m table = let imported = length (imported_tables m.imports) in cond (nat_lt table imported) None (slice_get m.tables (table - imported))

-- The number of slots of a table, which no evaluation changes; an imported table has none.
abbrev pub slots_declared : Module → (table : ℕ) → Option ℕ
slots_declared m table = let imported = length (imported_tables m.imports) in cond (nat_lt table imported) (Some 0) (slice_get m.tables (table - imported) >>= λ t. Some t.limits.min)

-- The key of a slot in the map of slots. Each table has 2^32 keys.
abbrev pub slot_key : (table place : ℕ) → ℕ
slot_key table place = 4294967296 * table + place

-- What was copied to a slot, if something was.
abbrev pub filled_at : List (ℕ × Slot) → (table place : ℕ) → Option Slot
filled_at filled table place = lookup (nat_eq (slot_key table place)) filled

-- What is in a slot, if segments filled the slots of `filled`.
abbrev pub slot_at : Module → List (ℕ × Slot) → (table place : ℕ) → Slot
slot_at m filled table place = unwrap_or (filled_at filled table place) (null_in (defined_table m table) place)
