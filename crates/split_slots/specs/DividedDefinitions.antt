-- What becomes of the defined functions.
use Rattle.std.specs.Prelude.{◌≡◌, ℕ, suc, ◌≤◌, ◌^◌, cond, is_some, length, List, [], ◌∷◌, ◌++◌, Option, Some, None, pos, slice_get}
use Rattle.std.specs.Option.{option_map_or}
use Rattle.wasm_tree_spec.specs.Prelude.{FuncType, Func}
use Rattle.run_simulation.specs.Prelude.{gets, slot_call}
use Rattle.split_spec.specs.Prelude.{with_calls}
use Rattle.split_slots.specs.declared.call_replacement.Calls.{Calls}
use Rattle.split_slots.specs.SlotLookup.{slot_at}
use Rattle.split_slots.specs.InstructionReplacements.{code_of_call}

-- a u32 can index each parameter of the function
abbrev pub FewParams : List FuncType → Func → Type 0
FewParams types f = length (option_map_or (λ t. t.params) (slice_get types f.ty) []) ≤ 2 ^ 32

-- the same for each of the functions
abbrev pub EachFewParams : List FuncType → List Func → Type 0
EachFewParams types fs = (i : ℕ) (f : Func) → slice_get fs i ≡ Some f → FewParams types f

-- the trampoline that replaces a function
abbrev pub trampoline_of : List FuncType → (table : ℕ) → Func → (slot : ℕ) → Func
trampoline_of types table f slot = record f { locals = []; body = gets 0 (option_map_or (λ t. t.params) (slice_get types f.ty) []) ++ slot_call f.ty table (pos slot) }

-- the function with its calls replaced
abbrev pub own_func : Calls → Func → Func
own_func c f = record f { body = with_calls (code_of_call c) f.body }

-- a function with a slot becomes a trampoline; another has its calls replaced
abbrev pub parted_func : List FuncType → Calls → Option ℕ → Func → Func
parted_func types c None f = record f { body = with_calls (code_of_call c) f.body }
parted_func types c (Some slot) f = trampoline_of types c.table f slot

-- the same for the functions from this index on
abbrev pub parted_funcs : List FuncType → Calls → (first : ℕ) → List Func → List Func
parted_funcs types c func [] = []
parted_funcs types c func (f ∷ fs) = parted_func types c (slot_at c.slots.now func) f ∷ parted_funcs types c (suc func) fs

-- those of them that have slots, unchanged
abbrev pub own_funcs : Calls → (first : ℕ) → List Func → List Func
own_funcs c func [] = []
own_funcs c func (f ∷ fs) = cond (is_some (slot_at c.slots.now func)) (f ∷ own_funcs c (suc func) fs) (own_funcs c (suc func) fs)
