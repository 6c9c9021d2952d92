-- Which addresses correspond in two stores: the first of the module alone, the second of its split
-- under the loader of its secondary modules; and which code may replace a call of a moved function.
-- In both stores the environment's own entities come first. In the second, these functions follow:
-- the placeholders, one for each slot; the functions that the primary module defines; and those of
-- the secondary modules, in the order in which these are loaded.
use Rattle.std.specs.Prelude.{ℕ, ℤ, ◌+◌, ◌-◌, Bool, false, ◌&&◌, cond, nat_eq, nat_lt, List, [], ◌∷◌, map, length, Some, slice_get, slice_index, unwrap_or}
use Rattle.std.specs.List.{list_any}
use Rattle.base_lists.specs.Options.{◌>>=◌}
use Rattle.wasm_num.specs.Operations.{wrapped}
use Rattle.wasm_tree_spec.specs.Prelude.{Space, Functions, Tables, Call, I32Const, CallIndirect, Module, same_func_type, imported_funcs}
use Rattle.wasm_meaning.specs.Prelude.{Inst, Environment, own_count, defined_count}
use Rattle.run_simulation.specs.Prelude.{Pairing, passed_with}
use Rattle.run_simulation.specs.Laws.{CodeTest}
use Rattle.split_spec.specs.Prelude.{place_among, is_left, primary_map}
use Rattle.split_proof.specs.SplitWorlds.{type_in}

-- ---- addresses ----

-- the address in the first store of a function that the module defines
abbrev pub defined_address : Environment → Module → (func : ℕ) → ℕ
defined_address env m func = own_count Functions env + (func - length (imported_funcs m.imports))

-- A function of the environment corresponds to itself. One that the module defines corresponds to
-- the function that the primary module has in its place, if it has one.
abbrev pub is_left_at : Environment → Module → (moved : List ℕ) → (a b : ℕ) → Bool
is_left_at env m moved a b =
    let own = own_count Functions env in let imported = length (imported_funcs m.imports) in let index = imported + (a - own) in
    cond (nat_lt a own) (nat_eq a b) (nat_lt (a - own) (length m.funcs) && (is_left m moved index && nat_eq (imported + b) (own + slice_index (primary_map m moved).funcs index)))

-- In the other index spaces each entity of the environment or of the module corresponds to the one
-- at the same address. The slot table and its segment come after these.
abbrev pub is_partner : Environment → Module → (moved : List ℕ) → Space → (a b : ℕ) → Bool
is_partner env m moved Functions a b = is_left_at env m moved a b
is_partner env m moved k a b = nat_eq a b && nat_lt a (own_count k env + defined_count k m)

-- ---- moved functions ----

-- the addresses of the moved functions in the first store, in the order of their slots
abbrev pub moved_addresses : Environment → Module → (moved : List ℕ) → List ℕ
moved_addresses env m moved = map (defined_address env m) moved

-- the address of the slot table in the second store
abbrev pub slot_table_address : Environment → Module → ℕ
slot_table_address env m = own_count Tables env + length m.tables

-- An `i32.const` with this number and a `call_indirect` with these indices, in this instance, call
-- what is in the slot of the moved function at this address, with its type.
abbrev pub calls_its_slot : Environment → Module → (moved : List ℕ) → Inst → (function : ℕ) → (slot : ℤ) → (ty table : ℕ) → Bool
calls_its_slot env m moved j a slot ty table =
    unwrap_or (place_among (moved_addresses env m moved) a >>= λ place. slice_get moved place >>= λ func. slice_get j.types ty >>= λ u. slice_get j.tables table >>= λ t.
    Some (nat_eq (wrapped 32 slot) place && (same_func_type u (type_in m func) && nat_eq t (slot_table_address env m)))) false

-- the index names, in an instance, a function that is loaded for the moved one at this address
abbrev pub calls_loaded : (loaded : List (ℕ × ℕ)) → Inst → (function : ℕ) → (index : ℕ) → Bool
calls_loaded loaded j a index = unwrap_or (slice_get j.funcs index >>= λ c. Some (list_any (λ p. nat_eq p.0 a && nat_eq p.1 c) loaded)) false

-- what may replace a call of a moved function: a call through its slot, or a direct call of a
-- function that is loaded for it
abbrev pub may_stand : Environment → Module → (moved : List ℕ) → (loaded : List (ℕ × ℕ)) → CodeTest
may_stand env m moved loaded j a (I32Const slot ∷ (CallIndirect ty table ∷ [])) = calls_its_slot env m moved j a slot ty table
may_stand env m moved loaded j a (Call index ∷ []) = calls_loaded loaded j a index
may_stand env m moved loaded j a code = false

-- ---- the relation ----

-- The simulation relation of a split. The moved functions are opaque. `loaded` has for each loaded
-- function the address of the moved function in the first store, and then its own in the second.
abbrev pub split_pairing : Environment → Module → (moved : List ℕ) → (loaded : List (ℕ × ℕ)) → Pairing
split_pairing env m moved loaded = passed_with (is_partner env m moved) (is_partner env m moved) (moved_addresses env m moved) (may_stand env m moved loaded)
