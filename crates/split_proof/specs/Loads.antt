-- What the load of a secondary module does (WebAssembly Core 2.0, section 4.5.4): its indices name
-- what the primary module's instance has, its functions come after all others in the store, and
-- references to them are put into their slots.
use Rattle.std.specs.Prelude.{◌≡◌, ℕ, ◌+◌, ◌^◌, ◌<◌, true, false, None, List, length, map, Some, slice_get, slice_index}
use Rattle.base_lists.specs.Places.{numbers}
use Rattle.wasm_tree_spec.specs.Prelude.{Functions, Tables, Memories, Globals, Module, IsBounded, funcs_of, tables_of, memories_of, globals_of}
use Rattle.wasm_tree.specs.declared.module.Func as tree
use Rattle.wasm_valid.specs.Prelude.{IsValid}
use Rattle.wasm_meaning.specs.Prelude.{overwrite, RefVal, FuncRef, Inst, Func, Table, Memory, Global, Elem, Data, Store, Added, secondary_added}
use Rattle.wasm_meaning.specs.World as world
use Rattle.index_remap.specs.Prelude.{new_func}
use Rattle.world_simulation.specs.InstantiatedStores.{Stands}
use Rattle.world_simulation.specs.TypedInstances.{IsTyped}
use Rattle.split_spec.specs.declared.names.SplitNames.{SplitNames}
use Rattle.split_spec.specs.Prelude.{defined_at, slot_table, is_from_primary, prefix_taken, primary_map, primary_with, HasSlots, secondary_func, secondary_map, secondary_with}
use Rattle.split_proof.specs.Premises.{CanMove}

-- ---- what its indices name ----

-- What the own functions name from the primary module has an entry in both remaps. In the two
-- instances these entries name one entity. So do both indices of the slot table.
pub record NamesWhatThePrimaryHas (m : Module) (moved own : List ℕ) (primary secondary : Inst) : Type 0 where
  pub types : secondary.types ≡ m.types
  pub funcs : (x : ℕ) → x < length (funcs_of m) → is_from_primary moved (defined_at m own) Functions x ≡ true →
      slice_get secondary.funcs (slice_index (secondary_map m moved own).funcs x) ≡ slice_get primary.funcs (slice_index (primary_map m moved).funcs x)
  pub tables : (x : ℕ) → x < length (tables_of m) → is_from_primary moved (defined_at m own) Tables x ≡ true →
      slice_get secondary.tables (slice_index (secondary_map m moved own).tables x) ≡ slice_get primary.tables x
  pub mems : (x : ℕ) → x < length (memories_of m) → is_from_primary moved (defined_at m own) Memories x ≡ true →
      slice_get secondary.mems (slice_index (secondary_map m moved own).mems x) ≡ slice_get primary.mems x
  pub globals : (x : ℕ) → x < length (globals_of m) → is_from_primary moved (defined_at m own) Globals x ≡ true →
      slice_get secondary.globals (slice_index (secondary_map m moved own).globals x) ≡ slice_get primary.globals x
  pub slots : slice_get secondary.tables (slice_index (secondary_map m moved own).tables (slot_table m)) ≡ slice_get primary.tables (slot_table m)

-- ---- what it leaves ----

-- references to `count` functions, from address `from` on
abbrev pub references : (from count : ℕ) → List RefVal
references from count = map (λ a. FuncRef (Some a)) (numbers from count)

-- A load: `s` is the store before it, and `t` the store after it, in which `secondary` is the
-- instance of the loaded module. Its own functions have the slots from `before` on.
pub record IsLoaded (m : Module) (moved own : List ℕ) (before : ℕ) (primary secondary : Inst) (s t : Store) : Type 0 where
  pub names : NamesWhatThePrimaryHas m moved own primary secondary
  -- the own functions, by index
  pub own_index : (p : ℕ) → p < length own → slice_get secondary.funcs (slice_index (secondary_map m moved own).funcs (length (funcs_of m) + p)) ≡ Some (length s.funcs + p)
  pub own_stands : (p : ℕ) (f : tree.Func) → slice_get (defined_at m own) p ≡ Some f →
      Stands t.funcs (length s.funcs + p) (world.new_func secondary (new_func (secondary_map m moved own) (secondary_func m moved own f)))
  -- the slot table, with references to these functions in their slots
  pub slots_filled : (a : ℕ) (u : Table) → slice_get primary.tables (slot_table m) ≡ Some a → slice_get s.tables a ≡ Some u →
      (slots : List RefVal) × (overwrite u.slots before (references (length s.funcs) (length own)) ≡ Some slots) × (slice_get t.tables a ≡ Some (record u { slots = slots }))
  -- everything else is unchanged
  pub earlier_funcs : (a : ℕ) (f : Func) → slice_get s.funcs a ≡ Some f → slice_get t.funcs a ≡ Some f
  pub other_tables : (a : ℕ) (u : Table) → slice_get s.tables a ≡ Some u → (slice_get primary.tables (slot_table m) ≡ Some a → ⊥) → slice_get t.tables a ≡ Some u
  pub earlier_mems : (a : ℕ) (x : Memory) → slice_get s.mems a ≡ Some x → slice_get t.mems a ≡ Some x
  pub earlier_globals : (a : ℕ) (g : Global) → slice_get s.globals a ≡ Some g → slice_get t.globals a ≡ Some g
  pub earlier_elems : (a : ℕ) (e : Elem) → slice_get s.elems a ≡ Some e → slice_get t.elems a ≡ Some e
  pub earlier_datas : (a : ℕ) (d : Data) → slice_get s.datas a ≡ Some d → slice_get t.datas a ≡ Some d

-- ---- the law ----

-- the secondary module links, none of its segments traps, and it is loaded
pub record Loads (namespace : ℕ → List ℕ) (names : SplitNames) (m : Module) (moved own : List ℕ) (before : ℕ) (primary : Inst) (s : Store) : Type 0 where
  pub added : Added
  pub links : secondary_added names.import_namespace (primary_with namespace names.export_prefix m moved) primary (secondary_with names m moved own before) s ≡ Some added
  pub fills : added.filled.trapped ≡ false
  pub is_loaded : IsLoaded m moved own before primary added.inst s added.filled.store

-- This holds in each store in which the indices of the primary module's instance name what the
-- primary module says.
abbrev pub SecondariesLoad : Type 0
SecondariesLoad =
    (namespace : ℕ → List ℕ) (names : SplitNames) (m : Module) (moved own : List ℕ) (before : ℕ) → IsValid m → IsBounded m → CanMove m moved → length moved < 2 ^ 32 →
    prefix_taken names.export_prefix m moved ≡ None → HasSlots moved own before →
    (primary : Inst) (s : Store) → IsTyped (primary_with namespace names.export_prefix m moved) primary s → Loads namespace names m moved own before primary s
