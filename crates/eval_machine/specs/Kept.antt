-- The state of an evaluation that a machine and its module represent together, and when a machine
-- fits a module.
use Rattle.std.specs.Prelude.{◌≡◌, ℕ, ◌*◌, ◌<◌, List, [], ◌∷◌, ◌++◌, map, length, Bool, true, false, cond, Option, Some, None, slice_get, unwrap_or}
use Rattle.base_lists.specs.Places.{places}
use Rattle.block_pool.specs.Pages.{Pages, size}
use Rattle.wasm_tree_spec.specs.Prelude.{Globals, Limits, DataSeg, Module, imported_funcs, imported_tables, imported_memories, globals_of}
use Rattle.wasm_meaning.specs.Prelude.{Memory, Data, Store, no_bytes}
use Rattle.run_simulation.specs.Prelude.{none_unknown}
use Rattle.eval_spec.specs.declared.limits.TheConstants.{MOST_TURNS}
use Rattle.eval_spec.specs.Prelude.{State, is_finished, state_of, is_imported, imported_store, instantiated}
use Rattle.eval_proof.specs.GlobalValues.{GlobalsAreTyped, RefsAreThere}
use Rattle.eval_machine.specs.declared.globals.GlobalSlot.{GlobalSlot}
use Rattle.eval_machine.specs.declared.kept.ImportCounts.{ImportCounts}
use Rattle.eval_machine.specs.declared.kept.Kept.{Kept}
use Rattle.eval_machine.specs.Undo.{FlagsAreRight}
use Rattle.eval_machine.specs.Written.{HoldsMost}
use Rattle.eval_machine.specs.DenotedValues.{global_of, is_of_import, is_unset}
use Rattle.eval_machine.specs.Slots.{IsSlot, slot_at, slot_count, slots_declared}

-- ---- the state ----

-- The value of `base_of` if the instantiation is stopped.
abbrev pub no_state : State
no_state = record { store = record { funcs = []; tables = []; mems = []; globals = []; elems = []; datas = [] }; unknown = none_unknown; written = []; turns = 0 }

-- The state after the instantiation without the start. No call changes its functions, tables and
-- element segments, nor which of its slots and items are unknown.
unfoldable pub base_of : Module → State
base_of m = unwrap_or (state_of (instantiated m MOST_TURNS)) no_state

-- The memory that the module defines, with the bytes of the pages.
abbrev pub memory_in : List Limits → Option Pages → List Memory
memory_in (l ∷ ls) (Some p) = record { most = l.max; pages = l.min; bytes = p.now.bytes } ∷ []
memory_in _ _ = []

-- The data segments of the module; `dropped` says which of them are dropped.
abbrev pub datas_in : List DataSeg → (dropped : List Bool) → List Data
datas_in (d ∷ ds) (b ∷ bs) = cond b no_bytes (record { bytes = d.bytes; dropped = false }) ∷ datas_in ds bs
datas_in _ _ = []

abbrev pub written_in : Option Pages → List Bool
written_in (Some p) = p.now.written
written_in None = []

-- The store of the machine: its memory, globals and data segments, in the store of `base_of m`.
abbrev pub store_in : Module → Kept → Store
store_in m k =
    let base = base_of m in record base.store { mems = (imported_store m).mems ++ memory_in m.mems k.memory; globals = map global_of k.globals; datas = datas_in m.datas k.dropped }

-- The state of the machine: what it keeps, with the code, tables and element segments of the
-- module.
abbrev pub state_in : Module → Kept → State
state_in m k = let base = base_of m in record {
  store = store_in m k;
  unknown = record base.unknown { globals = places (λ g. is_unset g.standing) k.globals 0 };
  written = written_in k.memory;
  turns = k.turns;
}

-- ---- a machine that fits a module ----

abbrev pub counts_of : Module → ImportCounts
counts_of m = record { funcs = length (imported_funcs m.imports); tables = length (imported_tables m.imports); memories = length (imported_memories m.imports) }

-- The pages have the declared size and may hold as many written blocks as `HoldsMost` says; if the
-- module defines no memory, there are no pages.
abbrev pub MemoryFits : List Limits → Option Pages → Type 0
MemoryFits [] None = Unit {0}
MemoryFits (l ∷ []) (Some p) = (size p ≡ 65536 * l.min) × HoldsMost p
MemoryFits _ _ = ⊥

-- Nothing stops the instantiation of `m`; `k` has the types of its globals, the size of its memory,
-- the number of its data segments, its slots after the instantiation, and its import counts; and
-- each global whose flag in the undo log is set is noted there.
pub record MachineFits (m : Module) (k : Kept) : Type 0 where
  pub ready : is_finished (instantiated m MOST_TURNS) ≡ true
  pub types : map (λ g. g.ty) k.globals ≡ globals_of m
  pub imported : (n : ℕ) (g : GlobalSlot) → slice_get k.globals n ≡ Some g → is_of_import g.standing ≡ is_imported m Globals n
  pub memory : MemoryFits m.mems k.memory
  pub dropped : length k.dropped ≡ length m.datas
  pub slots : (table place : ℕ) → place < 4294967296 → IsSlot (base_of m) table place (slot_at m k.slots table place)
  pub sizes : (table : ℕ) → slot_count (base_of m) table ≡ slots_declared m table
  pub imports : k.imports ≡ counts_of m
  pub flags : FlagsAreRight k.undo.globals k.undo.noted

-- No mark is set in the memory, if there is one.
abbrev pub IsUnmarked : Option Pages → Type 0
IsUnmarked (Some p) = p.mark ≡ None
IsUnmarked None = Unit {0}

-- The machine is between calls: it fits the module, no mark is set, the values of globals have
-- their types, and each function to which a global refers is a function of the module.
pub record Rests (m : Module) (k : Kept) : Type 0 where
  pub fits : MachineFits m k
  pub unmarked : IsUnmarked k.memory
  pub typed : GlobalsAreTyped m (store_in m k)
  pub references : RefsAreThere m (store_in m k)
