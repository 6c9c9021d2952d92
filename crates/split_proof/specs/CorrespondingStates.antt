-- When a run of a module alone and one of its split under the loader correspond, after both are
-- instantiated.
use Rattle.std.specs.Prelude.{◌≡◌, ℕ, ◌+◌, ◌-◌, ◌&&◌, Bool, true, false, nat_eq, List, length, pos, Some, slice_get}
use Rattle.std.specs.List.{list_any}
use Rattle.wasm_tree_spec.specs.Prelude.{Functions, FuncType, Module, imported_funcs}
use Rattle.wasm_tree.specs.declared.module.Func as tree
use Rattle.wasm_meaning.specs.Prelude.{FuncRef, Inst, Placeholder, Store, Table, Environment, LoaderRun, LoaderWorld, secondary_of, Run, new_func, own_count}
use Rattle.run_simulation.specs.Prelude.{IsBegun, CodeAt, trampoline}
use Rattle.world_simulation.specs.TypedInstances.{IsTyped}
use Rattle.split_spec.specs.Prelude.{slot_table, type_index}
use Rattle.split_proof.specs.SplitWorlds.{type_in}
use Rattle.split_proof.specs.Addresses.{defined_address, is_left_at, slot_table_address, split_pairing}
use Rattle.split_proof.specs.SplitInstantiation.{RunsRelated}

-- ---- slots ----

-- what the slot of a moved function holds in this table
pub data SlotHolds (env : Environment) (m : Module) (moved : List ℕ) (loaded : List (ℕ × ℕ)) (s t : Store) (table : Table) (slot func : ℕ) : (is_loaded : Bool) → Type 0 where
  -- its placeholder, until its secondary module is loaded
  waits : slice_get table.slots slot ≡ Some (FuncRef (Some (own_count Functions env + slot))) → slice_get t.funcs (own_count Functions env + slot) ≡ Some (Placeholder slot (type_in m func)) →
      SlotHolds env m moved loaded s t table slot func false
  -- after that the loaded function, with related code
  filled : (c : ℕ) → slice_get table.slots slot ≡ Some (FuncRef (Some c)) → CodeAt (split_pairing env m moved loaded) s t (type_in m func) (defined_address env m func) c →
      SlotHolds env m moved loaded s t table slot func true

-- the slot holds what it should, as its secondary module is loaded or not
pub record SlotIs (env : Environment) (m : Module) (moved : List ℕ) (w : LoaderWorld) (loaded : List (ℕ × ℕ)) (s : Store) (q : LoaderRun) (table : Table) (slot func : ℕ) : Type 0 where
  pub secondary : ℕ
  pub is_place : secondary_of w.secondaries slot ≡ Some secondary
  pub is_loaded : Bool
  pub loaded_is : slice_get q.loaded secondary ≡ Some is_loaded
  pub holds : SlotHolds env m moved loaded s q.run.store table slot func is_loaded

-- ---- functions ----

-- The first store has no placeholder, and the moved functions as the module defines them. The
-- second has a trampoline wherever one is needed, and in each slot what belongs there.
pub record FuncsComeFrom (env : Environment) (m : Module) (moved : List ℕ) (w : LoaderWorld) (first second : Inst) (loaded : List (ℕ × ℕ)) (s : Store) (q : LoaderRun) : Type 0 where
  pub plain : (a n : ℕ) (u : FuncType) → slice_get s.funcs a ≡ Some (Placeholder n u) → ⊥
  pub moves : (slot func : ℕ) (f : tree.Func) → slice_get moved slot ≡ Some func → slice_get m.funcs (func - length (imported_funcs m.imports)) ≡ Some f →
      slice_get s.funcs (defined_address env m func) ≡ new_func first f
  pub trampolines : (slot func b : ℕ) → slice_get moved slot ≡ Some func → is_left_at env m moved (defined_address env m func) b ≡ true →
      slice_get q.run.store.funcs b ≡ Some (trampoline second (type_in m func) (type_index m func) (slot_table m) (pos slot))
  pub table : Table
  pub table_stands : slice_get q.run.store.tables (slot_table_address env m) ≡ Some table
  pub slots : (slot func : ℕ) → slice_get moved slot ≡ Some func → SlotIs env m moved w loaded s q table slot func
  -- each pair is of a moved function and one with related code
  pub pairs : (a c : ℕ) → list_any (λ p. nat_eq p.0 a && nat_eq p.1 c) loaded ≡ true →
      (slot func : ℕ) × (slice_get moved slot ≡ Some func) × (a ≡ defined_address env m func) × CodeAt (split_pairing env m moved loaded) s q.run.store (type_in m func) a c

-- ---- states ----

-- The runs are related and instantiated; `second` is the instance of the primary module, and its
-- indices name what that module says; functions and slots are as above.
pub record Corresponds (env : Environment) (m : Module) (moved : List ℕ) (w : LoaderWorld) (first second : Inst) (loaded : List (ℕ × ℕ)) (r : Run) (q : LoaderRun) : Type 0 where
  pub related : RunsRelated (split_pairing env m moved loaded) r q.run
  pub begun : IsBegun r.phase
  pub inst : q.inst ≡ Some second
  pub typed : IsTyped w.primary second q.run.store
  pub funcs : FuncsComeFrom env m moved w first second loaded r.store q
