-- The quiet run, in whose store each index is its own address, as a run of the machine in an
-- environment: which address an index denotes there.
use Rattle.std.specs.Prelude.{◌≡◌, ℕ, ◌<◌, List, [], ◌∷◌, length, Bool, false, not, ◌&&◌, Option, None, Some, slice_get, nat_lt, IsTrue}
use Rattle.wasm_tree_spec.specs.Prelude.{Space, Types, Functions, Tables, Memories, Globals, ElementSegments, DataSegments, Module, same_space}
use Rattle.wasm_valid.specs.Prelude.{IsValid}
use Rattle.wasm_meaning.specs.Prelude.{Text, Inst, Store, Environment, is_environment, Begun, alone, insts_from, links, own_funcs, own_tables, own_memories, own_globals, own_store}
use Rattle.run_simulation.specs.Prelude.{passed, StoreRelOff}
use Rattle.world_simulation.specs.Prelude.{one}
use Rattle.world_simulation.specs.InstantiatedStores.{is_address}
use Rattle.eval_spec.specs.Prelude.{State, Finished, is_imported, own_inst, evaluated}
use Rattle.eval_snapshot_spec.specs.Evaluated.{first_missing, funcs_named}
use Rattle.eval_snapshot_proof.specs.EvaluatedWorlds.{evaluated_begun, started_begun, with_empty_func}

-- The addresses of an index space; types have none.
abbrev pub addresses_in : Inst → Space → List ℕ
addresses_in i Types = []
addresses_in i Functions = i.funcs
addresses_in i Tables = i.tables
addresses_in i Memories = i.mems
addresses_in i Globals = i.globals
addresses_in i ElementSegments = i.elems
addresses_in i DataSegments = i.datas

-- Whether the index of the module denotes this address in the instance.
abbrev pub names_at : Module → Inst → Space → (index address : ℕ) → Bool
names_at m i k n a = nat_lt n (length (addresses_in (own_inst m) k)) && is_address (slice_get (addresses_in i k) n) a

-- The same, except for imported tables, memories and globals, of whose contents nothing is known.
abbrev pub stands_at : Module → Inst → Space → (index address : ℕ) → Bool
stands_at m i k n a = names_at m i k n a && not (not (same_space k Functions) && is_imported m k n)

-- All of the environment's own entities, which have the first addresses of each kind, are the same
-- in both stores: its functions, and its tables, memories and globals with their contents.
pub record EnvironmentStays (env : Environment) (before after : Store) : Type 0 where
  pub funcs : (a : ℕ) → a < length (own_funcs env) → slice_get after.funcs a ≡ slice_get before.funcs a
  pub tables : (a : ℕ) → a < length (own_tables env) → slice_get after.tables a ≡ slice_get before.tables a
  pub mems : (a : ℕ) → a < length (own_memories env) → slice_get after.mems a ≡ slice_get before.mems a
  pub globals : (a : ℕ) → a < length (own_globals env) → slice_get after.globals a ≡ slice_get before.globals a

-- `made` is what running `other` (the module, perhaps with one additional function) leaves in the
-- environment, and it is the same as what the quiet run leaves in `t`: no segment traps, the calls
-- end, and the store is related to that of `t`, except for what is unknown. What the environment
-- offers, imported or not, is as it was before the instantiation.
pub record LeavesTheSame (env : Environment) (m other : Module) (made : Option Begun) (t : State) : Type 0 where
  pub begun : Begun
  pub is_begun : made ≡ Some begun
  pub untrapped : begun.trapped ≡ false
  pub inst : Inst
  pub is_inst : insts_from env (one other) 0 (one other) ≡ Some (inst ∷ [])
  pub related : StoreRelOff (passed (stands_at m inst) (names_at m inst) []) t.unknown t.store begun.store
  pub stays : EnvironmentStays env (own_store env) begun.store

-- In this environment the instantiation, with one additional function, the start and the calls of
-- the constructors end and leave what the quiet run leaves, except for what is unknown, and what the
-- environment owns as it was.
abbrev pub IsTheMachines : Environment → Module → (constructors kept : List Text) → State → Type 0
IsTheMachines env m constructors kept t = LeavesTheSame env m (with_empty_func m) (evaluated_begun env m constructors kept) t

-- The same for the instantiation of the module itself and its start, and the quiet run of no
-- constructor.
abbrev pub StartIsTheMachines : Environment → Module → State → Type 0
StartIsTheMachines env m t = LeavesTheSame env m m (started_begun env m) t

-- `IsTheMachines` holds in each environment that links a valid module, if at least one constructor
-- is named, each name is that of an exported function, and the evaluation is quiet.
abbrev pub QuietRunsAreTheMachines : Type 0
QuietRunsAreTheMachines =
    (m : Module) (name : Text) (names kept : List Text) (t : State) → IsValid m → first_missing m (name ∷ names) ≡ None → evaluated m (funcs_named m (name ∷ names)) ≡ Finished t →
    (env : Environment) → IsTrue (is_environment env) → IsTrue (links env (alone m)) → IsTheMachines env m (name ∷ names) kept t

-- `StartIsTheMachines` holds if none is named and the instantiation with the start is quiet. (With
-- one additional function the module need not be valid, because it may have no type for this
-- function.)
abbrev pub QuietStartsAreTheMachines : Type 0
QuietStartsAreTheMachines =
    (m : Module) (t : State) → IsValid m → evaluated m [] ≡ Finished t → (env : Environment) → IsTrue (is_environment env) → IsTrue (links env (alone m)) → StartIsTheMachines env m t
