-- The environment's own entities in two worlds where each has the same address: they correspond,
-- and so do the tables and globals that are allocated for them.
use Rattle.std.specs.Prelude.{◌≡◌, ℕ, ◌<◌, List, [], ◌++◌, length, Some, Bool}
use Rattle.wasm_tree_spec.specs.Prelude.{Space, Functions, Tables, Memories, Globals, Module}
use Rattle.wasm_meaning.specs.Prelude.{Environment, imports_of, numbers, owned_of, own_tables, own_globals, own_count, defined_count}
use Rattle.run_simulation.specs.Prelude.{Pairing, ListRel, TableRel, GlobalRel, KeyRel, passed}
use Rattle.world_simulation.specs.ModulesAlone.{addresses}

-- each address of the environment's own entities is related to itself
pub record SharesOwn (R : Pairing) (env : Environment) : Type 0 where
  pub funcs : (a : ℕ) → a < own_count Functions env → R.of Functions a a
  pub tables : (a : ℕ) → a < own_count Tables env → R.of Tables a a
  pub mems : (a : ℕ) → a < own_count Memories env → R.of Memories a a
  pub globals : (a : ℕ) → a < own_count Globals env → R.of Globals a a

-- the environment's own entities are related, and so are the tables and globals allocated for them
pub record OwnCorrespond (R : Pairing) (env : Environment) : Type 0 where
  pub owned : ListRel (KeyRel R) (owned_of env) (owned_of env)
  pub tables : ListRel (TableRel R) (own_tables env) (own_tables env)
  pub globals : ListRel (GlobalRel R) (own_globals env) (own_globals env)

abbrev pub OwnEntitiesCorrespond : Type 0
OwnEntitiesCorrespond = (of : Space → ℕ → ℕ → Bool) (env : Environment) → SharesOwn (passed of of []) env → OwnCorrespond (passed of of []) env

-- The index space of a module alone, by its addresses: those of the imports, each related to
-- itself, then those after all that is the environment's.
pub record SpaceAt (R : Pairing) (env : Environment) (t : Module) (k : Space) (xs : List ℕ) : Type 0 where
  pub imported : List ℕ
  pub are : addresses env t.types t.imports k ≡ Some imported
  pub many : length imported ≡ length (imports_of k t)
  pub all : xs ≡ imported ++ numbers (own_count k env) (defined_count k t)
  pub shared : ListRel (R.of k) imported imported
