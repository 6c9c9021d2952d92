-- The environment's own entities in an instantiation and in calls that write to the definitions of a
-- module alone.
use Rattle.base_lists.proofs.Common.{◌∙◌, ap, refl, append_left, arith, ℕ, ◌≤◌, List, length, slice_get, set_other, subst}
use Rattle.wasm_tree_spec.specs.Prelude.{Tables, Memories, Globals, Module}
use Rattle.wasm_tree.specs.declared.module.Func as tree
use Rattle.wasm_meaning.specs.Prelude.{RefVal, Inst, Table, Memory, Store, Environment, joined_stores, own_funcs, own_tables, own_memories, own_globals, own_store}
use Rattle.run_simulation.specs.Prelude.{Pairing, Unknowns}
use Rattle.world_simulation.specs.Prelude.{one, IsInst}
use Rattle.eval_proof.specs.UnrelatedPlaces.{LeavesAlone}
use Rattle.eval_snapshot_proof.specs.QuietRunAddresses.{EnvironmentStays}
use Rattle.eval_snapshot_proof.proofs.AddedFunctions.{with_funcs}
use Rattle.eval_snapshot_proof.proofs.Counterparts.{R}
use Rattle.eval_snapshot_proof.proofs.IndexRelation.{past_base}
use Rattle.eval_snapshot_proof.proofs.RowsOfAddresses.{bases, rows}
use Rattle.eval_snapshot_proof.proofs.SegmentCopies.{with_memory, with_table}

pub stays_itself : (env : Environment) (s : Store) → EnvironmentStays env s s
stays_itself env s = record { funcs = λ a lt. refl; tables = λ a lt. refl; mems = λ a lt. refl; globals = λ a lt. refl }

pub stays_after : (env : Environment) (s t u : Store) → EnvironmentStays env s t → EnvironmentStays env t u → EnvironmentStays env s u
stays_after env s t u h k = record {
  funcs = λ a lt. k.funcs a lt ∙ h.funcs a lt;
  tables = λ a lt. k.tables a lt ∙ h.tables a lt;
  mems = λ a lt. k.mems a lt ∙ h.mems a lt;
  globals = λ a lt. k.globals a lt ∙ h.globals a lt;
}

-- What a module adds comes after what the environment owns.
pub stays_joined : (env : Environment) (there : Store) → EnvironmentStays env (own_store env) (joined_stores (own_store env) there)
stays_joined env there = record {
  funcs = λ a lt. append_left (own_funcs env) there.funcs a lt;
  tables = λ a lt. append_left (own_tables env) there.tables a lt;
  mems = λ a lt. append_left (own_memories env) there.mems a lt;
  globals = λ a lt. append_left (own_globals env) there.globals a lt;
}

-- A copy into a table or a memory that the environment does not own.
pub stays_with_table : (env : Environment) (s : Store) (n a : ℕ) (t : Table) (slots : List RefVal) → length (own_tables env) ≤ a → EnvironmentStays env s (with_table s n a t slots)
stays_with_table env s n a t slots le = record {
  funcs = λ b lt. refl;
  tables = λ b lt. set_other s.tables a b (record t { slots = slots }) (λ e. omega (arith, lt, le, e));
  mems = λ b lt. refl;
  globals = λ b lt. refl;
}

pub stays_with_memory : (env : Environment) (s : Store) (n a : ℕ) (t : Memory) (bytes : List ℕ) → length (own_memories env) ≤ a → EnvironmentStays env s (with_memory s n a t bytes)
stays_with_memory env s n a t bytes le = record {
  funcs = λ b lt. refl;
  tables = λ b lt. refl;
  mems = λ b lt. set_other s.mems a b (record t { bytes = bytes }) (λ e. omega (arith, lt, le, e));
  globals = λ b lt. refl;
}

module _ (env : Environment) (m : Module) (fs : List tree.Func) (i : Inst) (is : IsInst env (one (with_funcs m fs)) 0 (with_funcs m fs) i) where
  abbrev Q : Pairing
  Q = R env m fs i is

  pub table_past : (n a : ℕ) → Q.of Tables n a → length (own_tables env) ≤ a
  table_past n a h = subst (λ b. b ≤ a) (bases env m fs i is).0 (past_base m i (rows env m fs i is) Tables refl n a h)

  pub memory_past : (n a : ℕ) → Q.of Memories n a → length (own_memories env) ≤ a
  memory_past n a h = subst (λ b. b ≤ a) (bases env m fs i is).1 (past_base m i (rows env m fs i is) Memories refl n a h)

  global_past : (n a : ℕ) → Q.of Globals n a → length (own_globals env) ≤ a
  global_past n a h = subst (λ b. b ≤ a) (bases env m fs i is).2 (past_base m i (rows env m fs i is) Globals refl n a h)

  -- What calls leave alone has all that the environment owns.
  pub stays_alone : (u : Unknowns) (s t : Store) → LeavesAlone Q u s t → EnvironmentStays env s t
  stays_alone u s t alone = record {
    funcs = λ a lt. ap (λ xs. slice_get xs a) alone.funcs;
    tables = λ a lt. ap (λ xs. slice_get xs a) alone.tables;
    mems = λ a lt. alone.mems a (λ n h. let le = memory_past n a h in omega (arith, lt, le));
    globals = λ a lt. alone.globals a (λ n h. let le = global_past n a h in absurd (omega (arith, lt, le)));
  }
