-- A quiet instantiation as one by the machine, over a store in which imports hold nothing.
use Rattle.std.specs.Prelude.{◌≡◌, ℕ, Some, false}
use Rattle.wasm_tree_spec.specs.Prelude.{Module}
use Rattle.wasm_meaning.specs.Prelude.{Added, added_as}
use Rattle.eval_spec.specs.Prelude.{State, Finished, own_inst, imported_store, instantiated}

-- The machine's instantiation of the module, over the store of its imports (section 4.5.4), leaves
-- the store of `s`, and no segment traps.
pub record InstantiatedAs (m : Module) (s : State) : Type 0 where
  pub added : Added
  pub is : added_as (imported_store m) m (own_inst m) ≡ Some added
  pub untrapped : added.filled.trapped ≡ false
  pub store : added.filled.store ≡ s.store

-- An instantiation that nothing stops is one by the machine.
abbrev pub InstantiationsAreTheMachines : Type 0
InstantiationsAreTheMachines = (m : Module) (turns : ℕ) (s : State) → instantiated m turns ≡ Finished s → InstantiatedAs m s
