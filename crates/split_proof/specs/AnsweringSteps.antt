-- The steps of a split under its loader that answer one step of the module alone.
use Rattle.std.specs.Prelude.{◌≡◌, ℕ, suc, ◌+◌, ◌≤◌, List}
use Rattle.wasm_tree_spec.specs.Prelude.{Module}
use Rattle.base_simulation.specs.Machines.{events_of, state_after}
use Rattle.wasm_meaning.specs.Prelude.{Inst, Environment, Run, tick, LoaderWorld, LoaderRun, tick_loader}
use Rattle.split_proof.specs.CorrespondingStates.{Corresponds}

-- The steps have the events of that one step and lead to a corresponding state. There is one step,
-- and at most `most + 2` more, which a call through a trampoline takes: one for each parameter, and
-- two.
pub record StepAnswered (env : Environment) (m : Module) (moved : List ℕ) (w : LoaderWorld) (first second : Inst) (most : ℕ) (r : Run) (q : LoaderRun) : Type 0 where
  pub further : ℕ
  pub bound : further ≤ most + 2
  pub shown : events_of (tick_loader w) q (suc further) ≡ events_of tick r 1
  pub loaded : List (ℕ × ℕ)
  pub next : Corresponds env m moved w first second loaded (tick r).0 (state_after (tick_loader w) q (suc further))
