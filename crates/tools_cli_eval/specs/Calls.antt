-- Calls in order, by a machine.
use Rattle.std.specs.Prelude.{◌≡◌, ℕ, ◌≤◌, List, length, take}
use Rattle.wasm_tree_spec.specs.Prelude.{Module}
use Rattle.eval_spec.specs.Prelude.{State, Finished, done_count, evaluated, stopped_by}
use Rattle.eval_machine.specs.declared.kept.Kept.{Kept}
use Rattle.eval_machine.specs.Prelude.{state_in}
use Rattle.tools_cli_eval.specs.declared.running.Calls.{Calls}

-- `calls` reports how many of these functions were evaluated and what stopped the next one. The
-- machine has the state that the evaluated ones left, except for the turns that remain: the call
-- that was stopped has spent some too.
pub record HaveEnded (m : Module) (funcs : List ℕ) (calls : Calls) (k : Kept) : Type 0 where
  pub few : calls.count ≤ length funcs
  pub count : calls.count ≡ done_count m funcs
  pub stopped : calls.stopped ≡ stopped_by m funcs
  pub end : State
  pub quiet : evaluated m (take calls.count funcs) ≡ Finished end
  pub state : state_in m k ≡ record end { turns = k.turns }
