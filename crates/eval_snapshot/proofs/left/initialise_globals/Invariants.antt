use Rattle.std.proofs.Common.{◌≡◌}
use Rattle.wasm_tree.specs.declared.module.Module.{Module}
use Rattle.eval_machine.specs.Kept.{MachineFits, state_in}
use Rattle.eval_snapshot_spec.specs.Snapshot.{global_left}
use Rattle.eval_snapshot.proofs.Indexed.{written}
use Rattle.eval_snapshot.proofs.left.initialise_globals.Given as goal

abbrev pub invariant-loop-at : goal.invariant-loop-at
invariant-loop-at l = (m : Module) → MachineFits m l.machine → l.globals ≡ written (global_left m (state_in m l.machine)) l.imported l.initial.globals l.at
