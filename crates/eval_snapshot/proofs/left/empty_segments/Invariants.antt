use Rattle.std.proofs.Common.{◌≡◌}
use Rattle.wasm_tree.specs.declared.module.Module.{Module}
use Rattle.eval_machine.specs.Kept.{MachineFits, state_in}
use Rattle.eval_snapshot_spec.specs.Snapshot.{segment_left}
use Rattle.eval_snapshot.proofs.Indexed.{written}
use Rattle.eval_snapshot.proofs.left.empty_segments.Given as goal

abbrev pub invariant-loop-at : goal.invariant-loop-at
invariant-loop-at l = (m : Module) → MachineFits m l.machine → l.segments ≡ written (segment_left (state_in m l.machine)) 0 l.initial.segments l.at
