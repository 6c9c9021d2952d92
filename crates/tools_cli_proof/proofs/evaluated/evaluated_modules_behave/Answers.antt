use Rattle.tools_cli_proof.proofs.Behaving.{behave, run_them}
use Rattle.tools_cli_proof.proofs.evaluated.evaluated_modules_behave.Goals as goal

pub returns : goal.returns
returns c =
    let quiet = c.counted_constructors_are_the_longest_quiet_prefix.ensures.quiet in
    let none = c.evaluations_end.ensures.none in
    record {
      behaves = behave quiet none c.snapshot_equivalent.ensures.equivalent c.snapshot_equivalent.ensures.none;
      machines = run_them quiet none c.quiet_runs_are_the_machines.ensures.machines c.quiet_runs_are_the_machines.ensures.starts;
    }
