use Rattle.tools_cli_proof.proofs.WrittenOut.{outside_in_full}
use Rattle.tools_cli_proof.proofs.runs.outside_runs_have_causes.Goals as goal

pub returns : goal.returns
returns c = outside_in_full
