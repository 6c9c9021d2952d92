use Rattle.tools_cli_proof.proofs.WrittenOut.{done_in_full}
use Rattle.tools_cli_proof.proofs.runs.done_runs_write_all.Goals as goal

pub returns : goal.returns
returns c = done_in_full
