use Rattle.tools_cli_proof.proofs.WrittenOut.{status_in_full}
use Rattle.tools_cli_proof.proofs.runs.statuses_are_those_of_jobs.Goals as goal

pub returns : goal.returns
returns c = status_in_full
