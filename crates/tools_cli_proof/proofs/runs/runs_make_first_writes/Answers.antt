use Rattle.tools_cli_proof.proofs.WrittenOut.{changes_in_full}
use Rattle.tools_cli_proof.proofs.runs.runs_make_first_writes.Goals as goal

pub returns : goal.returns
returns c = changes_in_full
