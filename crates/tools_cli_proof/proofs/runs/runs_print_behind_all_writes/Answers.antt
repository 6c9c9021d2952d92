use Rattle.tools_cli_proof.proofs.WrittenOut.{prints_in_full}
use Rattle.tools_cli_proof.proofs.runs.runs_print_behind_all_writes.Goals as goal

pub returns : goal.returns
returns c = prints_in_full
