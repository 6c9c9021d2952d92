use Rattle.tools_cli_proof.proofs.WrittenOut.{refused_in_full}
use Rattle.tools_cli_proof.proofs.runs.refused_runs_say_why.Goals as goal

pub returns : goal.returns
returns c = refused_in_full
