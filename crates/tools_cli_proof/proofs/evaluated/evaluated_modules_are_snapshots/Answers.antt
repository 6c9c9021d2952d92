use Rattle.tools_cli_proof.proofs.TreesHold.{are_snapshots}
use Rattle.tools_cli_proof.proofs.evaluated.evaluated_modules_are_snapshots.Goals as goal

pub returns : goal.returns
returns c = are_snapshots
