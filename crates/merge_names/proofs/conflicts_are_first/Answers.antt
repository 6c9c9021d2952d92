use Rattle.merge_names.proofs.Rules.{conflicts_first}
use Rattle.merge_names.proofs.conflicts_are_first.Goals as goal

pub returns : goal.returns
returns c = record { first = conflicts_first }
