use Rattle.eval_proof.proofs.Instantiations.{instantiations_are_the_machines}
use Rattle.eval_proof.proofs.quiet.quiet_instantiations_are_instantiations.Goals as goal

pub returns : goal.returns
returns c = record { instantiations = instantiations_are_the_machines }
