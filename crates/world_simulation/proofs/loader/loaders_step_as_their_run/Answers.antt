use Rattle.world_simulation.proofs.LoaderSteps.{steps_as_run, goes_as_run, answered}
use Rattle.world_simulation.proofs.loader.loaders_step_as_their_run.Goals as goal

pub returns : goal.returns
returns c = record { step = steps_as_run; steps = goes_as_run; answered = answered }
