use Rattle.run_simulation.proofs.UnknownSteps.{steps_agree_off, runs_agree_off}
use Rattle.run_simulation.proofs.steps_agree_off_unknown_places.Goals as goal

pub returns : goal.returns
returns c = record { steps = steps_agree_off; runs = runs_agree_off }
