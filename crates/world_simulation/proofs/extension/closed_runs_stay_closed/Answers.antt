use Rattle.world_simulation.proofs.FailedRuns.{stays_over}
use Rattle.world_simulation.proofs.extension.closed_runs_stay_closed.Goals as goal

pub returns : goal.returns
returns c = record { over = stays_over }
