use Rattle.world_simulation.proofs.TypedInstances.{added_typed, stays_typed}
use Rattle.world_simulation.proofs.extension.instances_stay_typed.Goals as goal

pub returns : goal.returns
returns c = record { made = added_typed; stays = stays_typed }
