use Rattle.world_simulation.proofs.AllocatedParts.{part_there}
use Rattle.world_simulation.proofs.AllocatedStores.{has_definitions}
use Rattle.world_simulation.proofs.simulation.allocated_stores_have_what_parts_define.Goals as goal

pub returns : goal.returns
returns c = record { placed = has_definitions; added = part_there }
