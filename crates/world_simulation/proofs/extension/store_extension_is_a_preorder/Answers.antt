use Rattle.world_simulation.proofs.StoreExtension.{stays, and_then}
use Rattle.world_simulation.proofs.AddedModuleExtension.{stays_in}
use Rattle.world_simulation.proofs.extension.store_extension_is_a_preorder.Goals as goal

pub returns : goal.returns
returns c = record { reflexive = stays; transitive = and_then; kept = stays_in }
