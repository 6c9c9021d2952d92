use Rattle.world_simulation.proofs.PartInstances.{is_space, entry_at, insts_are}
use Rattle.world_simulation.proofs.simulation.index_spaces_list_imports_and_definitions.Goals as goal

pub returns : goal.returns
returns c = record { spaces = is_space; indices = entry_at; instances = insts_are }
