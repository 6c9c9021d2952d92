use Rattle.world_simulation.proofs.EmptyLoaders.{begins_as_primary, primary_inst}
use Rattle.world_simulation.proofs.loader.loaders_begin_as_their_primary.Goals as goal

pub returns : goal.returns
returns c = record { begin = begins_as_primary c.constants_of_one_module_read_the_environment.ensures.values; inst = primary_inst }
