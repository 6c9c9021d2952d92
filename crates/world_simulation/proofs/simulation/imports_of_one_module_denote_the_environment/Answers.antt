use Rattle.world_simulation.proofs.ModulesAlone.{ends_outside, thing_is, space_is, read_is}
use Rattle.world_simulation.proofs.simulation.imports_of_one_module_denote_the_environment.Goals as goal

pub returns : goal.returns
returns c = record { ends = ends_outside; external_values = thing_is; spaces = space_is; reads = read_is }
