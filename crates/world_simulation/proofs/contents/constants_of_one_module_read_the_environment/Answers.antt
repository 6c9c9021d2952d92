use Rattle.world_simulation.proofs.ConstantValues.{const_reads}
use Rattle.world_simulation.proofs.contents.constants_of_one_module_read_the_environment.Goals as goal

pub returns : goal.returns
returns c =
    let spaces = c.index_spaces_list_imports_and_definitions.ensures in
    record { values = const_reads spaces.spaces spaces.indices }
