use Rattle.world_simulation.proofs.DeclaredReferences.{is_with_declared, last_elems}
use Rattle.world_simulation.proofs.simulation.declared_references_are_one_more_segment.Goals as goal

pub returns : goal.returns
returns c = record { differs = is_with_declared; allocated = last_elems }
