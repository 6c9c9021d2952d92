use Rattle.index_remap_proof.proofs.NamedFuncs.{typed_named}
use Rattle.index_remap_proof.proofs.well_typed_bodies_name_declared_functions.Goals as goal

pub returns : goal.returns
returns c = typed_named
