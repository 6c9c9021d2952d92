use Rattle.merge_spec.proofs.FaultParts.{fault_names_part, fault_not_memory, none_with_several}
use Rattle.merge_spec.proofs.laws.link_faults_name_parts.Goals as goal

pub returns : goal.returns
returns c = record { names = fault_names_part; memory = fault_not_memory; several = none_with_several }
