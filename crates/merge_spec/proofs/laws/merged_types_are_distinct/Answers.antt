use Rattle.merge_spec.proofs.FirstAppearances.{types_are_distinct}
use Rattle.merge_spec.proofs.laws.merged_types_are_distinct.Goals as goal

pub returns : goal.returns
returns c = record { distinct = types_are_distinct }
