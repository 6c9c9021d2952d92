use Rattle.world_simulation.proofs.SegmentsInOrder.{elems_by, datas_by}
use Rattle.world_simulation.proofs.simulation.segments_are_listed_by_part.Goals as goal

pub returns : goal.returns
returns c = record { elems = elems_by; datas = datas_by }
