use Rattle.world_simulation.proofs.StartFunctions.{one_start}
use Rattle.world_simulation.proofs.simulation.one_start_for_several_equivalent.Goals as goal

pub returns : goal.returns
returns c = record { calls = one_start c.start_depends_only_on_its_frames.ensures.own_frames }
