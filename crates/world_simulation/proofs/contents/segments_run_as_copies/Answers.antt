use Rattle.world_simulation.proofs.InstantiatedStores.{own_runs, alone_runs, own_leave}
use Rattle.world_simulation.proofs.contents.segments_run_as_copies.Goals as goal

pub returns : goal.returns
returns c = record { own = own_runs; alone = alone_runs; left = own_leave }
