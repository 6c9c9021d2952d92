use Rattle.world_simulation.proofs.InstantiatedStores.{added_leaves, alone_leaves, world_leaves, primary_leaves}
use Rattle.world_simulation.proofs.contents.instantiated_stores_match_their_modules.Goals as goal

pub returns : goal.returns
returns c =
    let made = c.corresponding_worlds_have_equal_traces.ensures.made in
    record { added = added_leaves; alone = alone_leaves made; world = world_leaves made; primary = primary_leaves }
