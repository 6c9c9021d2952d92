use Rattle.std.specs.Prelude.{[]}
use Rattle.run_simulation.specs.Laws.{passed}
use Rattle.world_simulation.proofs.EnvironmentEntities.{own_correspond}
use Rattle.world_simulation.proofs.simulation.own_entities_correspond.Goals as goal

pub returns : goal.returns
returns c = record { own = λ of env shares. own_correspond (passed of of []) env shares }
