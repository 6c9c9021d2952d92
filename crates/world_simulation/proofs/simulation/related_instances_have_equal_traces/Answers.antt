use Rattle.world_simulation.proofs.FirstStep.{runs_same}
use Rattle.world_simulation.proofs.simulation.related_instances_have_equal_traces.Goals as goal

pub returns : goal.returns
returns c = record {
  equal_traces = λ of apart v w env r moves n. runs_same c.related_runs_have_equal_traces.ensures.events of apart env moves n r;
  begun = λ of apart env b c' r moves n. runs_same c.related_runs_have_equal_traces.ensures.events of apart env moves n r;
}
