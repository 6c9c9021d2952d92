use Rattle.std.specs.Prelude.{[]}
use Rattle.run_simulation.specs.Laws.{passed}
use Rattle.world_simulation.proofs.AllocatedStores.{stores_rel}
use Rattle.world_simulation.proofs.RelatedInstantiation.{what_is_made, begin_alike, instances_rel}
use Rattle.world_simulation.specs.CorrespondingWorlds.{in_world}
use Rattle.world_simulation.proofs.simulation.corresponding_worlds_have_equal_traces.Goals as goal

pub returns : goal.returns
returns c = record {
  made = what_is_made;
  allocated = λ of named l env v w is js s z own defs first second. stores_rel (passed of named l) env (in_world v is) (in_world w js) own defs s z first second;
  begin = λ of named l apart env v w similar b c f g. begin_alike (passed of named l) apart env v w similar b c f g;
  instantiated = λ of apart env v w linked similar starts. instances_rel (passed of of []) apart env v w similar starts linked;
  equal_traces = λ of apart env v w linked similar starts moves n.
      c.related_instances_have_equal_traces.ensures.equal_traces of apart v w env (instances_rel (passed of of []) apart env v w similar starts linked) moves n;
}
