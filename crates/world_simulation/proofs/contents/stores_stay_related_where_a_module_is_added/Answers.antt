use Rattle.run_simulation.specs.Laws.{passed}
use Rattle.world_simulation.proofs.AddedModules.{added_second, added_first}
use Rattle.world_simulation.proofs.contents.stores_stay_related_where_a_module_is_added.Goals as goal

pub returns : goal.returns
returns c = record {
  second = λ of named l s z m things a like h writes. added_second (passed of named l) s z m things a like h writes;
  first = λ of named l s z m things a like h writes. added_first (passed of named l) s z m things a like h writes;
}
