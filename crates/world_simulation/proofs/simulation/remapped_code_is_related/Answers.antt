use Rattle.run_simulation.specs.Laws.{passed}
use Rattle.index_remap_proof.specs.Indices.{with_entry}
use Rattle.world_simulation.proofs.NamedIndices.{all_named}
use Rattle.world_simulation.proofs.simulation.remapped_code_is_related.Goals as goal

pub returns : goal.returns
returns c = record {
  kept = λ of named l m kept i j k. all_named (passed of named l) m kept i j k;
  fitting = λ of named l m i j k code fit. all_named (passed of named l) m (with_entry m) i j k code (c.renumbering_keeps_typing.ensures.named m code fit);
}
