use Rattle.run_simulation.specs.Laws.{passed_with}
use Rattle.std.specs.Prelude.{IsTrue}
use Rattle.run_simulation.proofs.WiderRelations.{code_wider, store_wider, run_wider}
use Rattle.run_simulation.proofs.code_relation_is_monotone.Goals as goal

pub returns : goal.returns
returns c = record {
  code = λ of named l fewer more allows i j c d h. code_wider (passed_with of named l fewer) (λ j a e. IsTrue (more j a e)) allows h;
  stores = λ of named l fewer more allows s t h. store_wider (passed_with of named l fewer) (λ j a e. IsTrue (more j a e)) allows h;
  runs = λ of named l fewer more allows r q h. run_wider (passed_with of named l fewer) (λ j a e. IsTrue (more j a e)) allows h;
}
