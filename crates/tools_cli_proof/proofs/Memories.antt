-- No task allows several memories.
use Rattle.base_lists.proofs.Common.{◌≡◌, refl, false}
use Rattle.tools_cli_spec.specs.Prelude.{Task, Merge, Metadce, Split, CtorEval, Sample, many_of}

-- No task allows modules with several memories.
pub one_memory : (t : Task) → many_of t ≡ false
one_memory (Merge merge) = refl
one_memory (Metadce metadce) = refl
one_memory (Split split) = refl
one_memory (CtorEval eval) = refl
one_memory (Sample sample) = refl
