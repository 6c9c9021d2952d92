-- The decision of a sample, from its parts.
use Rattle.base_lists.proofs.Common.{◌≡◌, ◌∙◌, sym, ap, subst, false, List}
use Rattle.wasm_tree_spec.specs.Prelude.{Module}
use Rattle.tools_cli_spec.specs.Prelude.{Text, MergeTask, SampleTask, Output, Decision, Refuses, Makes, parts_of, AreMerged, Merges, Samples, not_merged, sampled, sample_merge, sample_modules, sample_parts}
use Rattle.tools_cli_spec.specs.Job.{sample_outputs}
use Rattle.tools_cli_spec.specs.SampleLines.{sample_lines}

pub sample_made : (sample : SampleTask) (tree : Module) (outputs : List Output) (lines : Text) → AreMerged false (sample_parts sample) sample_merge.mode tree → outputs ≡ sample_outputs sample tree → lines ≡ sample_lines sample tree
    → Samples sample (Makes outputs lines)
sample_made sample tree outputs lines is out told =
    let P : Decision → Type 0 = Samples sample in
    subst P (ap (λ (os : List Output). Makes os (sample_lines sample tree)) (sym out) ∙ ap (Makes outputs) (sym told)) (sampled tree is)

pub sample_merged : (sample : SampleTask) (merge : MergeTask) (trees : List Module) (tree : Module) → merge ≡ sample_merge → trees ≡ sample_modules sample → AreMerged false (parts_of merge.sources trees) merge.mode tree
    → AreMerged false (sample_parts sample) sample_merge.mode tree
sample_merged sample merge trees tree same each is =
    let P : MergeTask → Type 0 = λ m. AreMerged false (parts_of m.sources trees) m.mode tree in
    let Q : List Module → Type 0 = λ ts. AreMerged false (parts_of sample_merge.sources ts) sample_merge.mode tree in
    subst Q each (subst P same is)

pub sample_refused : (sample : SampleTask) (merge : MergeTask) (trees : List Module) → merge ≡ sample_merge → trees ≡ sample_modules sample → (text : Text) → Merges merge trees (Refuses text) → Samples sample (Refuses text)
sample_refused sample merge trees same each text h =
    let P : MergeTask → Type 0 = λ m. Merges m trees (Refuses text) in
    let Q : List Module → Type 0 = λ ts. Merges sample_merge ts (Refuses text) in
    not_merged text (subst Q each (subst P same h))
