-- The decision of a sample exists, and is one.
use Rattle.base_lists.proofs.Common.{◌≡◌, refl, ap, map, List, [], ◌∷◌, length, Option, Some, None, option_map, arith, cons_option}
use Rattle.wasm_tree_spec.specs.Prelude.{Module}
use Rattle.tools_cli_spec.specs.Prelude.{Text, MergeTask, SampleTask, Sample, Output, Decision, Refuses, Makes, Merges, not_linked, not_joined, merged, Decides, Samples, not_merged, sampled, sample_merge, sample_modules}
use Rattle.tools_cli_spec.specs.Job.{sample_outputs}
use Rattle.tools_cli_spec.specs.SampleLines.{sample_lines}

-- ---- no module and no file ----

abbrev IsOfNone : SampleTask → List Module → List Text → Decision → Type 0
IsOfNone sample trees contents decision = (trees ≡ []) × (contents ≡ []) × Samples sample decision

of_none : (sample : SampleTask) (trees : List Module) (contents : List Text) (decision : Decision) → Decides (Sample sample) trees contents decision → IsOfNone sample trees contents decision
of_none sample [] [] decision h = (refl, refl, h)
of_none sample [] (bytes ∷ more) decision h = absurd h
of_none sample (tree ∷ trees) contents decision h = absurd h

pub decides_none : (sample : SampleTask) (trees : List Module) (contents : List Text) (decision : Decision) → length trees ≡ 0 → length contents ≡ 0 → Samples sample decision → Decides (Sample sample) trees contents decision
decides_none sample [] [] decision each all h = h
decides_none sample [] (bytes ∷ more) decision each all h = absurd (omega (arith, all))
decides_none sample (tree ∷ trees) contents decision each all h = absurd (omega (arith, each))

-- ---- it decides something ----

of_merge : (sample : SampleTask) (decision : Decision) → Merges sample_merge (sample_modules sample) decision → (other : Decision) × Samples sample other
of_merge sample decision (not_linked fault text found says) = (Refuses text, not_merged text (not_linked fault text found says))
of_merge sample decision (not_joined fault text linked found says) = (Refuses text, not_merged text (not_joined fault text linked found says))
of_merge sample decision (merged tree is) = (Makes (sample_outputs sample tree) (sample_lines sample tree), sampled tree is)

pub sample_decides : (sample : SampleTask) (trees : List Module) (contents : List Text) → length trees ≡ 0 → length contents ≡ 0 → (decision : Decision) × Merges sample_merge (sample_modules sample) decision
    → (decision : Decision) × Decides (Sample sample) trees contents decision
sample_decides sample trees contents each all (decision, h) = let some = of_merge sample decision h in (some.0, decides_none sample trees contents some.0 each all some.1)

-- ---- it is one ----

abbrev pub MergesOnce : Type 0
MergesOnce = (merge : MergeTask) (trees : List Module) (one other : Decision) → Merges merge trees one → Merges merge trees other → one ≡ other

samples_once : MergesOnce → (sample : SampleTask) (one other : Decision) → Samples sample one → Samples sample other → one ≡ other
samples_once once sample one other (not_merged text h) (not_merged text' h') = once sample_merge (sample_modules sample) (Refuses text) (Refuses text') h h'
samples_once once sample one other (not_merged text h) (sampled tree is) = absurd (let both : Refuses text ≡ Makes _ _ = once sample_merge (sample_modules sample) (Refuses text) _ h (merged tree is) in cc)
samples_once once sample one other (sampled tree is) (not_merged text h) = absurd (let both : Refuses text ≡ Makes _ _ = once sample_merge (sample_modules sample) (Refuses text) _ h (merged tree is) in cc)
samples_once once sample one other (sampled tree is) (sampled tree' is') =
    let both : Makes (record { name = []; tree = tree; custom = [] } ∷ []) [] ≡ Makes (record { name = []; tree = tree'; custom = [] } ∷ []) [] = once sample_merge (sample_modules sample) _ _ (merged tree is) (merged tree' is') in
    let same : tree ≡ tree' = cc in
    ap (λ (t : Module). Makes (sample_outputs sample t) (sample_lines sample t)) same

pub sample_once : MergesOnce → (sample : SampleTask) (trees : List Module) (contents : List Text) (one other : Decision) → Decides (Sample sample) trees contents one → Decides (Sample sample) trees contents other → one ≡ other
sample_once once sample trees contents one other h k = samples_once once sample one other (of_none sample trees contents one h).2 (of_none sample trees contents other k).2

-- ---- what it writes ----

pub output_names_are : (o : Option Text) (tree : Module) → map (λ (x : Output). x.name) (cons_option (option_map (λ name. record { name = name; tree = tree; custom = [] }) o) []) ≡ cons_option o []
output_names_are None tree = refl
output_names_are (Some name) tree = refl
