-- The headline of each command follows from that of all commands.
use Rattle.base_lists.proofs.Common.{◌≡◌, ◌∙◌, refl, sym, ap, subst, ℕ, zero, suc, List, [], ◌∷◌, length, map, Option, Some, None, option_map, cons_option, slice_get, IfSome, get, false}
use Rattle.base_lists.specs.Every.{Every}
use Rattle.tool_io.specs.FilesAndSinks.{FileContents}
use Rattle.wasm_tree_spec.specs.Prelude.{Module}
use Rattle.wasm_read_spec.specs.Prelude.{Spells}
use Rattle.merge_names.specs.declared.mode.Mode.TheVariants.{Refuse}
use Rattle.merge_spec.specs.Prelude.{joined_module, repeated_name}
use Rattle.module_limits.specs.Counts.{over_limit}
use Rattle.dce_spec.specs.Reached.{marks_of}
use Rattle.dce_spec.specs.Swept.{swept}
use Rattle.eval_snapshot_spec.specs.Evaluated.{evaluated_tree, first_missing}
use Rattle.tools_cli_spec.specs.declared.evaluation.EvalFault.TheVariants.{NoSuchExport, TooMany}
use Rattle.tools_cli_spec.specs.Prelude.{Text, Source, MergeTask, MetadceTask, SplitTask, CtorEvalTask, SampleTask, Task, Merge, Metadce, Split, CtorEval, Sample, task_of, source_files, parts_of, words_plan, IsAccepted}
use Rattle.tools_cli_spec.specs.Faithful.{HoldsModule, HoldModules, Findings, AreMade, equivalence, Holds, FurtherClaims, TaskIsSound, EndsFaithful, output_names}
use Rattle.tools_cli_proof.specs.Headlines.{two_parts, HasRead, HasWritten, MergeIsFaithful, MetadceIsFaithful, SplitIsFaithful, CtorEvalIsFaithful, SampleIsWritten, SampleIsFaithful}
use Rattle.tools_cli_proof.proofs.Faithful.{joins_to, sweeps_to, none_of_both, none_from}

-- ---- what is read and written ----

has_read : (files : FileContents) (name : Text) (tree : Module) → HoldsModule false files name tree → HasRead files name tree
has_read files name tree h = record { bytes = h.0; there = h.1; spells = h.2 }

has_written : (files : FileContents) (name : Text) (tree : Module) → HoldsModule false files name tree → IsAccepted false tree → HasWritten files name tree
has_written files name tree h accepted = record { bytes = h.0; there = h.1; spells = h.2; valid = accepted.valid; single = accepted.single refl }

-- The files of the sources hold one module each.
as_many_read : (files : FileContents) (sources : List Source) (trees : List Module) → HoldModules false files (map (λ (s : Source). s.file) sources) trees → length trees ≡ length sources
as_many_read files [] [] h = refl
as_many_read files [] (tree ∷ trees) h = absurd h
as_many_read files (s ∷ sources) [] h = absurd h
as_many_read files (s ∷ sources) (tree ∷ trees) h = ap suc (as_many_read files sources trees h.1)

read_at : (files : FileContents) (sources : List Source) (trees : List Module) → HoldModules false files (map (λ (s : Source). s.file) sources) trees
    → (place : ℕ) (source : Source) (part : Module) → slice_get sources place ≡ Some source → slice_get trees place ≡ Some part → HasRead files source.file part
read_at files [] trees h place source part at is = absurd (cc)
read_at files (s ∷ sources) [] h place source part at is = absurd h
read_at files (s ∷ sources) (tree ∷ trees) h zero source part at is =
    let one : s ≡ source = cc in
    let other : tree ≡ part = cc in
    subst (λ (t : Module). HasRead files source.file t) other (subst (λ (x : Source). HasRead files x.file tree) one (has_read files s.file tree h.0))
read_at files (s ∷ sources) (tree ∷ trees) h (suc place) source part at is = read_at files sources trees h.1 place source part at is

-- ---- merge ----

merge_is : (merge : MergeTask) (before after : FileContents) (trees : List Module) (contents : List Text) (found : Findings (Merge merge)) (outputs : List Module) → HoldModules false before (source_files merge) trees → AreMade (Merge merge) trees contents found outputs
    → HoldModules false after (output_names (Merge merge) contents) outputs → Every (IsAccepted false) outputs → IfSome (equivalence (Merge merge) found trees outputs) Holds → FurtherClaims (Merge merge) found trees outputs → MergeIsFaithful merge before after
merge_is merge before after trees contents found [] read made written accepted behaves also = absurd made
merge_is merge before after trees contents found (tree ∷ other ∷ outputs) read made written accepted behaves also = absurd made
merge_is merge before after trees contents found (tree ∷ []) read made written accepted behaves also =
    let parts = parts_of merge.sources trees in
    let joins = joins_to (repeated_name parts merge.mode) (over_limit (joined_module parts merge.mode)) (joined_module parts merge.mode) tree made.1 in
    record {
      trees = trees;
      tree = tree;
      as_many = as_many_read before merge.sources trees read;
      read = read_at before merge.sources trees read;
      written = has_written after merge.output tree written.0 accepted.0;
      joined = sym joins.2;
      same = λ env is moves n. behaves env is refl moves n;
      sequential = also;
    }

-- ---- metadce ----

metadce_is : (metadce : MetadceTask) (before after : FileContents) (trees : List Module) (contents : List Text) (marks : Findings (Metadce metadce)) (outputs : List Module) → HoldModules false before (metadce.file ∷ []) trees
    → map (get before) (metadce.file ∷ metadce.graph_file ∷ []) ≡ map Some contents → AreMade (Metadce metadce) trees contents marks outputs → HoldModules false after (metadce.output ∷ []) outputs → Every (IsAccepted false) outputs
    → IfSome (equivalence (Metadce metadce) marks trees outputs) Holds → MetadceIsFaithful metadce before after
metadce_is metadce before after [] contents marks outputs read held made written accepted behaves = absurd read
metadce_is metadce before after (tree ∷ other ∷ trees) contents marks outputs read held made written accepted behaves = absurd read.1
metadce_is metadce before after (tree ∷ []) [] marks outputs read held made written accepted behaves = absurd (cc)
metadce_is metadce before after (tree ∷ []) (bytes ∷ []) marks outputs read held made written accepted behaves = absurd (cc)
metadce_is metadce before after (tree ∷ []) (bytes ∷ text ∷ more ∷ contents) marks outputs read held made written accepted behaves = absurd made
metadce_is metadce before after (tree ∷ []) (bytes ∷ text ∷ []) marks [] read held made written accepted behaves = absurd made
metadce_is metadce before after (tree ∷ []) (bytes ∷ text ∷ []) marks (left ∷ other ∷ outputs) read held made written accepted behaves = absurd made
metadce_is metadce before after (tree ∷ []) (bytes ∷ text ∷ []) marks (left ∷ []) read held made written accepted behaves =
    let there : get before metadce.graph_file ≡ Some text = cc in
    record {
      tree = tree;
      text = text;
      graph = made.0;
      marks = marks;
      left = left;
      read = has_read before metadce.file tree read.0;
      graph_there = there;
      graph_read = made.1.read;
      exact = made.1.exact;
      written = has_written after metadce.output left written.0 accepted.0;
      reduced = sym (sweeps_to (over_limit (swept (marks_of marks) tree)) (swept (marks_of marks) tree) left made.2).1;
      same = behaves;
    }

-- ---- split ----

split_is : (split : SplitTask) (before after : FileContents) (trees : List Module) (contents : List Text) (names : Findings (Split split)) (outputs : List Module) → HoldModules false before (split.file ∷ []) trees
    → map (get before) (split.file ∷ []) ≡ map Some contents → AreMade (Split split) trees contents names outputs → HoldModules false after (split.outputs.secondary ∷ split.outputs.primary ∷ []) outputs → Every (IsAccepted false) outputs
    → IfSome (equivalence (Split split) names trees outputs) Holds → FurtherClaims (Split split) names trees outputs → SplitIsFaithful split before after
split_is split before after [] contents names outputs read held made written accepted behaves also = absurd read
split_is split before after (tree ∷ other ∷ trees) contents names outputs read held made written accepted behaves also = absurd read.1
split_is split before after (tree ∷ []) [] names outputs read held made written accepted behaves also = absurd (cc)
split_is split before after (tree ∷ []) (bytes ∷ text ∷ contents) names outputs read held made written accepted behaves also = absurd made
split_is split before after (tree ∷ []) (bytes ∷ []) names [] read held made written accepted behaves also = absurd made
split_is split before after (tree ∷ []) (bytes ∷ []) names (first ∷ []) read held made written accepted behaves also = absurd made
split_is split before after (tree ∷ []) (bytes ∷ []) names (first ∷ second ∷ third ∷ outputs) read held made written accepted behaves also = absurd made
split_is split before after (tree ∷ []) (bytes ∷ []) names (first ∷ second ∷ []) read held made written accepted behaves also =
    let there : get before split.file ≡ Some bytes = cc in
    let both : Some read.0.0 ≡ Some bytes = sym read.0.1 ∙ there in
    let same : read.0.0 ≡ bytes = cc in
    record {
      tree = tree;
      bytes = bytes;
      names = names;
      moved = (words_plan split tree names).moved;
      first = first;
      second = second;
      there = there;
      spells = subst (λ (b : Text). Spells b tree false) same read.0.2;
      named = made.0.named;
      selected = refl;
      secondary_written = has_written after split.outputs.secondary first written.0 accepted.0;
      secondary_is = made.2;
      primary_written = has_written after split.outputs.primary second written.1.0 accepted.1.0;
      primary_is = made.3;
      same = λ env is moves n. behaves env is refl moves n;
      loads = also;
    }

-- ---- ctor-eval ----

eval_is : (eval : CtorEvalTask) (before after : FileContents) (trees : List Module) (contents : List Text) (found : Findings (CtorEval eval)) (outputs : List Module) → HoldModules false before (eval.file ∷ []) trees
    → AreMade (CtorEval eval) trees contents found outputs → HoldModules false after (eval.output ∷ []) outputs → Every (IsAccepted false) outputs
    → IfSome (equivalence (CtorEval eval) found trees outputs) Holds → FurtherClaims (CtorEval eval) found trees outputs → CtorEvalIsFaithful eval before after
eval_is eval before after [] contents found outputs read made written accepted behaves also = absurd read
eval_is eval before after (tree ∷ other ∷ trees) contents found outputs read made written accepted behaves also = absurd read.1
eval_is eval before after (tree ∷ []) [] found outputs read made written accepted behaves also = absurd made
eval_is eval before after (tree ∷ []) (bytes ∷ text ∷ contents) found outputs read made written accepted behaves also = absurd made
eval_is eval before after (tree ∷ []) (bytes ∷ []) found [] read made written accepted behaves also = absurd made
eval_is eval before after (tree ∷ []) (bytes ∷ []) found (left ∷ other ∷ outputs) read made written accepted behaves also = absurd made
eval_is eval before after (tree ∷ []) (bytes ∷ []) found (left ∷ []) read made written accepted behaves also =
    let none = none_of_both (option_map NoSuchExport (first_missing tree eval.ctors)) (option_map TooMany (over_limit (evaluated_tree tree eval.ctors eval.kept))) made.0 in
    record {
      tree = tree;
      left = left;
      read = has_read before eval.file tree read.0;
      listed = none_from NoSuchExport (first_missing tree eval.ctors) none.0;
      written = has_written after eval.output left written.0 accepted.0;
      evaluated = made.1;
      same = behaves;
      machine = also;
    }

-- ---- sample ----

sample_is : (sample : SampleTask) (after : FileContents) (o : Option Text) (trees : List Module) (outputs : List Module) → HoldModules false after (cons_option o []) outputs
    → AreMade (Sample sample) trees [] tt outputs → trees ≡ [] → Every (IsAccepted false) outputs → IfSome (equivalence (Sample sample) tt trees outputs) Holds → (name : Text) → o ≡ Some name → SampleIsWritten sample after name
sample_is sample after None trees outputs written made none accepted behaves name e = absurd (cc)
sample_is sample after (Some given) trees [] written made none accepted behaves name e = absurd written
sample_is sample after (Some given) (t ∷ trees) (tree ∷ outputs) written made none accepted behaves name e = absurd (cc)
sample_is sample after (Some given) [] (tree ∷ other ∷ outputs) written made none accepted behaves name e = absurd written.1
sample_is sample after (Some given) [] (tree ∷ []) written made none accepted behaves name e =
    let same : given ≡ name = cc in
    let parts = two_parts sample in
    let joins = joins_to (repeated_name parts Refuse) (over_limit (joined_module parts Refuse)) (joined_module parts Refuse) tree made.0.1 in
    record {
      tree = tree;
      written = subst (λ (x : Text). HasWritten after x tree) same (has_written after given tree written.0 accepted.0);
      joined = sym joins.2;
      same = λ env is moves n. behaves env is refl moves n;
    }

sample_all : (sample : SampleTask) (before after : FileContents) (trees : List Module) (contents : List Text) (found : Findings (Sample sample)) (outputs : List Module) → AreMade (Sample sample) trees contents found outputs
    → HoldModules false after (cons_option sample.output []) outputs → Every (IsAccepted false) outputs → IfSome (equivalence (Sample sample) found trees outputs) Holds → FurtherClaims (Sample sample) found trees outputs → SampleIsFaithful sample after
sample_all sample before after (tree ∷ trees) contents found outputs made written accepted behaves also = absurd made
sample_all sample before after [] (text ∷ contents) found outputs made written accepted behaves also = absurd made
sample_all sample before after [] [] found outputs made written accepted behaves also =
    record {
      written = sample_is sample after sample.output [] outputs written made refl accepted behaves;
      sequential = also;
    }

-- ---- of the words ----

-- The task of a command line is the one that it asks for.
sound_of : (words : List Text) (asked : Task) (before : FileContents) (new : Option FileContents) → task_of words ≡ Some asked → EndsFaithful words before new → (after : FileContents) × (new ≡ Some after) × TaskIsSound asked before after
sound_of words asked before new asks (after, is, (task, other, sound)) =
    let both : Some task ≡ Some asked = sym other ∙ asks in
    let same : task ≡ asked = cc in
    (after, is, subst (λ (t : Task). TaskIsSound t before after) same sound)

pub merge_headline : (words : List Text) (merge : MergeTask) (before : FileContents) (new : Option FileContents) → task_of words ≡ Some (Merge merge) → EndsFaithful words before new → (after : FileContents) × (new ≡ Some after) × MergeIsFaithful merge before after
merge_headline words merge before new asks ends =
    let (after, is, s) = sound_of words (Merge merge) before new asks ends in
    (after, is, merge_is merge before after s.trees s.contents s.found s.outputs s.read s.made s.written s.accepted s.behaves s.also)

pub metadce_headline : (words : List Text) (metadce : MetadceTask) (before : FileContents) (new : Option FileContents) → task_of words ≡ Some (Metadce metadce) → EndsFaithful words before new → (after : FileContents) × (new ≡ Some after) × MetadceIsFaithful metadce before after
metadce_headline words metadce before new asks ends =
    let (after, is, s) = sound_of words (Metadce metadce) before new asks ends in
    (after, is, metadce_is metadce before after s.trees s.contents s.found s.outputs s.read s.held s.made s.written s.accepted s.behaves)

pub split_headline : (words : List Text) (split : SplitTask) (before : FileContents) (new : Option FileContents) → task_of words ≡ Some (Split split) → EndsFaithful words before new → (after : FileContents) × (new ≡ Some after) × SplitIsFaithful split before after
split_headline words split before new asks ends =
    let (after, is, s) = sound_of words (Split split) before new asks ends in
    (after, is, split_is split before after s.trees s.contents s.found s.outputs s.read s.held s.made s.written s.accepted s.behaves s.also)

pub eval_headline : (words : List Text) (eval : CtorEvalTask) (before : FileContents) (new : Option FileContents) → task_of words ≡ Some (CtorEval eval) → EndsFaithful words before new → (after : FileContents) × (new ≡ Some after) × CtorEvalIsFaithful eval before after
eval_headline words eval before new asks ends =
    let (after, is, s) = sound_of words (CtorEval eval) before new asks ends in
    (after, is, eval_is eval before after s.trees s.contents s.found s.outputs s.read s.made s.written s.accepted s.behaves s.also)

pub sample_headline : (words : List Text) (sample : SampleTask) (before : FileContents) (new : Option FileContents) → task_of words ≡ Some (Sample sample) → EndsFaithful words before new → (after : FileContents) × (new ≡ Some after) × SampleIsFaithful sample after
sample_headline words sample before new asks ends =
    let (after, is, s) = sound_of words (Sample sample) before new asks ends in
    (after, is, sample_all sample before after s.trees s.contents s.found s.outputs s.made s.written s.accepted s.behaves s.also)
