-- The options and the flags of each tool.
use Rattle.std.specs.Prelude.{[], ◌∷◌, codes}
use Rattle.tools_cli_words.specs.Arguments.{Text, Vocabulary, output_option}
use Rattle.tools_cli_words.specs.declared.tool.Tool.{Tool}
use Rattle.tools_cli_words.specs.declared.tool.Tool.TheVariants.{Merge, Split, Metadce, CtorEval, Sample}

abbrev pub rename_flag : Text
rename_flag = codes "--rename-export-conflicts"

abbrev pub skip_flag : Text
skip_flag = codes "--skip-export-conflicts"

abbrev pub merge_vocabulary : Vocabulary
merge_vocabulary = record { options = output_option ∷ []; flags = rename_flag ∷ skip_flag ∷ [] }

abbrev pub split_vocabulary : Vocabulary
split_vocabulary = record {
  options = codes "--primary-output" ∷ codes "--secondary-output" ∷ codes "--split-funcs" ∷ codes "--keep-funcs" ∷ codes "--import-namespace" ∷ codes "--placeholder-namespace"
      ∷ codes "--export-prefix" ∷ [];
  flags = [];
}

abbrev pub metadce_vocabulary : Vocabulary
metadce_vocabulary = record { options = codes "--graph-file" ∷ output_option ∷ []; flags = [] }

abbrev pub ctor_eval_vocabulary : Vocabulary
ctor_eval_vocabulary = record { options = codes "--ctors" ∷ codes "--kept-exports" ∷ output_option ∷ []; flags = [] }

abbrev pub sample_vocabulary : Vocabulary
sample_vocabulary = record { options = codes "--seed" ∷ codes "--count" ∷ output_option ∷ []; flags = [] }

abbrev pub vocabulary_of : Tool → Vocabulary
vocabulary_of Merge = merge_vocabulary
vocabulary_of Split = split_vocabulary
vocabulary_of Metadce = metadce_vocabulary
vocabulary_of CtorEval = ctor_eval_vocabulary
vocabulary_of Sample = sample_vocabulary
