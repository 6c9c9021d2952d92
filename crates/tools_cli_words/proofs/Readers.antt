-- The command of each tool reads the options and flags of its vocabulary.
use Rattle.std.proofs.Common.{◌≡◌, refl, true, ◌∷◌, []}
use Rattle.clap.specs.Words.{built}
use Rattle.clap.specs.Walk.{nothing_held}
use Rattle.clap.proofs.OnLiterals.{clap_on_literals}
use Rattle.clap.proofs.FaultLemmas.{leaf_fault}
use Rattle.tools_cli_words.specs.declared.tool.Tool.{Tool}
use Rattle.tools_cli_words.specs.declared.tool.Tool.TheVariants.{Merge, Split, Metadce, CtorEval, Sample}
use Rattle.tools_cli_words.specs.Vocabularies.{merge_vocabulary, split_vocabulary, metadce_vocabulary, ctor_eval_vocabulary, sample_vocabulary, vocabulary_of}
use Rattle.tools_cli_words.proofs.Reader.{IsReader, Reads}
use Rattle.tools_cli_words.specs.Reader.{app_of_vocabulary}

merge_reader : IsReader (built (app_of_vocabulary merge_vocabulary)).top merge_vocabulary
unfolding clap_on_literals
merge_reader = record {
  options = ((λ value rows. (refl, refl), refl, refl, refl), tt);
  flags = ((λ rows. (refl, refl), refl, refl, refl), ((λ rows. (refl, refl), refl, refl, refl), tt));
  first_plain = λ rows c text no. (simp no, simp no);
  next_plain = λ rows words c text no. (simp no, simp no);
  plain = refl;
  plain_default = refl;
  plain_option = refl;
  plain_flag = refl;
  harmless = refl;
  no_check = λ rows. refl;
}

split_reader : IsReader (built (app_of_vocabulary split_vocabulary)).top split_vocabulary
unfolding clap_on_literals
split_reader = record {
  options = (
    (λ value rows. (refl, refl), refl, refl, refl),
    (
      (λ value rows. (refl, refl), refl, refl, refl),
      (
        (λ value rows. (refl, refl), refl, refl, refl),
        (
          (λ value rows. (refl, refl), refl, refl, refl),
          ((λ value rows. (refl, refl), refl, refl, refl), ((λ value rows. (refl, refl), refl, refl, refl), ((λ value rows. (refl, refl), refl, refl, refl), tt))),
        ),
      ),
    ),
  );
  flags = tt;
  first_plain = λ rows c text no. (simp no, simp no);
  next_plain = λ rows words c text no. (simp no, simp no);
  plain = refl;
  plain_default = refl;
  plain_option = refl;
  plain_flag = refl;
  harmless = refl;
  no_check = λ rows. refl;
}

metadce_reader : IsReader (built (app_of_vocabulary metadce_vocabulary)).top metadce_vocabulary
unfolding clap_on_literals
metadce_reader = record {
  options = ((λ value rows. (refl, refl), refl, refl, refl), ((λ value rows. (refl, refl), refl, refl, refl), tt));
  flags = tt;
  first_plain = λ rows c text no. (simp no, simp no);
  next_plain = λ rows words c text no. (simp no, simp no);
  plain = refl;
  plain_default = refl;
  plain_option = refl;
  plain_flag = refl;
  harmless = refl;
  no_check = λ rows. refl;
}

ctor_eval_reader : IsReader (built (app_of_vocabulary ctor_eval_vocabulary)).top ctor_eval_vocabulary
unfolding clap_on_literals
ctor_eval_reader = record {
  options = ((λ value rows. (refl, refl), refl, refl, refl), ((λ value rows. (refl, refl), refl, refl, refl), ((λ value rows. (refl, refl), refl, refl, refl), tt)));
  flags = tt;
  first_plain = λ rows c text no. (simp no, simp no);
  next_plain = λ rows words c text no. (simp no, simp no);
  plain = refl;
  plain_default = refl;
  plain_option = refl;
  plain_flag = refl;
  harmless = refl;
  no_check = λ rows. refl;
}

sample_reader : IsReader (built (app_of_vocabulary sample_vocabulary)).top sample_vocabulary
unfolding clap_on_literals
sample_reader = record {
  options = ((λ value rows. (refl, refl), refl, refl, refl), ((λ value rows. (refl, refl), refl, refl, refl), ((λ value rows. (refl, refl), refl, refl, refl), tt)));
  flags = tt;
  first_plain = λ rows c text no. (simp no, simp no);
  next_plain = λ rows words c text no. (simp no, simp no);
  plain = refl;
  plain_default = refl;
  plain_option = refl;
  plain_flag = refl;
  harmless = refl;
  no_check = λ rows. refl;
}

merge_reads : Reads merge_vocabulary
unfolding clap_on_literals
merge_reads = record { reader = merge_reader; simple = refl; fault = λ word words. leaf_fault (built (app_of_vocabulary merge_vocabulary)) nothing_held words refl; rows = λ word words. refl }

split_reads : Reads split_vocabulary
unfolding clap_on_literals
split_reads = record { reader = split_reader; simple = refl; fault = λ word words. leaf_fault (built (app_of_vocabulary split_vocabulary)) nothing_held words refl; rows = λ word words. refl }

metadce_reads : Reads metadce_vocabulary
unfolding clap_on_literals
metadce_reads = record { reader = metadce_reader; simple = refl; fault = λ word words. leaf_fault (built (app_of_vocabulary metadce_vocabulary)) nothing_held words refl; rows = λ word words. refl }

ctor_eval_reads : Reads ctor_eval_vocabulary
unfolding clap_on_literals
ctor_eval_reads = record {
  reader = ctor_eval_reader;
  simple = refl;
  fault = λ word words. leaf_fault (built (app_of_vocabulary ctor_eval_vocabulary)) nothing_held words refl;
  rows = λ word
      words. refl;
}

sample_reads : Reads sample_vocabulary
unfolding clap_on_literals
sample_reads = record { reader = sample_reader; simple = refl; fault = λ word words. leaf_fault (built (app_of_vocabulary sample_vocabulary)) nothing_held words refl; rows = λ word words. refl }

pub tool_reads : (tool : Tool) → Reads (vocabulary_of tool)
tool_reads Merge = merge_reads
tool_reads Split = split_reads
tool_reads Metadce = metadce_reads
tool_reads CtorEval = ctor_eval_reads
tool_reads Sample = sample_reads
