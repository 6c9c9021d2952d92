use Rattle.std.proofs.Common.{◌≡◌, ◌++◌, map, drop}
use Rattle.clap.specs.Words.{found_of}
use Rattle.tools_cli_words.specs.Reader.{matched_options}
use Rattle.tools_cli_words.specs.Meaning.{option_value, names_of}
use Rattle.tools_cli_words.proofs.matches.values_in.Given as goal

abbrev pub invariant-loop-option : goal.invariant-loop-option
invariant-loop-option l = map option_value l.values.items ++ matched_options (found_of l.matches) (names_of (drop l.option-index l.options)) ≡ matched_options (found_of l.matches) (names_of l.options)
