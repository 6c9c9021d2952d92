use Rattle.std.proofs.Common.{◌≡◌, ◌++◌, map, string_bytes, drop}
use Rattle.tools_cli_words.specs.Arguments.{option_word}
use Rattle.tools_cli_words.specs.Meaning.{said_option}
use Rattle.tools_cli_words.proofs.arranged.add_options.Given as goal

abbrev pub invariant-loop-said : goal.invariant-loop-said
invariant-loop-said l = map string_bytes l.words.items ++ map option_word (map said_option (drop l.said-index l.values)) ≡ map string_bytes l.initial.words.items ++ map option_word
    (map said_option l.values)
