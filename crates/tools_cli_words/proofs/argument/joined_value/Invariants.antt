use Rattle.std.proofs.Common.{◌≡◌, drop}
use Rattle.tools_cli_words.specs.Arguments.{joined_value}
use Rattle.tools_cli_words.specs.Meaning.{names_of}
use Rattle.tools_cli_words.proofs.argument.joined_value.Given as goal

abbrev pub invariant-loop-option : goal.invariant-loop-option
invariant-loop-option l = joined_value (names_of l.options) l.word ≡ joined_value (names_of (drop l.option-index l.options)) l.word
