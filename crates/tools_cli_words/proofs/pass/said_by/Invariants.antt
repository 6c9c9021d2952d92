use Rattle.std.proofs.Common.{◌≡◌, map, string_bytes, drop, option_map, None}
use Rattle.tools_cli_words.specs.Arguments.{said_from, arguments_of}
use Rattle.tools_cli_words.specs.Meaning.{said_value, names_of}
use Rattle.tools_cli_words.proofs.Lines.{and_then_arguments, arguments_from}
use Rattle.tools_cli_words.proofs.pass.said_by.Given as goal

abbrev pub invariant-loop-word : goal.invariant-loop-word
invariant-loop-word l =
    option_map arguments_of (said_from (record { options = names_of l.options; flags = names_of l.flags }) None (map string_bytes l.words))
    ≡ and_then_arguments (said_value l.said) (arguments_from (record { options = names_of l.options; flags = names_of l.flags }) (option_map (λ o. o.now) l.due)
    (map string_bytes (drop l.word-index l.words)))
