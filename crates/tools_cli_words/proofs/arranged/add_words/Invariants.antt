use Rattle.std.proofs.Common.{◌≡◌, ◌++◌, map, string_bytes, drop}
use Rattle.tools_cli_words.specs.Meaning.{names_of}
use Rattle.tools_cli_words.proofs.arranged.add_words.Given as goal

abbrev pub invariant-loop-word : goal.invariant-loop-word
invariant-loop-word l = map string_bytes l.words.items ++ names_of (drop l.word-index l.more) ≡ map string_bytes l.initial.words.items ++ names_of l.more
