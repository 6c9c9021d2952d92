use Rattle.std.proofs.Common.{◌≡◌, drop, codes}
use Rattle.clap.specs.Words.{app_of, new_app}
use Rattle.tools_cli_words.specs.Meaning.{names_of}
use Rattle.tools_cli_words.specs.Reader.{with_options, with_flags}
use Rattle.tools_cli_words.proofs.command.command.Given as goal

abbrev pub invariant-loop-word : goal.invariant-loop-word
invariant-loop-word l = with_options (app_of l.command) (names_of (drop l.word-index l.options)) ≡ with_options (new_app (codes "binkit")) (names_of l.options)

abbrev pub invariant-loop-word-2 : goal.invariant-loop-word-2
invariant-loop-word-2 l = with_flags (app_of l.command) (names_of (drop l.word-index l.flags)) ≡ with_flags (with_options (new_app (codes "binkit")) (names_of l.options)) (names_of l.flags)
