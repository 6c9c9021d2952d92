use Rattle.std.proofs.Common.{◌≡◌, ◌++◌, List, ℕ, drop}
use Rattle.base_lists.specs.Every.{Every}
use Rattle.clap.specs.Words.{found_of}
use Rattle.tools_cli_words.specs.Arguments.{said_flags}
use Rattle.tools_cli_words.specs.Reader.{GivesFlag}
use Rattle.tools_cli_words.specs.Meaning.{names_of}
use Rattle.tools_cli_words.proofs.matches.flags_in.Given as goal

abbrev pub invariant-loop-flag : goal.invariant-loop-flag
invariant-loop-flag l = (said : List (List ℕ)) → Every (GivesFlag (found_of l.matches) said) (names_of l.flags)
    → Every (GivesFlag (found_of l.matches) said) (names_of (drop l.flag-index l.flags)) ×
    (names_of l.given.items ++ said_flags (names_of (drop l.flag-index l.flags)) said ≡ said_flags (names_of l.flags) said)
