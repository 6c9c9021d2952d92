use Rattle.base_lists.proofs.Common.{◌≡◌, ◌++◌, into_iter_items}
use Rattle.tools_cli_words.specs.Arguments.{listed_words}
use Rattle.tools_cli_words.specs.Meaning.{names_of}
use Rattle.tools_cli_words.proofs.lists.listed_words.Given as goal

abbrev pub invariant-loop-piece : goal.invariant-loop-piece
invariant-loop-piece l = l.words ++ names_of (into_iter_items l.piece-iterator) ≡ listed_words l.text
