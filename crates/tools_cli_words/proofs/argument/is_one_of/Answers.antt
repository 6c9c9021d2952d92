use Rattle.std.proofs.Common.{◌∙◌}
use Rattle.tools_cli_words.proofs.Lines.{any_from_either}
use Rattle.tools_cli_words.proofs.argument.is_one_of.Goals as goal

pub returns : goal.returns
returns c = c.contains.ensures.value ∙ any_from_either c.args.word.now c.args.words.now
