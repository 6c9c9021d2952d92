use Rattle.std.proofs.Common.{◌∙◌, ap, option_map}
use Rattle.tools_cli_words.specs.Arguments.{values_of}
use Rattle.tools_cli_words.specs.Meaning.{arguments_value}
use Rattle.tools_cli_words.proofs.Lines.{only_from}
use Rattle.tools_cli_words.proofs.arguments.Arguments.only_value.Goals as goal

pub returns : goal.returns
returns c = ap (option_map (λ text. text.now)) c.flatten.ensures ∙ only_from c.value_if_any.result (values_of c.args.option.now (arguments_value c.args.self.now).values) c.value_if_any.ensures
