use Rattle.std.proofs.Common.{◌≡◌, map, drop}
use Rattle.tools_cli_words.specs.Arguments.{values_of, value_if_any}
use Rattle.tools_cli_words.specs.Meaning.{arguments_value, option_value}
use Rattle.tools_cli_words.proofs.Lines.{found_then}
use Rattle.tools_cli_words.proofs.arguments.Arguments.value_if_any.Given as goal

abbrev pub invariant-loop-valued : goal.invariant-loop-valued
invariant-loop-valued l = found_then l.found (values_of l.option (map option_value (drop l.valued-index l.self.values.items))) ≡ value_if_any l.option (arguments_value l.self)
