use Rattle.base_lists.proofs.Common.{◌≡◌, drop, list_all}
use Rattle.tools_cli_spec.specs.Prelude.{is_within}
use Rattle.tools_cli_decide.specs.Prelude.{output_values}
use Rattle.tools_cli.proofs.encode.are_within.Given as goal

abbrev pub invariant-loop-output : goal.invariant-loop-output
invariant-loop-output l = list_all is_within (output_values l.outputs) ≡ list_all is_within (output_values (drop l.output-index l.outputs))
