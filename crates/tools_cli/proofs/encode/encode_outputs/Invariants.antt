use Rattle.base_lists.proofs.Common.{◌≡◌, ◌++◌, map, into_iter_items}
use Rattle.tools_cli_spec.specs.Prelude.{spelled_output}
use Rattle.tools_cli_decide.specs.Prelude.{output_values}
use Rattle.tools_cli.specs.Writes.{write_entries}
use Rattle.tools_cli.proofs.encode.encode_outputs.Given as goal

abbrev pub invariant-loop-output : goal.invariant-loop-output
invariant-loop-output l = write_entries l.writes.items ++ map spelled_output (output_values (into_iter_items l.output-iterator)) ≡ map spelled_output (output_values l.fn.outputs.items)
