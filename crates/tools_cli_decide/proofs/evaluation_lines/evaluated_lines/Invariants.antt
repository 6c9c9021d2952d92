use Rattle.std.proofs.Common.{◌≡◌, ◌++◌, drop}
use Rattle.tools_cli_spec.specs.EvaluationLines.{evaluated_lines}
use Rattle.tools_cli_decide.proofs.evaluation_lines.evaluated_lines.Given as goal

abbrev pub invariant-loop-name : goal.invariant-loop-name
invariant-loop-name l = l.lines.items ++ evaluated_lines (drop l.name-index l.names) ≡ evaluated_lines l.names
