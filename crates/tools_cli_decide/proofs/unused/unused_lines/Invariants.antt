use Rattle.base_lists.proofs.Common.{◌≡◌, ◌++◌}
use Rattle.tools_cli_spec.specs.Prelude.{unused_lines, unmarked_names}
use Rattle.tools_cli_decide.specs.Prelude.{names_of}
use Rattle.tools_cli_decide.proofs.unused.unused_lines.Given as goal

abbrev pub invariant-loop-name : goal.invariant-loop-name
invariant-loop-name l = l.lines.items ++ unused_lines (names_of l.name-iterator) ≡ unused_lines (unmarked_names l.nodes l.marks)
