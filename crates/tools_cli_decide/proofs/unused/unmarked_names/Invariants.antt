use Rattle.base_lists.proofs.Common.{◌≡◌, drop}
use Rattle.tools_cli_spec.specs.Prelude.{unmarked_from, unmarked_names}
use Rattle.tools_cli_decide.specs.Prelude.{names_of}
use Rattle.tools_cli_decide.proofs.unused.unmarked_names.Given as goal

abbrev pub invariant-loop-place : goal.invariant-loop-place
invariant-loop-place l = unmarked_names l.nodes l.marks ≡ unmarked_from (names_of l.names.keys) (drop l.place l.nodes) (drop l.place l.marks)
