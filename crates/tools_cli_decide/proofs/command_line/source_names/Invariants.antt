use Rattle.base_lists.proofs.Common.{◌≡◌, take}
use Rattle.tools_cli_decide.specs.Prelude.{names_of, source_names}
use Rattle.tools_cli_decide.proofs.command_line.source_names.Given as goal

abbrev pub invariant-loop-source : goal.invariant-loop-source
invariant-loop-source l = names_of l.names.items ≡ source_names (take l.source-index l.sources)
