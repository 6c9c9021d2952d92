use Rattle.base_lists.proofs.Common.{◌≡◌, map, take}
use Rattle.tools_cli_decide.specs.Prelude.{names_of, source_values}
use Rattle.tools_cli_decide.proofs.merge.MergeTask.files.Given as goal

abbrev pub invariant-loop-source : goal.invariant-loop-source
invariant-loop-source l = names_of l.names.items ≡ map (λ s. s.file) (source_values (take l.source-index l.self.sources.items))
