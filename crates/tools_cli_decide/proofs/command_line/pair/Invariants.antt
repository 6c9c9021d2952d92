use Rattle.base_lists.proofs.Common.{◌≡◌, ◌++◌, option_map}
use Rattle.std.specs.Slice.Iter.{chunks_rest, chunks_size}
use Rattle.tools_cli_spec.specs.CommandLine.{sources_of}
use Rattle.tools_cli_decide.specs.Prelude.{names_of, source_values}
use Rattle.tools_cli_decide.proofs.command_line.pair.Given as goal

abbrev pub invariant-loop-words : goal.invariant-loop-words
invariant-loop-words l = record {
  rest : sources_of (names_of l.plain) ≡ option_map (λ rest. source_values l.sources.items ++ rest) (sources_of (names_of (chunks_rest l.words-iterator)));
  size : chunks_size l.words-iterator ≡ 2;
}
