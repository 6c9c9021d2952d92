use Rattle.base_lists.proofs.Common.{◌≡◌, ◌≤◌, ◌+◌, ◌++◌, length, drop, into_iter_items}
use Rattle.merge_spec.specs.Prelude.{named_modules}
use Rattle.tools_cli_spec.specs.Prelude.{parts_of}
use Rattle.tools_cli_decide.specs.Prelude.{source_values}
use Rattle.tools_cli_decide.proofs.merging.name_parts.Given as goal

abbrev pub invariant-loop-module : goal.invariant-loop-module
invariant-loop-module l = record {
  named : named_modules l.parts ++ parts_of (source_values (drop (length l.parts) l.sources)) (into_iter_items l.module-iterator) ≡ parts_of (source_values l.sources) l.fn.modules.items;
  room : length l.parts + length (into_iter_items l.module-iterator) ≤ length l.sources;
}
