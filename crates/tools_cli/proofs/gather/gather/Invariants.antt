use Rattle.base_lists.proofs.Common.{◌≡◌, ◌≤◌, ◌++◌, ◌+◌, IfSome, drop}
use Rattle.base_lists.specs.Every.{Every}
use Rattle.wasm_bytes.specs.Prelude.{IsBytes}
use Rattle.tool_io.specs.FilesAndSinks.{NoneFell}
use Rattle.tools_cli_spec.specs.Prelude.{NamedFile, gathered}
use Rattle.tools_cli_decide.specs.Prelude.{names_of, input_entries, total}
use Rattle.tools_cli.proofs.Gathering.{add_all, AreTurns, read_names}
use Rattle.tools_cli.proofs.gather.gather.Given as goal

abbrev pub invariant-loop-name : goal.invariant-loop-name
invariant-loop-name g l = record {
  fits : l.left ≤ l.most;
  stays : g.F.Files.contents l.files ≡ g.F.Files.contents l.initial.files;
  reads : NoneFell (g.F.Files.read_faults l.initial.files) (g.F.Files.read_faults l.files);
  writes : NoneFell (g.F.Files.write_faults l.initial.files) (g.F.Files.write_faults l.files);
  read : IfSome (g.F.Files.contents l.initial.files) (λ held. gathered (names_of l.names) held l.most ≡ add_all (input_entries l.inputs.items) (gathered (names_of (drop l.name-index l.names)) held l.left));
  total : total (input_entries l.inputs.items) + l.left ≡ l.most;
  bytes : Every (λ (e : NamedFile). IsBytes e.1) (input_entries l.inputs.items);
  names : names_of l.names ≡ read_names (input_entries l.inputs.items) ++ names_of (drop l.name-index l.names);
  turns : IfSome (g.F.Files.contents l.initial.files) (AreTurns l.names l.name-index l.most l.left);
}
