use Rattle.base_lists.proofs.Common.{◌≡◌, ◌<◌, true, false, rules, length, Some}
use Rattle.tools_cli_spec.specs.Prelude.{are_apart}
use Rattle.tools_cli_decide.specs.Prelude.{names_of, source_values, source_names}
use Rattle.tools_cli_spec.specs.CommandLine.{sources_of}
use Rattle.tools_cli_decide.proofs.Lines.{sources_apart, sources_not_apart}
use Rattle.tools_cli_decide.proofs.command_line.some_apart.Goals as goal

pub returns-then-branch-clause-sources : goal.returns-then-branch-clause-sources
returns-then-branch-clause-sources c =
    let xs = c.in-Some.sources.items in
    let named : Some (source_values xs) ≡ sources_of (names_of c.args.plain.now) = search rules in
    let some : 0 < length xs = search rules in
    let apart : are_apart (source_names xs) ≡ true = search rules in
    sources_apart xs _ named some apart

pub returns-clause-sources : goal.returns-clause-sources
returns-clause-sources c =
    let xs = c.in-Some.sources.items in
    let named : Some (source_values xs) ≡ sources_of (names_of c.args.plain.now) = search rules in
    let some : 0 < length xs = search rules in
    let apart : are_apart (source_names xs) ≡ false = search rules in
    sources_not_apart xs _ named some apart
