use Rattle.base_lists.proofs.Common.{◌≡◌, ◌<◌, ◌≤◌, ◌^◌, ◌∙◌, sym, ap, subst, List, length, arith, length-map}
use Rattle.wasm_meaning.specs.Prelude.{Part, sites}
use Rattle.merge_spec.specs.Prelude.{named_module, named_modules, FewInAll}
use Rattle.tools_cli_spec.specs.Prelude.{are_apart, parts_of}
use Rattle.tools_cli_decide.specs.Prelude.{merge_value, source_values}
use Rattle.tools_cli_spec.specs.Job.{most_parts}
use Rattle.tools_cli_decide.proofs.MergeDecided.{length_once, parts_counted, merged_named, stops_named}
use Rattle.tools_cli_decide.proofs.Lines.{names_once}
use Rattle.tools_cli_decide.proofs.Apart.{parts_apart}
use Rattle.tools_cli_decide.proofs.FewInAll.{parts_few, imports_few}
use Rattle.tools_cli_decide.proofs.merging.merge_modules.Goals as goal

pub name_parts-requires : goal.name_parts-requires
name_parts-requires c =
    let slice = ap length c.as_slice.ensures.value in
    let each = c.requires.each in
    omega arith

pub merge_parts-requires-clause-names : goal.merge_parts-requires-clause-names
merge_parts-requires-clause-names c =
    let xs = c.args.merge.now.sources.items in
    let trees = c.args.modules.items in
    let named : named_modules c.in_ok-parts.parts ≡ parts_of (source_values xs) trees = c.in_ok-parts.ensures ∙ ap (λ l. parts_of (source_values l) trees) c.as_slice.ensures.value in
    parts_apart c.in_ok-parts.parts (source_values xs) trees (c.requires.each ∙ sym (length_once xs)) named (ap are_apart (names_once xs) ∙ c.args.merge.now.apart)

pub merge_parts-requires-clause-each : goal.merge_parts-requires-clause-each
merge_parts-requires-clause-each c =
    let xs = c.args.merge.now.sources.items in
    let trees = c.args.modules.items in
    let named : named_modules c.in_ok-parts.parts ≡ parts_of (source_values xs) trees = c.in_ok-parts.ensures ∙ ap (λ l. parts_of (source_values l) trees) c.as_slice.ensures.value in
    sym (length-map c.in_ok-parts.parts named_module) ∙ ap length named ∙ parts_counted xs trees c.requires.each

pub merge_parts-requires-clause-imports : goal.merge_parts-requires-clause-imports
merge_parts-requires-clause-imports c =
    let xs = c.args.merge.now.sources.items in
    let trees = c.args.modules.items in
    let named : named_modules c.in_ok-parts.parts ≡ parts_of (source_values xs) trees = c.in_ok-parts.ensures ∙ ap (λ l. parts_of (source_values l) trees) c.as_slice.ensures.value in
    let same = length_once xs in
    let few = c.requires.few in
    let short : length (source_values xs) ≤ most_parts = omega arith in
    subst (λ (ps : List Part). length (sites ps) < 2 ^ 32) (sym named) (imports_few (source_values xs) trees short c.requires.within)

pub merge_parts-requires-clause-few : goal.merge_parts-requires-clause-few
merge_parts-requires-clause-few c =
    let xs = c.args.merge.now.sources.items in
    let trees = c.args.modules.items in
    let named : named_modules c.in_ok-parts.parts ≡ parts_of (source_values xs) trees = c.in_ok-parts.ensures ∙ ap (λ l. parts_of (source_values l) trees) c.as_slice.ensures.value in
    let same = length_once xs in
    let few = c.requires.few in
    let short : length (source_values xs) ≤ most_parts = omega arith in
    subst FewInAll (sym named) (parts_few (source_values xs) trees short c.requires.within)

pub returns-clause-merged : goal.returns-clause-merged
returns-clause-merged c =
    let xs = c.args.merge.now.sources.items in
    let trees = c.args.modules.items in
    let named : named_modules c.in_ok-parts.parts ≡ parts_of (source_values xs) trees = c.in_ok-parts.ensures ∙ ap (λ l. parts_of (source_values l) trees) c.as_slice.ensures.value in
    merged_named c.merge_parts.result c.args.merge.now.mode (named_modules c.in_ok-parts.parts) (parts_of (source_values xs) trees) named c.merge_parts.ensures.merged

pub returns-clause-stops : goal.returns-clause-stops
returns-clause-stops c =
    let m = merge_value c.args.merge.now in
    let xs = c.args.merge.now.sources.items in
    let trees = c.args.modules.items in
    let named : named_modules c.in_ok-parts.parts ≡ parts_of (source_values xs) trees = c.in_ok-parts.ensures ∙ ap (λ l. parts_of (source_values l) trees) c.as_slice.ensures.value in
    stops_named c.merge_parts.result m (named_modules c.in_ok-parts.parts) trees named c.merge_parts.ensures.stops
