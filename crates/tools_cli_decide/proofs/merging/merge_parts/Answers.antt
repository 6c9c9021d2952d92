use Rattle.base_lists.proofs.Common.{◌∙◌, ap, sym, arith, false, length, length-map}
use Rattle.wasm_tree_spec.specs.Prelude.{Globals}
use Rattle.wasm_meaning.specs.Prelude.{defined_before}
use Rattle.merge_spec.specs.Prelude.{named_module, named_modules}
use Rattle.tools_cli_decide.specs.Prelude.{merge_value}
use Rattle.tools_cli_spec.specs.Prelude.{link_text}
use Rattle.tools_cli_decide.specs.Sources.{files_of}
use Rattle.tools_cli_decide.proofs.MergeDecided.{names_one, link_fails, join_fails}
use Rattle.tools_cli_decide.proofs.merging.merge_parts.Goals as goal

pub resolve-requires-clause-parts : goal.resolve-requires-clause-parts
resolve-requires-clause-parts c = omega (arith, length-map c.args.parts named_module, c.requires.few.parts_few)

pub resolve-requires-clause-globals : goal.resolve-requires-clause-globals
resolve-requires-clause-globals c = omega (arith, ap (defined_before Globals (named_modules c.args.parts)) (length-map c.args.parts named_module), c.requires.few.entries Globals)

pub join-requires-clause-linked : goal.join-requires-clause-linked
join-requires-clause-linked c = c.link_faults_name_parts.ensures.several (named_modules c.args.parts) false c.in-Ok.ensures.linked

pub refuse_link-requires : goal.refuse_link-requires
refuse_link-requires c =
    names_one c.link_faults_name_parts.ensures.names (named_modules c.args.parts) false c.in-Err.fault _ (length-map c.args.parts named_module ∙ c.requires.each ∙ sym (ap length c.as_slice.ensures.value)) c.in-Err.ensures.fault

pub returns-in-Err-clause-stops : goal.returns-in-Err-clause-stops
returns-in-Err-clause-stops c =
    let m = merge_value c.args.merge.now in
    let fault = c.in-Err.fault in
    link_fails m (named_modules c.args.parts) fault _ c.in-Err.ensures.fault (ap (λ l. link_text (files_of l) fault) (sym c.as_slice.ensures.value) ∙ c.in_ok-refusal-in-Err.ensures)

pub returns-clause-stops : goal.returns-clause-stops
returns-clause-stops c =
    let m = merge_value c.args.merge.now in
    join_fails m (named_modules c.args.parts) c.in-Err-join.fault _ c.in-Ok.ensures.linked c.in-Err-join.ensures.fault c.in_ok-refuse_join-in-Err-join.ensures
