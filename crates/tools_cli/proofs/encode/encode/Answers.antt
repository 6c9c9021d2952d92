use Rattle.base_lists.proofs.Common.{◌≡◌, ◌∙◌, ap, sym, true, false, rules, cond, map, List, list_all}
use Rattle.tools_cli_spec.specs.Prelude.{NamedFile, Done, Refused, is_within, spelled_output}
use Rattle.tools_cli_decide.specs.Prelude.{output_values}
use Rattle.tools_cli_spec.specs.Texts.{too_many}
use Rattle.wasm_tree.specs.declared.which.Which.TheVariants.{OutputBytes}
use Rattle.tools_cli.proofs.encode.encode.Goals as goal

pub returns-then-not-are_within-clause-stops : goal.returns-then-not-are_within-clause-stops
returns-then-not-are_within-clause-stops c =
    let large : list_all is_within (output_values c.args.decision.outputs.items) ≡ false = search rules in
    ap (λ b. cond b (Done (map spelled_output (output_values c.args.decision.outputs.items)) c.args.decision.lines.items) (Refused (too_many OutputBytes))) large

pub returns-clause-plan : goal.returns-clause-plan
returns-clause-plan c =
    let fits : list_all is_within (output_values c.args.decision.outputs.items) ≡ true = search rules in
    ap (λ b. cond b (Done (map spelled_output (output_values c.args.decision.outputs.items)) c.args.decision.lines.items) (Refused (too_many OutputBytes))) fits
    ∙ ap (λ (l : List NamedFile). Done l c.args.decision.lines.items) (sym c.in_ok-writes.ensures)
