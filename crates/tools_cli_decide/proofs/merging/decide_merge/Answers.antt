use Rattle.base_lists.proofs.Common.{◌∙◌, refl, ap, [], ◌∷◌}
use Rattle.tools_cli_decide.specs.Prelude.{merge_value, decision_value}
use Rattle.tools_cli_spec.specs.Prelude.{Makes, parts_of}
use Rattle.tools_cli_decide.proofs.MergeDecided.{merge_made}
use Rattle.tools_cli_decide.proofs.merging.decide_merge.Goals as goal

pub returns-clause-decided : goal.returns-clause-decided
returns-clause-decided c =
    let m = merge_value c.args.merge.now in
    let trees = c.args.modules.items in
    merge_made m (parts_of m.sources trees) trees c.in_ok-tree.tree (decision_value c.in_ok-one_output.field-0) refl c.in_ok-tree.ensures.merged (c.in_ok-one_output.ensures ∙ ap (Makes (record { name = m.output; tree = c.in_ok-tree.tree; custom = [] } ∷ [])) c.new-lines.ensures.items)
