use Rattle.base_lists.proofs.Common.{◌≡◌, ◌∙◌, sym, ap, subst, Err, arith}
use Rattle.base_lists.specs.Every.{Every}
use Rattle.wasm_tree_spec.specs.Prelude.{Module}
use Rattle.tools_cli_spec.specs.Prelude.{Text, Merges, Samples, Refuses}
use Rattle.tools_cli_decide.specs.Prelude.{merge_value, output_values, IsWithinLimits}
use Rattle.tools_cli_decide.specs.Command.{sample_value}
use Rattle.tools_cli_spec.specs.SampleLines.{sample_lines}
use Rattle.tools_cli_decide.proofs.Stops.{stops_weaker}
use Rattle.tools_cli_decide.proofs.SampleDecided.{sample_made, sample_merged, sample_refused}
use Rattle.tools_cli_decide.proofs.SampleLimits.{sample_within}
use Rattle.tools_cli_decide.proofs.sampling.decide_sample.Goals as goal

pub merge_modules-requires-clause-within : goal.merge_modules-requires-clause-within
merge_modules-requires-clause-within c = subst (Every IsWithinLimits) (sym c.in_ok-modules.ensures) (sample_within (sample_value c.args.task.now) c.args.task.now.most)

pub returns-in_err-tree-clause-stops : goal.returns-in_err-tree-clause-stops
returns-in_err-tree-clause-stops c =
    let sample = sample_value c.args.task.now in
    let merge = merge_value c.in_ok-merge.merge in
    let trees = c.in_ok-modules.modules.items in
    let P : Text → Type 0 = λ text. Merges merge trees (Refuses text) in
    let Q : Text → Type 0 = λ text. Samples sample (Refuses text) in
    let stop = c.in_err-tree.field-0.0 in
    let gone : c.from_residual-in_err-tree.result ≡ Err stop = grind arith in
    rw gone (stops_weaker P Q (sample_refused sample merge trees c.in_ok-merge.ensures c.in_ok-modules.ensures) stop c.in_err-tree.ensures.stops)

pub returns-clause-decided : goal.returns-clause-decided
returns-clause-decided c =
    let sample = sample_value c.args.task.now in
    let tree = c.in_ok-tree.tree in
    let told = c.in_ok-lines.ensures ∙ ap (λ (m : Module). sample_lines sample m) c.module.ensures.value in
    sample_made sample tree (output_values c.in_ok-outputs.outputs.items) c.in_ok-lines.lines.items
    (sample_merged sample (merge_value c.in_ok-merge.merge) c.in_ok-modules.modules.items tree c.in_ok-merge.ensures c.in_ok-modules.ensures c.in_ok-tree.ensures.merged) c.in_ok-outputs.ensures told
