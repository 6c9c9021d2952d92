use Rattle.base_lists.proofs.Common.{◌≡◌, ◌∙◌, ap, ap₂, sym, Err, Ok, List, ℕ, length, arith}
use Rattle.dce_graph.specs.Prelude.{graph_result}
use Rattle.dce_graph.specs.declared.point.Point.TheVariants.{Node}
use Rattle.dce_spec.specs.Reached.{marks_of}
use Rattle.tools_cli_spec.specs.Prelude.{Text, SweepsByGraph, Refuses, unused_lines, unmarked_names}
use Rattle.tools_cli_decide.specs.Prelude.{decision_value}
use Rattle.tools_cli_decide.specs.Command.{metadce_value}
use Rattle.tools_cli_decide.specs.Causes.{SweepFails}
use Rattle.tools_cli_decide.proofs.Stops.{stops_weaker}
use Rattle.tools_cli_decide.proofs.MetadceDecided.{sweep_refused, reduced_made}
use Rattle.tools_cli_decide.proofs.sweeping.sweep_by_graph.Goals as goal

pub unused_lines-requires : goal.unused_lines-requires
unused_lines-requires c = ap length c.as_slice-2.ensures ∙ c.in_ok-marks.ensures.exact.one_each (Node 0) ∙ sym (ap length c.as_slice.ensures)

pub returns-in_err-left-clause-stops : goal.returns-in_err-left-clause-stops
returns-in_err-left-clause-stops c =
    let metadce = metadce_value c.args.metadce.now in
    let marks = c.in_ok-marks.marks in
    let graph = c.args.graph.now in
    let Q : Text → Type 0 = λ says. (text : List ℕ) → graph_result text ≡ Ok graph → SweepsByGraph metadce c.args.module text (Refuses says) in
    let stop = c.in_err-left.field-0.0 in
    let gone : c.from_residual-in_err-left.result ≡ Err stop = grind arith in
    rw gone (stops_weaker (SweepFails (marks_of marks) c.args.module) Q (λ says h text is. sweep_refused metadce c.args.module text graph marks is c.in_ok-marks.ensures.exact says h) stop c.in_err-left.ensures.stops)

pub returns-clause-decided : goal.returns-clause-decided
returns-clause-decided c text is =
    let told = c.in_ok-lines.ensures ∙ ap₂ (λ ns bs. unused_lines (unmarked_names ns bs)) c.as_slice.ensures c.as_slice-2.ensures in
    reduced_made (metadce_value c.args.metadce.now) c.args.module c.in_ok-left.left text _ c.args.graph.now c.in_ok-marks.marks (decision_value c.in_ok-one_output.field-0)
    is c.in_ok-marks.ensures.exact c.in_ok-left.ensures.swept told c.in_ok-one_output.ensures
