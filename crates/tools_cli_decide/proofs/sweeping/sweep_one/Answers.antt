use Rattle.base_lists.proofs.Common.{◌≡◌, Err, arith}
use Rattle.tools_cli_spec.specs.Prelude.{Text, SweepsByGraph, Refuses}
use Rattle.tools_cli_decide.specs.Command.{metadce_value}
use Rattle.tools_cli_decide.specs.Causes.{GraphFails}
use Rattle.tools_cli_decide.proofs.Stops.{stops_weaker}
use Rattle.tools_cli_decide.proofs.MetadceDecided.{graph_refused}
use Rattle.tools_cli_decide.proofs.sweeping.sweep_one.Goals as goal

pub returns-in_err-graph-clause-stops : goal.returns-in_err-graph-clause-stops
returns-in_err-graph-clause-stops c =
    let metadce = metadce_value c.args.metadce.now in
    let text = c.args.text.now in
    let Q : Text → Type 0 = λ says. SweepsByGraph metadce c.args.module text (Refuses says) in
    let stop = c.in_err-graph.field-0.0 in
    let gone : c.from_residual.result ≡ Err stop = grind arith in
    rw gone (stops_weaker (GraphFails metadce.graph_file text) Q (λ says h. graph_refused metadce c.args.module text says h) stop c.in_err-graph.ensures.stops)
