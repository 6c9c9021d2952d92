use Rattle.tools_cli_decide.proofs.MetadceDecided.{graph_fails}
use Rattle.tools_cli_decide.proofs.sweeping.graph_in.Goals as goal

pub returns-in_ok-refuse_graph-in-Err-clause-stops : goal.returns-in_ok-refuse_graph-in-Err-clause-stops
returns-in_ok-refuse_graph-in-Err-clause-stops c = graph_fails c.args.file.now c.args.text.now _ c.in-Err.fault c.in-Err.ensures.fault c.in_ok-refuse_graph-in-Err.ensures
