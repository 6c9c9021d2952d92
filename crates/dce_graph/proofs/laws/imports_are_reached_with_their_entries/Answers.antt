use Rattle.dce_graph.proofs.ImportsReached.{funcs_together, globals_together, staying_reached}
use Rattle.dce_graph.proofs.laws.imports_are_reached_with_their_entries.Goals as goal

pub returns : goal.returns
returns c = record {
  funcs = funcs_together;
  globals = globals_together;
  staying = staying_reached;
}
