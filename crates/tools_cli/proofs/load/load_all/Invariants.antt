use Rattle.tools_cli.proofs.Loading.{LoadSoFar, FailLater}
use Rattle.tools_cli.proofs.load.load_all.Given as goal

abbrev pub invariant-loop-input : goal.invariant-loop-input
invariant-loop-input l = record {
  load : LoadSoFar l.inputs l.input-index l.modules.items;
  fail : FailLater l.inputs l.input-index;
}
