use Rattle.tools_cli_eval.proofs.Looked.{Found}
use Rattle.tools_cli_eval.proofs.named.funcs_named.Given as goal

abbrev pub invariant-loop-name : goal.invariant-loop-name
invariant-loop-name l = Found l.module l.names l.name-index l.funcs
