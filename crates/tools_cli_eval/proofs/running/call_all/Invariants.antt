use Rattle.tools_cli_eval.proofs.Called.{Stands}
use Rattle.tools_cli_eval.proofs.running.call_all.Given as goal

abbrev pub invariant-loop-count : goal.invariant-loop-count
invariant-loop-count l = Stands l.input l.funcs l.count l.machine
