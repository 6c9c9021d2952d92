use Rattle.std.proofs.Common.{◌≡◌, take}
use Rattle.tools_cli_eval.proofs.named.first_names.Given as goal

abbrev pub invariant-loop-at : goal.invariant-loop-at
invariant-loop-at l = l.first ≡ take l.at l.names
