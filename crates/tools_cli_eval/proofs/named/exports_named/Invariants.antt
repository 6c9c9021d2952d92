use Rattle.std.proofs.Common.{drop}
use Rattle.tools_cli_eval.specs.Named.{HasExports}
use Rattle.tools_cli_eval.proofs.named.exports_named.Given as goal

abbrev pub invariant-loop-at : goal.invariant-loop-at
invariant-loop-at l = HasExports (drop l.at l.exports) l.table
