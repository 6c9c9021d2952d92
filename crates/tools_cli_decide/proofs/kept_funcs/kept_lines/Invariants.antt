use Rattle.std.proofs.Common.{◌≡◌, ◌++◌, drop}
use Rattle.tools_cli_spec.specs.KeptFuncs.{kept_lines}
use Rattle.tools_cli_decide.proofs.kept_funcs.kept_lines.Given as goal

abbrev pub invariant-loop-func : goal.invariant-loop-func
invariant-loop-func l = l.lines.items ++ kept_lines l.module l.names (drop l.func-index l.kept) ≡ kept_lines l.module l.names l.kept
