use Rattle.std.proofs.Common.{◌≡◌, ℕ, drop}
use Rattle.tools_cli_spec.specs.KeptFuncs.{told_name}
use Rattle.tools_cli_decide.specs.Labels.{label_in}
use Rattle.tools_cli_decide.proofs.kept_funcs.told_names.Given as goal

abbrev pub invariant-loop-at : goal.invariant-loop-at
invariant-loop-at l = (func : ℕ) → label_in l.labels func ≡ told_name l.exports (drop l.at l.names) func
