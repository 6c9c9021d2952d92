use Rattle.std.proofs.Common.{◌≡◌, ℕ, drop}
use Rattle.tools_cli_spec.specs.KeptFuncs.{exported_name}
use Rattle.tools_cli_decide.specs.Labels.{label_in}
use Rattle.tools_cli_decide.proofs.kept_funcs.exported_names.Given as goal

abbrev pub invariant-loop-at : goal.invariant-loop-at
invariant-loop-at l = (func : ℕ) → label_in l.labels func ≡ exported_name (drop l.at l.exports) func
