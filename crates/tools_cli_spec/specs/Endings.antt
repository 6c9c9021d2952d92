-- How the evaluation of listed constructors ends, or why it gives no module.
use Rattle.std.specs.Prelude.{List, [], Option, Some, None, option_map}
use Rattle.std.specs.Option.{option_or}
use Rattle.wasm_tree_spec.specs.Prelude.{Module}
use Rattle.module_limits.specs.Counts.{over_limit}
use Rattle.wasm_meaning.specs.Prelude.{Text}
use Rattle.eval_spec.specs.declared.stop.Stop.{Stop}
use Rattle.eval_spec.specs.Prelude.{stopped_by}
use Rattle.eval_snapshot_spec.specs.Evaluated.{evaluated_tree, first_missing, funcs_named}
use Rattle.tools_cli_spec.specs.declared.evaluation.Ending.{Ending}
use Rattle.tools_cli_spec.specs.declared.evaluation.Ending.TheVariants.{Complete, Instantiation, Constructor}
use Rattle.tools_cli_spec.specs.declared.evaluation.EvalFault.{EvalFault}
use Rattle.tools_cli_spec.specs.declared.evaluation.EvalFault.TheVariants.{NoSuchExport, TooMany}

-- The ending, from what stopped the instantiation with the start, or else the calls.
abbrev pub ended : (instantiation calls : Option Stop) → Ending
ended (Some stop) calls = Instantiation stop
ended None (Some stop) = Constructor stop
ended None None = Complete

-- The ending of the evaluation of the constructors with these names.
abbrev pub ending_of : Module → List Text → Ending
ending_of m names = ended (stopped_by m []) (stopped_by m (funcs_named m names))

-- The first listed name under which no function is exported; or else the first count of the module
-- after the evaluation that is above its limit.
abbrev pub fault_of : Module → (names kept : List Text) → Option EvalFault
fault_of m names kept = option_or (option_map NoSuchExport (first_missing m names)) (option_map TooMany (over_limit (evaluated_tree m names kept)))
