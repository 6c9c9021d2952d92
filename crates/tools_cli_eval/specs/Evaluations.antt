-- The result of evaluating listed constructors: a module, how many constructors were evaluated and
-- what ended the evaluation; or why there is no module.
use Rattle.std.specs.Prelude.{◌≡◌, ◌≤◌, List, length, None}
use Rattle.wasm_tree_spec.specs.Prelude.{Module}
use Rattle.wasm_meaning.specs.Prelude.{Text}
use Rattle.eval_snapshot_spec.specs.Evaluated.{evaluated_count, evaluated_tree}
use Rattle.tools_cli_eval.specs.declared.evaluation.Evaluation.{Evaluation}
use Rattle.tools_cli_spec.specs.Endings.{ending_of, fault_of}

-- `e` is the evaluation of the listed constructors of `m`, of which those in `kept` keep their
-- exports.
pub record IsEvaluation (m : Module) (names kept : List Text) (e : Evaluation) : Type 0 where
  pub none : fault_of m names kept ≡ None
  pub tree : e.«module» ≡ evaluated_tree m names kept
  pub few : e.count ≤ length names
  pub count : e.count ≡ evaluated_count m names
  pub ending : e.ending ≡ ending_of m names
