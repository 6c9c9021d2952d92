use Rattle.tools_cli.proofs.Loading.{stops_weaker}
use Rattle.base_lists.proofs.Common.{◌≡◌, ◌∙◌, ap, Err, arith}
use Rattle.tools_cli_eval.specs.declared.evaluation.Evaluation.{Evaluation}
use Rattle.tools_cli_spec.specs.Prelude.{Text, Evaluates, Refuses}
use Rattle.tools_cli_decide.specs.Prelude.{decision_value}
use Rattle.tools_cli_decide.specs.Command.{ctor_eval_value}
use Rattle.tools_cli_decide.specs.Causes.{EvalFails}
use Rattle.tools_cli_spec.specs.EvaluationLines.{lines_after}
use Rattle.tools_cli.proofs.CtorEvalDecided.{eval_refused, evaluated_made}
use Rattle.tools_cli.proofs.evaluating.evaluate_one.Goals as goal

pub returns-in_err-module-clause-stops : goal.returns-in_err-module-clause-stops
returns-in_err-module-clause-stops c =
    let eval = ctor_eval_value c.args.eval.now in
    let Q : Text → Type 0 = λ says. Evaluates eval c.args.module (Refuses says) in
    let stop = c.in_err-module.field-0.0 in
    let gone : c.from_residual.result ≡ Err stop = grind arith in
    rw gone (stops_weaker (EvalFails eval c.args.module) Q (λ says h. eval_refused eval c.args.module says h) stop c.in_err-module.ensures.stops)

pub returns-clause-decided : goal.returns-clause-decided
returns-clause-decided c =
    let eval = ctor_eval_value c.args.eval.now in
    let e : Evaluation = c.in_ok-module.field-0 in
    evaluated_made eval c.args.module e c.in_ok-lines.lines.items (decision_value c.in_ok-one_output.field-0) c.in_ok-module.ensures.evaluated
    (c.in_ok-lines.ensures ∙ ap (λ ns. lines_after ns e.count e.ending) c.as_slice.ensures) c.in_ok-one_output.ensures
