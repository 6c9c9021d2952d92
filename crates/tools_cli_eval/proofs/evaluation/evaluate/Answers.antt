use Rattle.std.proofs.Common.{sym, subst}
use Rattle.tools_cli_eval.specs.Named.{AreFuncsOf}
use Rattle.tools_cli_eval.proofs.evaluation.evaluate.Goals as goal

pub evaluate_funcs-requires-clause-there : goal.evaluate_funcs-requires-clause-there
evaluate_funcs-requires-clause-there c =
    let here : AreFuncsOf c.args.input c.in_ok-funcs.funcs = subst (λ m. AreFuncsOf m c.in_ok-funcs.funcs) c.module.ensures.value c.in_ok-funcs.ensures.there in
    subst (AreFuncsOf c.args.input) (sym c.as_slice.ensures) here
