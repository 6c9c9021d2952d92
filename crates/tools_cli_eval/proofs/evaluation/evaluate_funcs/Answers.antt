use Rattle.std.proofs.Common.{◌≡◌, ◌⊎◌, inr, Some, Result, Ok, Err, IfErr}
use Rattle.tools_cli_spec.specs.declared.evaluation.EvalFault.{EvalFault}
use Rattle.tools_cli_spec.specs.declared.evaluation.EvalFault.TheVariants.{NoMemory}
use Rattle.tools_cli_spec.specs.Endings.{fault_of}
use Rattle.tools_cli_eval.proofs.evaluation.evaluate_funcs.Goals as goal

or_memory : {A : Type 0} (r : Result A EvalFault) (P : EvalFault → Type 0) → IfErr r P → IfErr r (λ f. (f ≡ NoMemory) ⊎ P f)
or_memory (Ok x) P h = tt
or_memory (Err f) P h = inr h

pub returns-in-Stopped-clause-fault : goal.returns-in-Stopped-clause-fault
returns-in-Stopped-clause-fault c =
    let names = c.args.ctors.now in
    let kept = c.args.kept.now in
    or_memory c.unevaluated.result (λ f. fault_of c.args.input names kept ≡ Some f) (c.unevaluated.ensures.fault names kept c.requires.named)
