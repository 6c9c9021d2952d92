use Rattle.tools_cli_eval.proofs.Assembled.{few_called, machine_is_after, some_evaluation, some_fault}
use Rattle.std.proofs.Common.{◌≡◌, ◌⊎◌, arith, subst, refl, inl, inr, Some, Err}
use Rattle.tools_cli_spec.specs.declared.evaluation.EvalFault.TheVariants.{NoMemory}
use Rattle.tools_cli_eval.specs.Calls.{HaveEnded}
use Rattle.tools_cli_spec.specs.Endings.{fault_of}
use Rattle.tools_cli_eval.proofs.Assembled.{ready_unstopped}
use Rattle.tools_cli_eval.proofs.evaluation.evaluate_on.Goals as goal

pub module_after-requires-clause-few : goal.module_after-requires-clause-few
module_after-requires-clause-few c =
    let over = subst (λ fs. HaveEnded c.args.input fs c.in_ok-calls.calls c.call_all.new.machine) c.requires.funcs c.in_ok-calls.ensures.ended in
    few_called c.args.input c.args.ctors.now c.requires.named c.in_ok-calls.calls c.call_all.new.machine over

pub module_after-requires-clause-after : goal.module_after-requires-clause-after
module_after-requires-clause-after c =
    let over = subst (λ fs. HaveEnded c.args.input fs c.in_ok-calls.calls c.call_all.new.machine) c.requires.funcs c.in_ok-calls.ensures.ended in
    machine_is_after c.args.input c.args.ctors.now c.requires.named c.in_ok-calls.calls c.call_all.new.machine over

pub returns-in_err-module-clause-fault : goal.returns-in_err-module-clause-fault
returns-in_err-module-clause-fault c =
    let over = subst (λ fs. HaveEnded c.args.input fs c.in_ok-calls.calls c.call_all.new.machine) c.requires.funcs c.in_ok-calls.ensures.ended in
    let f = c.in_err-module.field-0.0 in
    let gone : c.from_residual-in_err-module.result ≡ Err f = grind arith in
    let told : (f ≡ NoMemory) ⊎ (fault_of c.args.input c.args.ctors.now c.args.kept.now ≡ Some f) = elim c.in_err-module.ensures.fault [
      | inl e ↦ inl e
      | inr e ↦ inr (some_fault c.args.input c.args.ctors.now c.requires.named c.in_ok-calls.calls c.call_all.new.machine over c.args.kept.now f e)
    ] in
    rw gone told

pub returns-clause-evaluated : goal.returns-clause-evaluated
returns-clause-evaluated c =
    let over = subst (λ fs. HaveEnded c.args.input fs c.in_ok-calls.calls c.call_all.new.machine) c.requires.funcs c.in_ok-calls.ensures.ended in
    some_evaluation c.args.input c.args.ctors.now c.requires.named c.in_ok-calls.calls c.call_all.new.machine over c.args.kept.now _ (ready_unstopped c.args.input c.args.machine.now c.requires.ready)
    c.in_ok-module.ensures.none c.in_ok-module.ensures.tree refl c.ending_of_calls.ensures
