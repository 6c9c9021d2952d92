use Rattle.base_lists.proofs.Common.{None, subst}
use Rattle.eval_machine.specs.Prelude.{IsInitialMachine, CallEnds, IsReady}
use Rattle.eval_machine.proofs.HostCalls.{ready_after, ready_at_once, start_typed}
use Rattle.eval_machine.proofs.machine.Machine.boot.Goals as goal

pub call-requires-clause-there : goal.call-requires-clause-there
call-requires-clause-there c = start_typed c.module-input.result.now ((c.valid_where_items_hold.ensures c.module-input.result.now).0 c.module-input.ensures.valid) c.in-Some.start c.in-Some.is

pub returns-in-None-clause-ready : goal.returns-in-None-clause-ready
returns-in-None-clause-ready c =
    let is : IsInitialMachine c.args.input.now c.in-Ok.kept = rw c.in-Ok.is at c.in_ok-kept.ensures in
    let here : IsInitialMachine c.module-input.result.now c.in-Ok.kept = rw c.module-input.ensures.value is in
    let ends : CallEnds c.module-input.result.now c.in-Some.start c.in-Ok.kept None c.call.new.self.kept = rw c.in-None.is at c.in_ok-stop.ensures.ends in
    subst (λ m. IsReady m c.call.new.self.kept) c.module-input.ensures.value
    (ready_after c.evaluated_references_are_there.ensures.there c.evaluated_globals_are_typed.ensures.typed c.module-input.result.now c.module-input.ensures.valid c.in-Ok.kept c.call.new.self.kept c.in-Some.start here c.in-Some.is ends c.in_ok-stop.ensures.stays)

pub returns-in_default-clause-ready : goal.returns-in_default-clause-ready
returns-in_default-clause-ready c =
    let is : IsInitialMachine c.args.input.now c.in-Ok.kept = rw c.in-Ok.is at c.in_ok-kept.ensures in
    let here : IsInitialMachine c.module-input.result.now c.in-Ok.kept = rw c.module-input.ensures.value is in
    subst (λ m. IsReady m c.in-Ok.kept) c.module-input.ensures.value
    (ready_at_once c.evaluated_references_are_there.ensures.there c.evaluated_globals_are_typed.ensures.typed c.module-input.result.now c.module-input.ensures.valid c.in-Ok.kept here c.in_default.is)
