use Rattle.tools_cli_eval.proofs.Called.{stands_more, stopped_here}
use Rattle.base_lists.proofs.Common.{◌≡◌, Ok, get_or, subst}
use Rattle.wasm_bytes.specs.declared.name.NoMemory.{NoMemory}
use Rattle.eval_spec.specs.Prelude.{Finished, call_end}
use Rattle.eval_machine.specs.Prelude.{SameButForTurns, StopsCall, state_in}
use Rattle.eval_machine.specs.Calls.{IfDone, IfNotDone, IfStopped}
use Rattle.eval_machine.specs.declared.machine.Ran.{Ran}
use Rattle.tools_cli_eval.proofs.Called.{stopped_nowhere}
use Rattle.tools_cli_eval.proofs.running.call_all.Goals as goal

pub returns-in-Stopped-clause-ended : goal.returns-in-Stopped-clause-ended
returns-in-Stopped-clause-ended c =
    let m = c.args.input.now in
    let k = c.loop-count.machine in
    let j = c.run_ctor.new.self in
    let P : Ran → Type 0 = IfStopped (λ stop. StopsCall m (get_or c.args.funcs.now c.loop-count.count 0) k stop j) in
    let Q : Ran → Type 0 = λ r. IfNotDone {E = NoMemory} (SameButForTurns m k j) (Ok r) in
    stopped_here m c.args.funcs.now c.loop-count.count k c.loop-count.invariant c.loop-count-test.true c.in-Stopped.stop j (subst P c.in-Stopped.is c.in_ok-run_ctor.ensures.stopped) (subst Q c.in-Stopped.is c.in_ok-run_ctor.ensures.left)

pub loop-count-preserved : goal.loop-count-preserved
loop-count-preserved c =
    let m = c.args.input.now in
    let k = c.loop-count.machine in
    let j = c.run_ctor.new.self in
    let P : Ran → Type 0 = IfDone (call_end m (state_in m k) (get_or c.args.funcs.now c.loop-count.count 0) ≡ Finished (state_in m j)) in
    stands_more m c.args.funcs.now c.loop-count.count k c.loop-count.invariant c.loop-count-test.true c.lists_are_evaluated_in_order.ensures.added j (subst P c.in-Done.is c.in_ok-run_ctor.ensures.done) c.in_ok-run_ctor.ensures.rests

pub returns-clause-ended : goal.returns-clause-ended
returns-clause-ended c = stopped_nowhere c.args.input.now c.args.funcs.now c.loop-count.count c.loop-count.machine c.loop-count.invariant c.loop-count-test.false c.loop-count.auto.count-end
