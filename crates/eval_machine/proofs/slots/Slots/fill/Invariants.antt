use Rattle.eval_spec.specs.State.{State}
use Rattle.eval_machine.specs.InstantiationParts.{StartsAs}
use Rattle.eval_machine.proofs.ElementsInOrder.{Stands}
use Rattle.eval_machine.proofs.slots.Slots.fill.Given as goal

abbrev pub invariant-loop-i : goal.invariant-loop-i
invariant-loop-i l = (first : State) → StartsAs l.input first → Stands l.input first l.i l.self
