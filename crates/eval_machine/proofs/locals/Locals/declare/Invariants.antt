use Rattle.base_lists.proofs.Common.{◌≡◌, ◌++◌, map}
use Rattle.wasm_meaning.specs.Prelude.{copies, zeros}
use Rattle.eval_machine.specs.Prelude.{val_of}
use Rattle.eval_machine.proofs.locals.Locals.declare.Given as goal

abbrev pub invariant-loop : goal.invariant-loop
invariant-loop l = map val_of l.self-inside.items ≡ map val_of l.initial.self-inside.items ++ zeros (copies l.counter l.ty)
