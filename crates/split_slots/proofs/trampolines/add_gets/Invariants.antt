use Rattle.base_lists.proofs.Common.{◌≡◌, ◌++◌, map}
use Rattle.base_lists.specs.Places.{numbers}
use Rattle.wasm_tree_spec.specs.Prelude.{LocalGet}
use Rattle.split_slots.proofs.trampolines.add_gets.Given as goal

abbrev pub invariant-loop-local : goal.invariant-loop-local
invariant-loop-local l = l.body ≡ l.initial.body ++ map LocalGet (numbers 0 l.local)
