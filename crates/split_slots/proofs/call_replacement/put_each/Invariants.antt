use Rattle.base_lists.proofs.Common.{◌≡◌, ◌++◌, take, flat_map, part}
use Rattle.wasm_tree_spec.specs.Prelude.{Nop}
use Rattle.split_slots.specs.InstructionReplacements.{code_here, code_of_call}
use Rattle.split_slots.proofs.call_replacement.put_each.Given as goal

abbrev pub invariant-loop-at : goal.invariant-loop-at
invariant-loop-at l = (l.from ≡ part (λ i. Nop) l.initial.from l.at) × (l.body ≡ l.initial.body ++ flat_map (code_here (code_of_call l.calls)) (take l.at l.initial.from))
