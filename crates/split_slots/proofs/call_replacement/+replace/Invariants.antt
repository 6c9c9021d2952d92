use Rattle.base_lists.proofs.Common.{◌≡◌, ◌≤◌, ℕ, ◌<◌, false, length, slice_get, Some, part}
use Rattle.wasm_tree_spec.specs.Prelude.{Instr}
use Rattle.split_slots.specs.InstructionReplacements.{is_spread, settled}
use Rattle.split_slots.proofs.call_replacement.+replace.Given as goal

abbrev pub invariant-replace_calls-loop-at : goal.invariant-replace_calls-loop-at
invariant-replace_calls-loop-at l =
    (l.body ≡ part (settled l.calls) l.initial.body l.at)
    × (l.first ≤ length l.initial.body)
    × ((k : ℕ) (i : Instr) → k < l.first → k < l.at → slice_get l.initial.body k ≡ Some i → is_spread l.calls i ≡ false)
