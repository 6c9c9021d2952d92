use Rattle.base_lists.proofs.Common.{◌≡◌, ◌||◌, ℕ, List, ◌+◌, ◌*◌, ◌≤◌, ◌++◌, length}
use Rattle.wasm_tree_spec.specs.Prelude.{Instr, uses_data}
use Rattle.wasm_read_spec.specs.Prelude.{sequence_at, behind}
use Rattle.wasm_read_items.proofs.body.+read.Given as goal

abbrev pub decreases-read_block : goal.decreases-read_block
decreases-read_block l = 2 * l.deeper

abbrev pub decreases-read_sequence : goal.decreases-read_sequence
decreases-read_sequence l = 2 * l.deeper + 1

-- The result of the whole sequence is that of the rest with the items so far in front, if there is
-- enough fuel. The items lie on the pile above the instructions from before.
abbrev pub invariant-read_sequence-tokens : goal.invariant-read_sequence-tokens
invariant-read_sequence-tokens l =
    (items : List Instr)
    × (l.pile.instrs ≡ l.initial.pile.instrs ++ items)
    × (l.start ≡ length l.initial.pile.instrs)
    × ((n : ℕ) → length l.initial.cursor ≤ n → (m : ℕ) × (length l.cursor ≤ m) × (sequence_at l.many n l.deeper l.initial.cursor ≡ behind items (sequence_at l.many m l.deeper l.cursor)))
    × (length l.cursor ≤ length l.initial.cursor)
    × (l.pile.uses_data ≡ (l.initial.pile.uses_data || uses_data items))

abbrev pub decreases-read_sequence-tokens : goal.decreases-read_sequence-tokens
decreases-read_sequence-tokens l = length l.cursor
