-- A call through the greatest slot that the law allows is in range, and one through the next slot,
-- or a segment from that slot on, is not.
use Rattle.base_lists.proofs.Common.{◌≡◌, refl, [], Bool, true, false, arith, pos, ints}
use Rattle.wasm_tree_spec.specs.Prelude.{fold_out-Instr}
use Rattle.wasm_tree.specs.declared.instr.Instr.{out-Instr}
use Rattle.run_simulation.specs.Prelude.{slot_call}
use Rattle.wasm_write_proof.specs.Ranges.{all_numbers_in, number_step}
use Rattle.wasm_valid_proof.specs.Numbers.{ElemNumbersInRange}
use Rattle.split_spec.specs.Prelude.{slot_segment}

greatest_slot : all_numbers_in (slot_call 0 0 (pos 2147483647)) ≡ true
unfolding out-Instr denote.Hole.Carrier.out
greatest_slot = simp (fold_out-Instr Bool number_step) refl

a_greater_slot : all_numbers_in (slot_call 0 0 (pos 2147483648)) ≡ false
unfolding out-Instr denote.Hole.Carrier.out
a_greater_slot = simp (fold_out-Instr Bool number_step) refl

a_greater_segment : ElemNumbersInRange (slot_segment 0 2147483648 []) → ⊥
a_greater_segment h = let below = h.0.1 in omega (arith, ints)
