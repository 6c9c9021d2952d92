use Rattle.wasm_valid_proof.proofs.ItemRanges.{tree_in}
use Rattle.wasm_valid_proof.proofs.valid_modules_are_in_range.Goals as goal

pub returns : goal.returns
returns c = λ m valid single bounded numbers.
    tree_in c.operands_pass_layer_by_layer.ensures.layers c.encoded_operands_are_in_range.ensures.range m ((c.valid_where_items_hold.ensures m).0 valid) single bounded numbers
