use Rattle.wasm_write_proof.proofs.TreeRanges.{spelled_in_range}
use Rattle.wasm_write_proof.proofs.encoded_trees_are_in_range.Goals as goal

pub returns : goal.returns
returns c =
    let numbers = c.encoded_numbers_are_in_range.ensures in
    spelled_in_range (record { unsigned = numbers.unsigned; signed = numbers.signed; inside = c.operands_pass_layer_by_layer.ensures.inside })
