use Rattle.wasm_valid.proofs.OneMemory.{valid_zero}
use Rattle.wasm_valid.proofs.laws.valid_code_names_memory_zero.Goals as goal

pub returns : goal.returns
returns c = valid_zero c.operands_pass_layer_by_layer.ensures.layers
