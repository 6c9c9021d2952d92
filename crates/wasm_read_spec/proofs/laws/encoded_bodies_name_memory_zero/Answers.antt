use Rattle.wasm_read_spec.proofs.BoundLaws.{tree_zero}
use Rattle.wasm_read_spec.proofs.laws.encoded_bodies_name_memory_zero.Goals as goal

pub returns : goal.returns
returns c =
    let laws = c.operands_pass_layer_by_layer.ensures in λ bytes m h. tree_zero laws.blocks laws.loops laws.ifs bytes m h
