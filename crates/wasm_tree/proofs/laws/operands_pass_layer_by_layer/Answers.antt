use Rattle.wasm_tree.proofs.OperandLaws.{passes_inside, any_inside, block_passes, loop_passes, if_passes, layer_by_layer}
use Rattle.wasm_tree.proofs.laws.operands_pass_layer_by_layer.Goals as goal

pub returns : goal.returns
returns c = record {
  inside = passes_inside;
  blocks = block_passes;
  loops = loop_passes;
  ifs = if_passes;
  layers = layer_by_layer;
  any = any_inside;
}
