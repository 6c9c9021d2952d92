use Rattle.wasm_tree.proofs.OperandLaws.{layer_moved, instr_moved, held_mapped, mapped_code_passes}
use Rattle.wasm_tree.proofs.laws.operands_are_mapped.Goals as goal

pub returns : goal.returns
returns c = record {
  layers = layer_moved;
  instructions = instr_moved;
  held = held_mapped;
  code = mapped_code_passes;
}
