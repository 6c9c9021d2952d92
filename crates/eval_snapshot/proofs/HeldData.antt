-- A block, a loop or an if names a data segment exactly if the code inside it does.
use Rattle.base_lists.proofs.Common.{◌≡◌, ◌∙◌, sym, Bool}
use Rattle.wasm_tree_spec.specs.Prelude.{BlockType, Instr, out-Instr, AnyInside, names_data, uses_data_in, uses_data, operands, block_operands, held}
use Rattle.wasm_tree.specs.declared.types.BlockType.TheVariants as block
use Rattle.wasm_tree.specs.declared.instr.Instr.TheOpen.{Instr-F}

-- An answer for the code inside the instruction is one for the instruction.
pub answer_inside : AnyInside → (i : Instr) (layer : Instr-F Instr) → out-Instr i ≡ layer → (ty : BlockType) → operands layer ≡ block_operands ty → (answer : Bool) → answer ≡ uses_data (held layer) → answer ≡ uses_data_in i
answer_inside any i layer is block.Empty own answer h = h ∙ sym (any names_data i ∙ rw (is, own))
answer_inside any i layer is (block.Value t) own answer h = h ∙ sym (any names_data i ∙ rw (is, own))
answer_inside any i layer is (block.Index x) own answer h = h ∙ sym (any names_data i ∙ rw (is, own))
