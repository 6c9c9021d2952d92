-- Code that names data segments, by `memory.init` or by `data.drop` (WebAssembly Core 2.0, section
-- 2.4.7).
use Rattle.std.specs.Prelude.{Bool, List}
use Rattle.std.specs.List.{list_any}
use Rattle.wasm_tree.specs.declared.space.Space.TheVariants.{DataSegments}
use Rattle.wasm_tree.specs.declared.space.Operand.{Operand}
use Rattle.wasm_tree.specs.declared.instr.Instr.{Instr}
use Rattle.wasm_tree.specs.declared.module.Func.{Func}
use Rattle.wasm_tree.specs.Operands.{same_space, operand_passes, any_operand_passes}

abbrev pub names_data : Operand → Bool
names_data o = same_space o.space DataSegments

-- Whether the instruction, or one inside it, names a data segment.
abbrev pub uses_data_in : Instr → Bool
uses_data_in = operand_passes names_data

abbrev pub uses_data : List Instr → Bool
uses_data = any_operand_passes names_data

-- Whether one of the bodies names a data segment.
abbrev pub any_uses_data : List Func → Bool
any_uses_data = list_any (λ f. uses_data f.body)
