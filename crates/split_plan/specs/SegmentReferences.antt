-- Code that names segments, by `memory.init`, `data.drop`, `table.init` or `elem.drop` (WebAssembly
-- Core 2.0, sections 2.4.6 and 2.4.7).
use Rattle.std.specs.Prelude.{Bool, List, ◌||◌}
use Rattle.wasm_tree_spec.specs.Prelude.{DataSegments, ElementSegments, Operand, Instr, same_space, operand_passes, any_operand_passes}

-- whether the operand is the index of a segment
abbrev pub names_segment : Operand → Bool
names_segment o = same_space o.space DataSegments || same_space o.space ElementSegments

-- whether the instruction names a segment, or one inside it does
abbrev pub uses_segment_in : Instr → Bool
uses_segment_in = operand_passes names_segment

-- the same for any of the instructions
abbrev pub uses_segment : List Instr → Bool
uses_segment = any_operand_passes names_segment
