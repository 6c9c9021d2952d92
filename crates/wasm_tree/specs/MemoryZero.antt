-- Code that names no memory except memory 0, as in each valid module with at most one memory
-- (WebAssembly Core 2.0, section 3.4.10).
use Rattle.std.specs.Prelude.{Bool, ◌||◌, not, nat_eq, List}
use Rattle.std.specs.List.{list_all}
use Rattle.wasm_tree.specs.declared.space.Space.TheVariants.{Memories}
use Rattle.wasm_tree.specs.declared.space.Operand.{Operand}
use Rattle.wasm_tree.specs.declared.instr.Instr.{Instr}
use Rattle.wasm_tree.specs.declared.module.Func.{Func}
use Rattle.wasm_tree.specs.Operands.{same_space, operands_pass, all_operands_pass}

-- Whether the operand is memory 0 or belongs to another index space.
abbrev pub is_memory_zero : Operand → Bool
is_memory_zero o = not (same_space o.space Memories) || nat_eq o.index 0

-- Whether each memory index in the instruction, and in those inside it, is 0.
abbrev pub memory_zero : Instr → Bool
memory_zero = operands_pass is_memory_zero

abbrev pub memory_zero_all : List Instr → Bool
memory_zero_all = all_operands_pass is_memory_zero

-- Whether each memory index in the bodies is 0.
abbrev pub memory_zero_funcs : List Func → Bool
memory_zero_funcs = list_all (λ f. memory_zero_all f.body)
