-- How many bytes of a memory loads and stores access (WebAssembly Core 2.0, section 4.4.7).
use Rattle.std.specs.Prelude.{ℕ}
use Rattle.wasm_tree.specs.declared.instr.LoadOp.{LoadOp}
use Rattle.wasm_tree.specs.declared.instr.LoadOp.TheVariants.{I32Load, I64Load, I32Load8S, I32Load8U, I32Load16S, I32Load16U, I64Load8S, I64Load8U, I64Load16S, I64Load16U, I64Load32S, I64Load32U}
use Rattle.wasm_tree.specs.declared.instr.StoreOp.{StoreOp}
use Rattle.wasm_tree.specs.declared.instr.StoreOp.TheVariants.{I32Store, I64Store, I32Store8, I32Store16, I64Store8, I64Store16, I64Store32}

-- How many bytes a load reads.
abbrev pub read_width : LoadOp → ℕ
read_width I32Load = 4
read_width I64Load = 8
read_width I32Load8S = 1
read_width I32Load8U = 1
read_width I32Load16S = 2
read_width I32Load16U = 2
read_width I64Load8S = 1
read_width I64Load8U = 1
read_width I64Load16S = 2
read_width I64Load16U = 2
read_width I64Load32S = 4
read_width I64Load32U = 4

-- How many bytes a store writes.
abbrev pub store_width : StoreOp → ℕ
store_width I32Store = 4
store_width I64Store = 8
store_width I32Store8 = 1
store_width I32Store16 = 2
store_width I64Store8 = 1
store_width I64Store16 = 2
store_width I64Store32 = 4
