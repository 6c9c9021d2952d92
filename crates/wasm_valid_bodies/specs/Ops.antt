-- The types of the operations, loads and stores (WebAssembly Core 2.0, sections 3.3.1 and 3.3.7).
use Rattle.wasm_tree_spec.specs.Prelude.{ValType, I32, I64, LoadOp, I32Load, StoreOp, I32Store, I32Store8}
use Rattle.wasm_num.specs.declared.UnOp.{UnOp}
use Rattle.wasm_num.specs.declared.BinOp.{BinOp}
use Rattle.wasm_num.specs.Operations.{un_from, un_to, bin_from, bin_to}
use Rattle.wasm_tree.specs.Numbers.{value_type}
use Rattle.wasm_tree.specs.declared.instr.LoadOp.TheVariants.{I64Load, I32Load8S, I32Load8U, I32Load16S, I32Load16U, I64Load8S, I64Load8U, I64Load16S, I64Load16U, I64Load32S, I64Load32U}
use Rattle.wasm_tree.specs.declared.instr.StoreOp.TheVariants.{I64Store, I32Store16, I64Store8, I64Store16, I64Store32}

abbrev pub un_operand : UnOp → ValType
un_operand op = value_type (un_from op)

abbrev pub un_result : UnOp → ValType
un_result op = value_type (un_to op)

abbrev pub bin_operand : BinOp → ValType
bin_operand op = value_type (bin_from op)

abbrev pub bin_result : BinOp → ValType
bin_result op = value_type (bin_to op)

abbrev pub load_type : LoadOp → ValType
load_type I32Load = I32
load_type I64Load = I64
load_type I32Load8S = I32
load_type I32Load8U = I32
load_type I32Load16S = I32
load_type I32Load16U = I32
load_type I64Load8S = I64
load_type I64Load8U = I64
load_type I64Load16S = I64
load_type I64Load16U = I64
load_type I64Load32S = I64
load_type I64Load32U = I64

abbrev pub store_type : StoreOp → ValType
store_type I32Store = I32
store_type I64Store = I64
store_type I32Store8 = I32
store_type I32Store16 = I32
store_type I64Store8 = I64
store_type I64Store16 = I64
store_type I64Store32 = I64
