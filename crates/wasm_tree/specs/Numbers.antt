-- The value type of numbers of a width (WebAssembly Core 2.0, section 2.3.1).
use Rattle.wasm_num.specs.Operations.{Width, W32, W64}
use Rattle.wasm_tree.specs.declared.types.ValType.{ValType}
use Rattle.wasm_tree.specs.declared.types.ValType.TheVariants.{I32, I64}

abbrev pub value_type : Width → ValType
value_type W32 = I32
value_type W64 = I64
