-- The opcodes of the operations, loads and stores (Core 2.0, 5.4.6 and 5.4.7).
use Rattle.std.specs.Prelude.{ℕ, ◌==◌, if◌then◌else◌, Option, Some, None}
use Rattle.wasm_num.specs.declared.UnOp.{UnOp}
use Rattle.wasm_num.specs.declared.UnOp.TheVariants as un
use Rattle.wasm_num.specs.declared.BinOp.{BinOp}
use Rattle.wasm_num.specs.declared.BinOp.TheVariants as bin
use Rattle.wasm_tree_spec.specs.Prelude.{LoadOp, StoreOp}
use Rattle.wasm_tree.specs.declared.instr.LoadOp.TheVariants as load
use Rattle.wasm_tree.specs.declared.instr.StoreOp.TheVariants as store

unfoldable pub un_of : ℕ → Option UnOp
un_of b =
    (if b == 0x45 then Some un.I32Eqz else
    (if b == 0x50 then Some un.I64Eqz else
    (if b == 0x67 then Some un.I32Clz else
    (if b == 0x68 then Some un.I32Ctz else
    (if b == 0x69 then Some un.I32Popcnt else
    (if b == 0x79 then Some un.I64Clz else
    (if b == 0x7A then Some un.I64Ctz else
    (if b == 0x7B then Some un.I64Popcnt else
    (if b == 0xC0 then Some un.I32Extend8S else
    (if b == 0xC1 then Some un.I32Extend16S else
    (if b == 0xC2 then Some un.I64Extend8S else
    (if b == 0xC3 then Some un.I64Extend16S else
    (if b == 0xC4 then Some un.I64Extend32S else
    (if b == 0xA7 then Some un.I32WrapI64 else
    (if b == 0xAC then Some un.I64ExtendI32S else
    (if b == 0xAD then Some un.I64ExtendI32U else
    None))))))))))))))))

unfoldable pub bin_of : ℕ → Option BinOp
bin_of b =
    (if b == 0x46 then Some bin.I32Eq else
    (if b == 0x47 then Some bin.I32Ne else
    (if b == 0x48 then Some bin.I32LtS else
    (if b == 0x49 then Some bin.I32LtU else
    (if b == 0x4A then Some bin.I32GtS else
    (if b == 0x4B then Some bin.I32GtU else
    (if b == 0x4C then Some bin.I32LeS else
    (if b == 0x4D then Some bin.I32LeU else
    (if b == 0x4E then Some bin.I32GeS else
    (if b == 0x4F then Some bin.I32GeU else
    (if b == 0x6A then Some bin.I32Add else
    (if b == 0x6B then Some bin.I32Sub else
    (if b == 0x6C then Some bin.I32Mul else
    (if b == 0x6D then Some bin.I32DivS else
    (if b == 0x6E then Some bin.I32DivU else
    (if b == 0x6F then Some bin.I32RemS else
    (if b == 0x70 then Some bin.I32RemU else
    (if b == 0x71 then Some bin.I32And else
    (if b == 0x72 then Some bin.I32Or else
    (if b == 0x73 then Some bin.I32Xor else
    (if b == 0x74 then Some bin.I32Shl else
    (if b == 0x75 then Some bin.I32ShrS else
    (if b == 0x76 then Some bin.I32ShrU else
    (if b == 0x77 then Some bin.I32Rotl else
    (if b == 0x78 then Some bin.I32Rotr else
    (if b == 0x51 then Some bin.I64Eq else
    (if b == 0x52 then Some bin.I64Ne else
    (if b == 0x53 then Some bin.I64LtS else
    (if b == 0x54 then Some bin.I64LtU else
    (if b == 0x55 then Some bin.I64GtS else
    (if b == 0x56 then Some bin.I64GtU else
    (if b == 0x57 then Some bin.I64LeS else
    (if b == 0x58 then Some bin.I64LeU else
    (if b == 0x59 then Some bin.I64GeS else
    (if b == 0x5A then Some bin.I64GeU else
    (if b == 0x7C then Some bin.I64Add else
    (if b == 0x7D then Some bin.I64Sub else
    (if b == 0x7E then Some bin.I64Mul else
    (if b == 0x7F then Some bin.I64DivS else
    (if b == 0x80 then Some bin.I64DivU else
    (if b == 0x81 then Some bin.I64RemS else
    (if b == 0x82 then Some bin.I64RemU else
    (if b == 0x83 then Some bin.I64And else
    (if b == 0x84 then Some bin.I64Or else
    (if b == 0x85 then Some bin.I64Xor else
    (if b == 0x86 then Some bin.I64Shl else
    (if b == 0x87 then Some bin.I64ShrS else
    (if b == 0x88 then Some bin.I64ShrU else
    (if b == 0x89 then Some bin.I64Rotl else
    (if b == 0x8A then Some bin.I64Rotr else
    None))))))))))))))))))))))))))))))))))))))))))))))))))

unfoldable pub load_of : ℕ → Option LoadOp
load_of b =
    (if b == 0x28 then Some load.I32Load else
    (if b == 0x29 then Some load.I64Load else
    (if b == 0x2C then Some load.I32Load8S else
    (if b == 0x2D then Some load.I32Load8U else
    (if b == 0x2E then Some load.I32Load16S else
    (if b == 0x2F then Some load.I32Load16U else
    (if b == 0x30 then Some load.I64Load8S else
    (if b == 0x31 then Some load.I64Load8U else
    (if b == 0x32 then Some load.I64Load16S else
    (if b == 0x33 then Some load.I64Load16U else
    (if b == 0x34 then Some load.I64Load32S else
    (if b == 0x35 then Some load.I64Load32U else
    None))))))))))))

unfoldable pub store_of : ℕ → Option StoreOp
store_of b =
    (if b == 0x36 then Some store.I32Store else
    (if b == 0x37 then Some store.I64Store else
    (if b == 0x3A then Some store.I32Store8 else
    (if b == 0x3B then Some store.I32Store16 else
    (if b == 0x3C then Some store.I64Store8 else
    (if b == 0x3D then Some store.I64Store16 else
    (if b == 0x3E then Some store.I64Store32 else
    None)))))))
