-- The canonical encoding of bodies and code entries (Core 2.0, 5.4 and 5.5.13).
use Rattle.std.specs.Prelude.{ℕ, ◌+◌, List, [], ◌∷◌, ◌++◌, map, ◌==◌, if◌then◌else◌}
use Rattle.wasm_bytes.specs.Prelude.{u32_text, s32_text, s64_text, sized_text}
use Rattle.wasm_num.specs.declared.UnOp.{UnOp}
use Rattle.wasm_num.specs.declared.UnOp.TheVariants as un
use Rattle.wasm_num.specs.declared.BinOp.{BinOp}
use Rattle.wasm_num.specs.declared.BinOp.TheVariants as bin
use Rattle.wasm_tree_spec.specs.Prelude.{LoadOp, StoreOp, MemArg, Instr, fold-Instr, LocalGroup, Func}
use Rattle.wasm_tree.specs.declared.instr.LoadOp.TheVariants as load
use Rattle.wasm_tree.specs.declared.instr.StoreOp.TheVariants as store
use Rattle.wasm_tree.specs.declared.instr.Instr.TheOpen.{Instr-F}
use Rattle.wasm_write_spec.specs.PlainValues.{joined, vector_text, ref_text, val_text, block_type_text}

-- ---- opcodes

unfoldable pub un_code : UnOp → ℕ
un_code un.I32Eqz = 0x45
un_code un.I64Eqz = 0x50
un_code un.I32Clz = 0x67
un_code un.I32Ctz = 0x68
un_code un.I32Popcnt = 0x69
un_code un.I64Clz = 0x79
un_code un.I64Ctz = 0x7A
un_code un.I64Popcnt = 0x7B
un_code un.I32Extend8S = 0xC0
un_code un.I32Extend16S = 0xC1
un_code un.I64Extend8S = 0xC2
un_code un.I64Extend16S = 0xC3
un_code un.I64Extend32S = 0xC4
un_code un.I32WrapI64 = 0xA7
un_code un.I64ExtendI32S = 0xAC
un_code un.I64ExtendI32U = 0xAD

unfoldable pub bin_code : BinOp → ℕ
bin_code bin.I32Eq = 0x46
bin_code bin.I32Ne = 0x47
bin_code bin.I32LtS = 0x48
bin_code bin.I32LtU = 0x49
bin_code bin.I32GtS = 0x4A
bin_code bin.I32GtU = 0x4B
bin_code bin.I32LeS = 0x4C
bin_code bin.I32LeU = 0x4D
bin_code bin.I32GeS = 0x4E
bin_code bin.I32GeU = 0x4F
bin_code bin.I32Add = 0x6A
bin_code bin.I32Sub = 0x6B
bin_code bin.I32Mul = 0x6C
bin_code bin.I32DivS = 0x6D
bin_code bin.I32DivU = 0x6E
bin_code bin.I32RemS = 0x6F
bin_code bin.I32RemU = 0x70
bin_code bin.I32And = 0x71
bin_code bin.I32Or = 0x72
bin_code bin.I32Xor = 0x73
bin_code bin.I32Shl = 0x74
bin_code bin.I32ShrS = 0x75
bin_code bin.I32ShrU = 0x76
bin_code bin.I32Rotl = 0x77
bin_code bin.I32Rotr = 0x78
bin_code bin.I64Eq = 0x51
bin_code bin.I64Ne = 0x52
bin_code bin.I64LtS = 0x53
bin_code bin.I64LtU = 0x54
bin_code bin.I64GtS = 0x55
bin_code bin.I64GtU = 0x56
bin_code bin.I64LeS = 0x57
bin_code bin.I64LeU = 0x58
bin_code bin.I64GeS = 0x59
bin_code bin.I64GeU = 0x5A
bin_code bin.I64Add = 0x7C
bin_code bin.I64Sub = 0x7D
bin_code bin.I64Mul = 0x7E
bin_code bin.I64DivS = 0x7F
bin_code bin.I64DivU = 0x80
bin_code bin.I64RemS = 0x81
bin_code bin.I64RemU = 0x82
bin_code bin.I64And = 0x83
bin_code bin.I64Or = 0x84
bin_code bin.I64Xor = 0x85
bin_code bin.I64Shl = 0x86
bin_code bin.I64ShrS = 0x87
bin_code bin.I64ShrU = 0x88
bin_code bin.I64Rotl = 0x89
bin_code bin.I64Rotr = 0x8A

unfoldable pub load_code : LoadOp → ℕ
load_code load.I32Load = 0x28
load_code load.I64Load = 0x29
load_code load.I32Load8S = 0x2C
load_code load.I32Load8U = 0x2D
load_code load.I32Load16S = 0x2E
load_code load.I32Load16U = 0x2F
load_code load.I64Load8S = 0x30
load_code load.I64Load8U = 0x31
load_code load.I64Load16S = 0x32
load_code load.I64Load16U = 0x33
load_code load.I64Load32S = 0x34
load_code load.I64Load32U = 0x35

unfoldable pub store_code : StoreOp → ℕ
store_code store.I32Store = 0x36
store_code store.I64Store = 0x37
store_code store.I32Store8 = 0x3A
store_code store.I32Store16 = 0x3B
store_code store.I64Store8 = 0x3C
store_code store.I64Store16 = 0x3D
store_code store.I64Store32 = 0x3E

-- ---- instructions

-- An alignment and an offset. For a memory other than memory 0, 64 is added to the alignment, and
-- the index of the memory follows it.
abbrev pub mem_arg_text : MemArg → List ℕ
mem_arg_text a = if a.memory == 0 then u32_text a.align ++ u32_text a.offset else u32_text (a.align + 64) ++ u32_text a.memory ++ u32_text a.offset

-- An `else` and its instructions, if there are any.
abbrev pub else_text : List (List ℕ) → List ℕ
else_text [] = []
else_text (t ∷ ts) = 0x05 ∷ joined (t ∷ ts)

abbrev pub instr_step : Instr-F (List ℕ) → List ℕ
instr_step Instr-F.Unreachable = 0x00 ∷ []
instr_step Instr-F.Nop = 0x01 ∷ []
instr_step (Instr-F.Block ty body) = (0x02 ∷ block_type_text ty) ++ joined body ++ 0x0B ∷ []
instr_step (Instr-F.Loop ty body) = (0x03 ∷ block_type_text ty) ++ joined body ++ 0x0B ∷ []
instr_step (Instr-F.If ty body other) = (0x04 ∷ block_type_text ty) ++ joined body ++ else_text other ++ 0x0B ∷ []
instr_step (Instr-F.Br x) = 0x0C ∷ u32_text x
instr_step (Instr-F.BrIf x) = 0x0D ∷ u32_text x
instr_step (Instr-F.BrTable xs y) = (0x0E ∷ vector_text u32_text xs) ++ u32_text y
instr_step Instr-F.Return = 0x0F ∷ []
instr_step (Instr-F.Call x) = 0x10 ∷ u32_text x
instr_step (Instr-F.CallIndirect x y) = (0x11 ∷ u32_text x) ++ u32_text y
instr_step Instr-F.Drop = 0x1A ∷ []
instr_step Instr-F.Select = 0x1B ∷ []
instr_step (Instr-F.SelectTyped ts) = 0x1C ∷ vector_text val_text ts
instr_step (Instr-F.LocalGet x) = 0x20 ∷ u32_text x
instr_step (Instr-F.LocalSet x) = 0x21 ∷ u32_text x
instr_step (Instr-F.LocalTee x) = 0x22 ∷ u32_text x
instr_step (Instr-F.GlobalGet x) = 0x23 ∷ u32_text x
instr_step (Instr-F.GlobalSet x) = 0x24 ∷ u32_text x
instr_step (Instr-F.TableGet x) = 0x25 ∷ u32_text x
instr_step (Instr-F.TableSet x) = 0x26 ∷ u32_text x
instr_step (Instr-F.Load op arg) = load_code op ∷ mem_arg_text arg
instr_step (Instr-F.Store op arg) = store_code op ∷ mem_arg_text arg
instr_step (Instr-F.MemorySize m) = 0x3F ∷ u32_text m
instr_step (Instr-F.MemoryGrow m) = 0x40 ∷ u32_text m
instr_step (Instr-F.I32Const z) = 0x41 ∷ s32_text z
instr_step (Instr-F.I64Const z) = 0x42 ∷ s64_text z
instr_step (Instr-F.Un op) = un_code op ∷ []
instr_step (Instr-F.Bin op) = bin_code op ∷ []
instr_step (Instr-F.RefNull t) = 0xD0 ∷ ref_text t
instr_step Instr-F.RefIsNull = 0xD1 ∷ []
instr_step (Instr-F.RefFunc x) = 0xD2 ∷ u32_text x
instr_step (Instr-F.MemoryInit x m) = (0xFC ∷ 8 ∷ u32_text x) ++ u32_text m
instr_step (Instr-F.DataDrop x) = 0xFC ∷ 9 ∷ u32_text x
instr_step (Instr-F.MemoryCopy to from) = (0xFC ∷ 10 ∷ u32_text to) ++ u32_text from
instr_step (Instr-F.MemoryFill m) = 0xFC ∷ 11 ∷ u32_text m
instr_step (Instr-F.TableInit x y) = (0xFC ∷ 12 ∷ u32_text x) ++ u32_text y
instr_step (Instr-F.ElemDrop x) = 0xFC ∷ 13 ∷ u32_text x
instr_step (Instr-F.TableCopy to from) = (0xFC ∷ 14 ∷ u32_text to) ++ u32_text from
instr_step (Instr-F.TableGrow x) = 0xFC ∷ 15 ∷ u32_text x
instr_step (Instr-F.TableSize x) = 0xFC ∷ 16 ∷ u32_text x
instr_step (Instr-F.TableFill x) = 0xFC ∷ 17 ∷ u32_text x

abbrev pub instr_text : Instr → List ℕ
instr_text = fold-Instr (List ℕ) instr_step

-- Instructions, one after another.
abbrev pub instrs_text : List Instr → List ℕ
instrs_text is = joined (map instr_text is)

-- A body with its last end.
abbrev pub body_text : List Instr → List ℕ
body_text is = instrs_text is ++ 0x0B ∷ []

-- ---- code entries

unfoldable pub group_text : LocalGroup → List ℕ
group_text g = u32_text g.count ++ val_text g.ty

abbrev pub code_text : Func → List ℕ
code_text f = vector_text group_text f.locals ++ body_text f.body

unfoldable pub entry_text : Func → List ℕ
entry_text f = sized_text (code_text f)
