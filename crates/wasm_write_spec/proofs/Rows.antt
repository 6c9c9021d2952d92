-- The encodings of small modules and their parts, computed: each is compared with bytes that were
-- written by hand from the grammar of the standard (Core 2.0, chapter 5). A memory other than
-- memory 0 is written as in modules with several memories.
use Rattle.base_lists.proofs.Common.{◌≡◌, refl, ℕ, List, [], ◌∷◌, Bool, false, true, Option, Some, None, map, pos, negsuc}
use Rattle.wasm_num.specs.declared.UnOp.TheVariants as un
use Rattle.wasm_num.specs.declared.BinOp.TheVariants as bin
use Rattle.wasm_tree_spec.specs.Prelude.{RefType, Limits, MemArg, Instr, fold_out-Instr, Func, ConstExpr, ElemMode, ElemSeg, DataMode, DataSeg, Module, any_pass_step, names_data}
use Rattle.wasm_tree.specs.declared.types.RefType.TheVariants as ref
use Rattle.wasm_tree.specs.declared.types.ValType.TheVariants as valt
use Rattle.wasm_tree.specs.declared.types.BlockType.TheVariants as bt
use Rattle.wasm_tree.specs.declared.instr.LoadOp.TheVariants as load
use Rattle.wasm_tree.specs.declared.instr.StoreOp.TheVariants as store
use Rattle.wasm_tree.specs.declared.instr.Instr.{out-Instr}
use Rattle.wasm_tree.specs.declared.instr.Instr.TheVariants as i
use Rattle.wasm_tree.specs.declared.module.ImportDesc.TheVariants as import
use Rattle.wasm_tree.specs.declared.module.ExportDesc.TheVariants as export
use Rattle.wasm_tree.specs.declared.module.ConstExpr.TheVariants as const
use Rattle.wasm_tree.specs.declared.module.ElemMode.TheVariants as elem
use Rattle.wasm_tree.specs.declared.module.DataMode.TheVariants as segment
use Rattle.wasm_bytes.specs.Prelude.{u32_text}
use Rattle.wasm_bytes.specs.Writing.{unsigned_text, signed_text}
use Rattle.wasm_write_spec.specs.PlainValues.{ref_code, val_code, func_type_text, limits_text, table_text, global_type_text, global_text, block_type_text, const_text, import_text, import_desc_text, export_text, export_desc_text, is_func, func_of, is_funcref, index_items, const_items, elem_text}
use Rattle.wasm_write_spec.specs.PlainValues.{data_text}
use Rattle.wasm_write_spec.specs.PlainCode.{un_code, bin_code, load_code, store_code, group_text, instr_step, instrs_text, entry_text}
use Rattle.wasm_write_spec.specs.Plain.{plain}

-- ---- what is spelled ----

abbrev empty : Module
empty = record { types = []; imports = []; funcs = []; tables = []; mems = []; globals = []; exports = []; start = None; elems = []; datas = [] }

abbrev func : ℕ → List Instr → Func
func ty body = record { ty = ty; locals = []; body = body }

abbrev num : ℕ → Instr
num n = i.I32Const (pos n)

abbrev at : ℕ → ℕ → ℕ → MemArg
at align offset memory = record { align = align; offset = offset; memory = memory }

abbrev limits : ℕ → Option ℕ → Limits
limits min max = record { min = min; max = max }

abbrev segment_of : ElemMode → RefType → List ConstExpr → ElemSeg
segment_of mode ty items = record { mode = mode; ty = ty; items = items }

-- A data segment of the bytes "hi".
abbrev hi : DataMode → DataSeg
hi mode = record { mode = mode; bytes = 0x68 ∷ 0x69 ∷ [] }

-- A module with a function of this body and one data segment.
abbrev with_data : List Instr → Module
with_data body = record empty { types = record { params = []; results = [] } ∷ []; funcs = func 0 body ∷ []; datas = hi segment.Passive ∷ [] }

-- ---- modules ----

a_module_without_parts : plain empty ≡
    0x00 ∷ 0x61 ∷ 0x73 ∷ 0x6D ∷ 0x01 ∷ 0x00 ∷ 0x00 ∷ 0x00 ∷ []
unfolding plain
a_module_without_parts = refl

a_function_that_is_exported : plain (record empty { types = record { params = []; results = valt.I32 ∷ [] } ∷ []; funcs = func 0 (num 5 ∷ []) ∷ []; exports = record { name = 0x66 ∷ []; desc = export.Func 0 } ∷ [] }) ≡
    0x00 ∷ 0x61 ∷ 0x73 ∷ 0x6D ∷ 0x01 ∷ 0x00 ∷ 0x00 ∷ 0x00 ∷ 0x01 ∷ 0x05 ∷ 0x01 ∷ 0x60 ∷ 0x00 ∷ 0x01 ∷ 0x7F ∷ 0x03 ∷ 0x02 ∷ 0x01 ∷ 0x00 ∷ 0x07 ∷ 0x05 ∷ 0x01 ∷ 0x01 ∷ 0x66 ∷ 0x00 ∷ 0x00 ∷ 0x0A ∷ 0x06 ∷ 0x01 ∷ 0x04 ∷ 0x00 ∷ 0x41 ∷ 0x05 ∷ 0x0B ∷ []
unfolding plain func_type_text val_code export_text export_desc_text entry_text unsigned_text signed_text out-Instr denote.Hole.Carrier.out
a_function_that_is_exported = simp (fold_out-Instr (List ℕ) instr_step, fold_out-Instr Bool (any_pass_step names_data)) refl

-- A type, imports, a table, a memory, globals, an export and a start function are written in the
-- order of their sections.
what_is_not_code : plain (record empty {
  types = record { params = valt.I64 ∷ valt.Ref ref.Func ∷ []; results = [] } ∷ [];
  imports = record { «module» = 0x61 ∷ []; field = 0x62 ∷ 0x63 ∷ []; desc = import.Func 0 } ∷ record { «module» = []; field = 0x64 ∷ []; desc = import.Memory (limits 1 (Some 128)) } ∷ [];
  tables = record { ty = ref.Extern; limits = limits 3 None } ∷ [];
  mems = limits 0 None ∷ [];
  globals = record { ty = record { ty = valt.I64; mutable = true }; init = const.I64 (negsuc 0) } ∷ record { ty = record { ty = valt.Ref ref.Extern; mutable = false }; init = const.Null ref.Extern } ∷ [];
  exports = record { name = []; desc = export.Global 1 } ∷ [];
  start = Some 0;
}) ≡
    0x00 ∷ 0x61 ∷ 0x73 ∷ 0x6D ∷ 0x01 ∷ 0x00 ∷ 0x00 ∷ 0x00 ∷ 0x01 ∷ 0x06 ∷ 0x01 ∷ 0x60 ∷ 0x02 ∷ 0x7E ∷ 0x70 ∷ 0x00 ∷ 0x02 ∷ 0x10 ∷ 0x02 ∷ 0x01 ∷ 0x61 ∷ 0x02 ∷ 0x62 ∷ 0x63 ∷ 0x00 ∷ 0x00 ∷ 0x00 ∷ 0x01 ∷ 0x64 ∷ 0x02 ∷ 0x01 ∷ 0x01 ∷ 0x80 ∷ 0x01 ∷ 0x04 ∷ 0x04 ∷ 0x01 ∷ 0x6F ∷ 0x00 ∷ 0x03 ∷ 0x05 ∷ 0x03 ∷
    0x01 ∷ 0x00 ∷ 0x00 ∷ 0x06 ∷ 0x0B ∷ 0x02 ∷ 0x7E ∷ 0x01 ∷ 0x42 ∷ 0x7F ∷ 0x0B ∷ 0x6F ∷ 0x00 ∷ 0xD0 ∷ 0x6F ∷ 0x0B ∷ 0x07 ∷ 0x04 ∷ 0x01 ∷ 0x00 ∷ 0x03 ∷ 0x01 ∷ 0x08 ∷ 0x01 ∷ 0x00 ∷ []
unfolding plain func_type_text val_code ref_code import_text import_desc_text limits_text table_text global_text global_type_text const_text export_text export_desc_text unsigned_text signed_text
what_is_not_code = refl

a_count_where_a_body_has_memory_init : plain (with_data (num 0 ∷ num 0 ∷ num 2 ∷ i.MemoryInit 0 0 ∷ [])) ≡
    0x00 ∷ 0x61 ∷ 0x73 ∷ 0x6D ∷ 0x01 ∷ 0x00 ∷ 0x00 ∷ 0x00 ∷ 0x01 ∷ 0x04 ∷ 0x01 ∷ 0x60 ∷ 0x00 ∷ 0x00 ∷ 0x03 ∷ 0x02 ∷ 0x01 ∷ 0x00 ∷ 0x0C ∷ 0x01 ∷ 0x01 ∷ 0x0A ∷ 0x0E ∷ 0x01 ∷ 0x0C ∷ 0x00 ∷ 0x41 ∷ 0x00 ∷ 0x41 ∷ 0x00 ∷ 0x41 ∷ 0x02 ∷ 0xFC ∷ 0x08 ∷ 0x00 ∷ 0x00 ∷ 0x0B ∷ 0x0B ∷ 0x05 ∷ 0x01 ∷ 0x01 ∷ 0x02 ∷
    0x68 ∷ 0x69 ∷ []
unfolding plain func_type_text entry_text data_text unsigned_text signed_text out-Instr denote.Hole.Carrier.out
a_count_where_a_body_has_memory_init = simp (fold_out-Instr (List ℕ) instr_step, fold_out-Instr Bool (any_pass_step names_data)) refl

a_count_where_a_block_has_data_drop : plain (with_data (i.Block bt.Empty (i.DataDrop 0 ∷ []) ∷ [])) ≡
    0x00 ∷ 0x61 ∷ 0x73 ∷ 0x6D ∷ 0x01 ∷ 0x00 ∷ 0x00 ∷ 0x00 ∷ 0x01 ∷ 0x04 ∷ 0x01 ∷ 0x60 ∷ 0x00 ∷ 0x00 ∷ 0x03 ∷ 0x02 ∷ 0x01 ∷ 0x00 ∷ 0x0C ∷ 0x01 ∷ 0x01 ∷ 0x0A ∷ 0x0A ∷ 0x01 ∷ 0x08 ∷ 0x00 ∷ 0x02 ∷ 0x40 ∷ 0xFC ∷ 0x09 ∷ 0x00 ∷ 0x0B ∷ 0x0B ∷ 0x0B ∷ 0x05 ∷ 0x01 ∷ 0x01 ∷ 0x02 ∷ 0x68 ∷ 0x69 ∷ []
unfolding plain func_type_text entry_text data_text block_type_text unsigned_text signed_text
a_count_where_a_block_has_data_drop = simp (fold_out-Instr (List ℕ) instr_step, fold_out-Instr Bool (any_pass_step names_data), i.outs-Block, i.outs-DataDrop) refl

no_count_where_a_body_drops_elements : plain (with_data (i.ElemDrop 0 ∷ [])) ≡
    0x00 ∷ 0x61 ∷ 0x73 ∷ 0x6D ∷ 0x01 ∷ 0x00 ∷ 0x00 ∷ 0x00 ∷ 0x01 ∷ 0x04 ∷ 0x01 ∷ 0x60 ∷ 0x00 ∷ 0x00 ∷ 0x03 ∷ 0x02 ∷ 0x01 ∷ 0x00 ∷ 0x0A ∷ 0x07 ∷ 0x01 ∷ 0x05 ∷ 0x00 ∷ 0xFC ∷ 0x0D ∷ 0x00 ∷ 0x0B ∷ 0x0B ∷ 0x05 ∷ 0x01 ∷ 0x01 ∷ 0x02 ∷ 0x68 ∷ 0x69 ∷ []
unfolding plain func_type_text entry_text data_text unsigned_text signed_text out-Instr denote.Hole.Carrier.out
no_count_where_a_body_drops_elements = simp (fold_out-Instr (List ℕ) instr_step, fold_out-Instr Bool (any_pass_step names_data)) refl

-- ---- numbers ----

a_number_of_one_byte : u32_text 127 ≡
    0x7F ∷ []
unfolding unsigned_text
a_number_of_one_byte = refl

a_number_of_two_bytes : u32_text 128 ≡
    0x80 ∷ 0x01 ∷ []
unfolding unsigned_text
a_number_of_two_bytes = refl

the_greatest_number : u32_text 4294967295 ≡
    0xFF ∷ 0xFF ∷ 0xFF ∷ 0xFF ∷ 0x0F ∷ []
unfolding unsigned_text
the_greatest_number = refl

a_negative_constant : const_text (const.I32 (negsuc 0)) ≡
    0x41 ∷ 0x7F ∷ 0x0B ∷ []
unfolding const_text signed_text
a_negative_constant = refl

the_least_constant : const_text (const.I32 (negsuc 2147483647)) ≡
    0x41 ∷ 0x80 ∷ 0x80 ∷ 0x80 ∷ 0x80 ∷ 0x78 ∷ 0x0B ∷ []
unfolding const_text signed_text
the_least_constant = refl

a_constant_of_one_byte : const_text (const.I64 (pos 63)) ≡
    0x42 ∷ 0x3F ∷ 0x0B ∷ []
unfolding const_text signed_text
a_constant_of_one_byte = refl

a_constant_of_two_bytes : const_text (const.I64 (pos 64)) ≡
    0x42 ∷ 0xC0 ∷ 0x00 ∷ 0x0B ∷ []
unfolding const_text signed_text
a_constant_of_two_bytes = refl

-- ---- bodies ----

an_else_that_stands : instrs_text (num 1 ∷ i.If (bt.Value valt.I32) (num 2 ∷ []) (num 3 ∷ []) ∷ []) ≡
    0x41 ∷ 0x01 ∷ 0x04 ∷ 0x7F ∷ 0x41 ∷ 0x02 ∷ 0x05 ∷ 0x41 ∷ 0x03 ∷ 0x0B ∷ []
unfolding val_code block_type_text unsigned_text signed_text
an_else_that_stands = simp (fold_out-Instr (List ℕ) instr_step, i.outs-If, i.outs-I32Const) refl

an_else_that_is_empty : instrs_text (num 1 ∷ i.If bt.Empty (i.Nop ∷ []) [] ∷ []) ≡
    0x41 ∷ 0x01 ∷ 0x04 ∷ 0x40 ∷ 0x01 ∷ 0x0B ∷ []
unfolding block_type_text unsigned_text signed_text
an_else_that_is_empty = simp (fold_out-Instr (List ℕ) instr_step, i.outs-If, i.outs-I32Const, i.outs-Nop) refl

blocks_of_each_kind : instrs_text (i.Block bt.Empty (i.Loop (bt.Index 64) (i.Br 1 ∷ i.BrIf 128 ∷ []) ∷ []) ∷ []) ≡
    0x02 ∷ 0x40 ∷ 0x03 ∷ 0xC0 ∷ 0x00 ∷ 0x0C ∷ 0x01 ∷ 0x0D ∷ 0x80 ∷ 0x01 ∷ 0x0B ∷ 0x0B ∷ []
unfolding block_type_text unsigned_text signed_text
blocks_of_each_kind = simp (fold_out-Instr (List ℕ) instr_step, i.outs-Block, i.outs-Loop, i.outs-Br, i.outs-BrIf) refl

branches_and_calls : instrs_text (i.Unreachable ∷ i.Nop ∷ i.BrTable (1 ∷ 2 ∷ []) 3 ∷ i.Return ∷ i.Call 0 ∷ i.CallIndirect 1 2 ∷ []) ≡
    0x00 ∷ 0x01 ∷ 0x0E ∷ 0x02 ∷ 0x01 ∷ 0x02 ∷ 0x03 ∷ 0x0F ∷ 0x10 ∷ 0x00 ∷ 0x11 ∷ 0x01 ∷ 0x02 ∷ []
unfolding unsigned_text signed_text out-Instr denote.Hole.Carrier.out
branches_and_calls = simp (fold_out-Instr (List ℕ) instr_step) refl

values_and_variables : instrs_text (i.Drop ∷ i.Select ∷ i.SelectTyped (valt.I64 ∷ []) ∷ i.LocalGet 1 ∷ i.LocalSet 2 ∷ i.LocalTee 128 ∷ i.GlobalGet 1 ∷ i.GlobalSet 127 ∷ i.TableGet 1 ∷ i.TableSet 2 ∷ []) ≡
    0x1A ∷ 0x1B ∷ 0x1C ∷ 0x01 ∷ 0x7E ∷ 0x20 ∷ 0x01 ∷ 0x21 ∷ 0x02 ∷ 0x22 ∷ 0x80 ∷ 0x01 ∷ 0x23 ∷ 0x01 ∷ 0x24 ∷ 0x7F ∷ 0x25 ∷ 0x01 ∷ 0x26 ∷ 0x02 ∷ []
unfolding val_code unsigned_text signed_text out-Instr denote.Hole.Carrier.out
values_and_variables = simp (fold_out-Instr (List ℕ) instr_step) refl

-- The last store is to memory 1: 64 is added to its alignment, and the memory index comes before
-- the offset.
loads_and_stores : instrs_text (i.Load load.I32Load (at 2 300 0) ∷ i.Load load.I64Load8U (at 0 1 0) ∷ i.Store store.I32Store16 (at 1 64 0) ∷ i.Store store.I64Store (at 3 5 1) ∷ []) ≡
    0x28 ∷ 0x02 ∷ 0xAC ∷ 0x02 ∷ 0x31 ∷ 0x00 ∷ 0x01 ∷ 0x3B ∷ 0x01 ∷ 0x40 ∷ 0x37 ∷ 0x43 ∷ 0x01 ∷ 0x05 ∷ []
unfolding load_code store_code unsigned_text signed_text out-Instr denote.Hole.Carrier.out
loads_and_stores = simp (fold_out-Instr (List ℕ) instr_step) refl

constants_and_references : instrs_text (i.MemorySize 0 ∷ i.MemoryGrow 0 ∷ i.I32Const (negsuc 2147483647) ∷ i.I64Const (pos 64) ∷ i.RefNull ref.Extern ∷ i.RefIsNull ∷ i.RefFunc 3 ∷ []) ≡
    0x3F ∷ 0x00 ∷ 0x40 ∷ 0x00 ∷ 0x41 ∷ 0x80 ∷ 0x80 ∷ 0x80 ∷ 0x80 ∷ 0x78 ∷ 0x42 ∷ 0xC0 ∷ 0x00 ∷ 0xD0 ∷ 0x6F ∷ 0xD1 ∷ 0xD2 ∷ 0x03 ∷ []
unfolding ref_code unsigned_text signed_text out-Instr denote.Hole.Carrier.out
constants_and_references = simp (fold_out-Instr (List ℕ) instr_step) refl

segments_and_tables : instrs_text (i.MemoryInit 1 0 ∷ i.DataDrop 1 ∷ i.MemoryCopy 0 1 ∷ i.MemoryFill 0 ∷ i.TableInit 3 1 ∷ i.ElemDrop 3 ∷ i.TableCopy 1 0 ∷ i.TableGrow 1 ∷ i.TableSize 1 ∷ i.TableFill 1 ∷ []) ≡
    0xFC ∷ 0x08 ∷ 0x01 ∷ 0x00 ∷ 0xFC ∷ 0x09 ∷ 0x01 ∷ 0xFC ∷ 0x0A ∷ 0x00 ∷ 0x01 ∷ 0xFC ∷ 0x0B ∷ 0x00 ∷ 0xFC ∷ 0x0C ∷ 0x03 ∷ 0x01 ∷ 0xFC ∷ 0x0D ∷ 0x03 ∷ 0xFC ∷ 0x0E ∷ 0x01 ∷ 0x00 ∷ 0xFC ∷ 0x0F ∷ 0x01 ∷ 0xFC ∷ 0x10 ∷ 0x01 ∷ 0xFC ∷ 0x11 ∷ 0x01 ∷ []
unfolding unsigned_text signed_text out-Instr denote.Hole.Carrier.out
segments_and_tables = simp (fold_out-Instr (List ℕ) instr_step) refl

locals : entry_text (record { ty = 0; locals = record { count = 2; ty = valt.I32 } ∷ record { count = 200; ty = valt.I64 } ∷ []; body = [] }) ≡
    0x07 ∷ 0x02 ∷ 0x02 ∷ 0x7F ∷ 0xC8 ∷ 0x01 ∷ 0x7E ∷ 0x0B ∷ []
unfolding entry_text group_text val_code unsigned_text signed_text
locals = refl

-- ---- opcodes ----

operations_on_one_number : map un_code (un.I32Eqz ∷ un.I64Eqz ∷ un.I32Clz ∷ un.I32Ctz ∷ un.I32Popcnt ∷ un.I64Clz ∷ un.I64Ctz ∷ un.I64Popcnt ∷ un.I32Extend8S ∷ un.I32Extend16S ∷ un.I64Extend8S ∷ un.I64Extend16S ∷ un.I64Extend32S ∷ un.I32WrapI64 ∷ un.I64ExtendI32S ∷ un.I64ExtendI32U ∷ []) ≡
    0x45 ∷ 0x50 ∷ 0x67 ∷ 0x68 ∷ 0x69 ∷ 0x79 ∷ 0x7A ∷ 0x7B ∷ 0xC0 ∷ 0xC1 ∷ 0xC2 ∷ 0xC3 ∷ 0xC4 ∷ 0xA7 ∷ 0xAC ∷ 0xAD ∷ []
unfolding un_code
operations_on_one_number = refl

operations_on_two_numbers_of_32_bits : map bin_code (bin.I32Eq ∷ bin.I32Ne ∷ bin.I32LtS ∷ bin.I32LtU ∷ bin.I32GtS ∷ bin.I32GtU ∷ bin.I32LeS ∷ bin.I32LeU ∷ bin.I32GeS ∷ bin.I32GeU ∷ bin.I32Add ∷ bin.I32Sub ∷ bin.I32Mul ∷ bin.I32DivS ∷ bin.I32DivU ∷ bin.I32RemS ∷ bin.I32RemU ∷ bin.I32And ∷
    bin.I32Or ∷ bin.I32Xor ∷ bin.I32Shl ∷ bin.I32ShrS ∷ bin.I32ShrU ∷ bin.I32Rotl ∷ bin.I32Rotr ∷ []) ≡
    0x46 ∷ 0x47 ∷ 0x48 ∷ 0x49 ∷ 0x4A ∷ 0x4B ∷ 0x4C ∷ 0x4D ∷ 0x4E ∷ 0x4F ∷ 0x6A ∷ 0x6B ∷ 0x6C ∷ 0x6D ∷ 0x6E ∷ 0x6F ∷ 0x70 ∷ 0x71 ∷ 0x72 ∷ 0x73 ∷ 0x74 ∷ 0x75 ∷ 0x76 ∷ 0x77 ∷ 0x78 ∷ []
unfolding bin_code
operations_on_two_numbers_of_32_bits = refl

operations_on_two_numbers_of_64_bits : map bin_code (bin.I64Eq ∷ bin.I64Ne ∷ bin.I64LtS ∷ bin.I64LtU ∷ bin.I64GtS ∷ bin.I64GtU ∷ bin.I64LeS ∷ bin.I64LeU ∷ bin.I64GeS ∷ bin.I64GeU ∷ bin.I64Add ∷ bin.I64Sub ∷ bin.I64Mul ∷ bin.I64DivS ∷ bin.I64DivU ∷ bin.I64RemS ∷ bin.I64RemU ∷ bin.I64And ∷
    bin.I64Or ∷ bin.I64Xor ∷ bin.I64Shl ∷ bin.I64ShrS ∷ bin.I64ShrU ∷ bin.I64Rotl ∷ bin.I64Rotr ∷ []) ≡
    0x51 ∷ 0x52 ∷ 0x53 ∷ 0x54 ∷ 0x55 ∷ 0x56 ∷ 0x57 ∷ 0x58 ∷ 0x59 ∷ 0x5A ∷ 0x7C ∷ 0x7D ∷ 0x7E ∷ 0x7F ∷ 0x80 ∷ 0x81 ∷ 0x82 ∷ 0x83 ∷ 0x84 ∷ 0x85 ∷ 0x86 ∷ 0x87 ∷ 0x88 ∷ 0x89 ∷ 0x8A ∷ []
unfolding bin_code
operations_on_two_numbers_of_64_bits = refl

loads : map load_code (load.I32Load ∷ load.I64Load ∷ load.I32Load8S ∷ load.I32Load8U ∷ load.I32Load16S ∷ load.I32Load16U ∷ load.I64Load8S ∷ load.I64Load8U ∷ load.I64Load16S ∷ load.I64Load16U ∷ load.I64Load32S ∷ load.I64Load32U ∷ []) ≡
    0x28 ∷ 0x29 ∷ 0x2C ∷ 0x2D ∷ 0x2E ∷ 0x2F ∷ 0x30 ∷ 0x31 ∷ 0x32 ∷ 0x33 ∷ 0x34 ∷ 0x35 ∷ []
unfolding load_code
loads = refl

stores : map store_code (store.I32Store ∷ store.I64Store ∷ store.I32Store8 ∷ store.I32Store16 ∷ store.I64Store8 ∷ store.I64Store16 ∷ store.I64Store32 ∷ []) ≡
    0x36 ∷ 0x37 ∷ 0x3A ∷ 0x3B ∷ 0x3C ∷ 0x3D ∷ 0x3E ∷ []
unfolding store_code
stores = refl

-- ---- element segments, by the form that is written ----

element_form_0 : elem_text (segment_of (elem.Active 0 (const.I32 (pos 3))) ref.Func (const.Func 0 ∷ const.Func 1 ∷ [])) ≡
    0x00 ∷ 0x41 ∷ 0x03 ∷ 0x0B ∷ 0x02 ∷ 0x00 ∷ 0x01 ∷ []
unfolding elem_text is_funcref is_func func_of index_items const_items const_text ref_code unsigned_text signed_text
element_form_0 = refl

element_form_0_of_no_items : elem_text (segment_of (elem.Active 0 (const.I32 (pos 3))) ref.Func []) ≡
    0x00 ∷ 0x41 ∷ 0x03 ∷ 0x0B ∷ 0x00 ∷ []
unfolding elem_text is_funcref is_func func_of index_items const_items const_text ref_code unsigned_text signed_text
element_form_0_of_no_items = refl

element_form_1 : elem_text (segment_of elem.Passive ref.Func (const.Func 1 ∷ [])) ≡
    0x01 ∷ 0x00 ∷ 0x01 ∷ 0x01 ∷ []
unfolding elem_text is_funcref is_func func_of index_items const_items const_text ref_code unsigned_text signed_text
element_form_1 = refl

element_form_2 : elem_text (segment_of (elem.Active 1 (const.I32 (pos 3))) ref.Func (const.Func 0 ∷ const.Func 1 ∷ [])) ≡
    0x02 ∷ 0x01 ∷ 0x41 ∷ 0x03 ∷ 0x0B ∷ 0x00 ∷ 0x02 ∷ 0x00 ∷ 0x01 ∷ []
unfolding elem_text is_funcref is_func func_of index_items const_items const_text ref_code unsigned_text signed_text
element_form_2 = refl

element_form_3 : elem_text (segment_of elem.Declarative ref.Func (const.Func 1 ∷ [])) ≡
    0x03 ∷ 0x00 ∷ 0x01 ∷ 0x01 ∷ []
unfolding elem_text is_funcref is_func func_of index_items const_items const_text ref_code unsigned_text signed_text
element_form_3 = refl

element_form_4 : elem_text (segment_of (elem.Active 0 (const.I32 (pos 3))) ref.Func (const.Func 1 ∷ const.Null ref.Func ∷ [])) ≡
    0x04 ∷ 0x41 ∷ 0x03 ∷ 0x0B ∷ 0x02 ∷ 0xD2 ∷ 0x01 ∷ 0x0B ∷ 0xD0 ∷ 0x70 ∷ 0x0B ∷ []
unfolding elem_text is_funcref is_func func_of index_items const_items const_text ref_code unsigned_text signed_text
element_form_4 = refl

element_form_5 : elem_text (segment_of elem.Passive ref.Func (const.Null ref.Func ∷ [])) ≡
    0x05 ∷ 0x70 ∷ 0x01 ∷ 0xD0 ∷ 0x70 ∷ 0x0B ∷ []
unfolding elem_text is_funcref is_func func_of index_items const_items const_text ref_code unsigned_text signed_text
element_form_5 = refl

element_form_5_of_extern_references : elem_text (segment_of elem.Passive ref.Extern (const.Null ref.Extern ∷ [])) ≡
    0x05 ∷ 0x6F ∷ 0x01 ∷ 0xD0 ∷ 0x6F ∷ 0x0B ∷ []
unfolding elem_text is_funcref is_func func_of index_items const_items const_text ref_code unsigned_text signed_text
element_form_5_of_extern_references = refl

element_form_6 : elem_text (segment_of (elem.Active 1 (const.I32 (pos 3))) ref.Func (const.Null ref.Func ∷ [])) ≡
    0x06 ∷ 0x01 ∷ 0x41 ∷ 0x03 ∷ 0x0B ∷ 0x70 ∷ 0x01 ∷ 0xD0 ∷ 0x70 ∷ 0x0B ∷ []
unfolding elem_text is_funcref is_func func_of index_items const_items const_text ref_code unsigned_text signed_text
element_form_6 = refl

element_form_6_of_table_0 : elem_text (segment_of (elem.Active 0 (const.I32 (pos 3))) ref.Extern (const.Global 2 ∷ [])) ≡
    0x06 ∷ 0x00 ∷ 0x41 ∷ 0x03 ∷ 0x0B ∷ 0x6F ∷ 0x01 ∷ 0x23 ∷ 0x02 ∷ 0x0B ∷ []
unfolding elem_text is_funcref is_func func_of index_items const_items const_text ref_code unsigned_text signed_text
element_form_6_of_table_0 = refl

element_form_7 : elem_text (segment_of elem.Declarative ref.Func (const.Func 1 ∷ const.Null ref.Func ∷ [])) ≡
    0x07 ∷ 0x70 ∷ 0x02 ∷ 0xD2 ∷ 0x01 ∷ 0x0B ∷ 0xD0 ∷ 0x70 ∷ 0x0B ∷ []
unfolding elem_text is_funcref is_func func_of index_items const_items const_text ref_code unsigned_text signed_text
element_form_7 = refl

element_form_7_of_no_items : elem_text (segment_of elem.Declarative ref.Extern []) ≡
    0x07 ∷ 0x6F ∷ 0x00 ∷ []
unfolding elem_text is_funcref is_func func_of index_items const_items const_text ref_code unsigned_text signed_text
element_form_7_of_no_items = refl

-- ---- data segments, by the form that is written ----

data_form_0 : data_text (hi (segment.Active 0 (const.I32 (pos 8)))) ≡
    0x00 ∷ 0x41 ∷ 0x08 ∷ 0x0B ∷ 0x02 ∷ 0x68 ∷ 0x69 ∷ []
unfolding data_text const_text unsigned_text signed_text
data_form_0 = refl

data_form_1 : data_text (hi segment.Passive) ≡
    0x01 ∷ 0x02 ∷ 0x68 ∷ 0x69 ∷ []
unfolding data_text const_text unsigned_text signed_text
data_form_1 = refl

data_form_2 : data_text (hi (segment.Active 1 (const.I32 (pos 8)))) ≡
    0x02 ∷ 0x01 ∷ 0x41 ∷ 0x08 ∷ 0x0B ∷ 0x02 ∷ 0x68 ∷ 0x69 ∷ []
unfolding data_text const_text unsigned_text signed_text
data_form_2 = refl
