-- The names of the module tree, passed on from one place. This file declares nothing.
pub use Rattle.wasm_tree.specs.Accesses.{read_width, store_width}
pub use Rattle.wasm_tree.specs.Bounds.{IsBounded, declared_count, local_count, param_count}
pub use Rattle.wasm_tree.specs.DataUse.{any_uses_data, names_data, uses_data, uses_data_in}
pub use Rattle.wasm_tree.specs.Layers.{Layers, ListLayers, RowLayers}
pub use Rattle.wasm_tree.specs.Limits.{limit}
pub use Rattle.wasm_tree.specs.MemoryZero.{is_memory_zero, memory_zero_all, memory_zero_funcs}
pub use Rattle.wasm_tree.specs.OperandLaws.{AnyInside, PassesInside, PassesLayerByLayer}
pub use Rattle.wasm_tree.specs.Operands.{all_operands_pass, all_pass_step, any_operand_passes, any_pass_step, block_operands, called, held, listed, map_operands, mapped_all, operand_passes, operands}
pub use Rattle.wasm_tree.specs.Operands.{operands_of, operands_pass, same_space}
pub use Rattle.wasm_tree.specs.SameTypes.{same_func_type, same_ref, same_type, same_types}
pub use Rattle.wasm_tree.specs.Spaces.{func_of, funcs_of, global_of, globals_of, imported_funcs, imported_globals, imported_memories, imported_tables, index_of_export, memories_of, memory_of}
pub use Rattle.wasm_tree.specs.Spaces.{space_of_export, space_of_import, table_of, tables_of, type_of_func}
pub use Rattle.wasm_tree.specs.declared.instr.Instr.{Instr, Row_of-Instr, end_of-Instr, fold-Instr, fold_out-Instr, items-the_row-Instr, items_shown-the_row-Instr-0, map-Instr, more_of-Instr}
pub use Rattle.wasm_tree.specs.declared.instr.Instr.{out-Instr, roll-out-Instr, the_lemmas}
pub use Rattle.wasm_tree.specs.declared.instr.Instr.TheVariants.{Bin, Block, Block', Br, BrIf, BrTable, Call, CallIndirect, DataDrop, Drop, ElemDrop, GlobalGet, GlobalSet, I32Const, I64Const, If, If'}
pub use Rattle.wasm_tree.specs.declared.instr.Instr.TheVariants.{Load, LocalGet, LocalSet, LocalTee, Loop, Loop', MemoryCopy, MemoryFill, MemoryGrow, MemoryInit, MemorySize, Nop, RefFunc, RefIsNull}
pub use Rattle.wasm_tree.specs.declared.instr.Instr.TheVariants.{RefNull, Return, Select, SelectTyped, Store, TableCopy, TableFill, TableGet, TableGrow, TableInit, TableSet, TableSize, Un}
pub use Rattle.wasm_tree.specs.declared.instr.Instr.TheVariants.{Unreachable, outs-Block, outs-If, outs-Loop}
pub use Rattle.wasm_tree.specs.declared.instr.LoadOp.{LoadOp}
pub use Rattle.wasm_tree.specs.declared.instr.LoadOp.TheVariants.{I32Load}
pub use Rattle.wasm_tree.specs.declared.instr.MemArg.{MemArg}
pub use Rattle.wasm_tree.specs.declared.instr.StoreOp.{StoreOp}
pub use Rattle.wasm_tree.specs.declared.instr.StoreOp.TheVariants.{I32Store, I32Store8}
pub use Rattle.wasm_tree.specs.declared.module.ConstExpr.{ConstExpr}
pub use Rattle.wasm_tree.specs.declared.module.DataMode.{DataMode}
pub use Rattle.wasm_tree.specs.declared.module.DataSeg.{DataSeg}
pub use Rattle.wasm_tree.specs.declared.module.ElemMode.{ElemMode}
pub use Rattle.wasm_tree.specs.declared.module.ElemSeg.{ElemSeg}
pub use Rattle.wasm_tree.specs.declared.module.Export.{Export}
pub use Rattle.wasm_tree.specs.declared.module.ExportDesc.{ExportDesc}
pub use Rattle.wasm_tree.specs.declared.module.Func.{Func}
pub use Rattle.wasm_tree.specs.declared.module.GlobalDef.{GlobalDef}
pub use Rattle.wasm_tree.specs.declared.module.Import.{Import}
pub use Rattle.wasm_tree.specs.declared.module.ImportDesc.{ImportDesc}
pub use Rattle.wasm_tree.specs.declared.module.LocalGroup.{LocalGroup}
pub use Rattle.wasm_tree.specs.declared.module.Module.{Module}
pub use Rattle.wasm_tree.specs.declared.space.Operand.{Operand}
pub use Rattle.wasm_tree.specs.declared.space.Space.{Space}
pub use Rattle.wasm_tree.specs.declared.space.Space.TheVariants.{DataSegments, ElementSegments, Functions, Globals, Memories, Tables, Types}
pub use Rattle.wasm_tree.specs.declared.types.BlockType.{BlockType}
pub use Rattle.wasm_tree.specs.declared.types.BlockType.TheVariants.{Value}
pub use Rattle.wasm_tree.specs.declared.types.FuncType.{FuncType}
pub use Rattle.wasm_tree.specs.declared.types.GlobalType.{GlobalType}
pub use Rattle.wasm_tree.specs.declared.types.Limits.{Limits}
pub use Rattle.wasm_tree.specs.declared.types.RefType.{RefType}
pub use Rattle.wasm_tree.specs.declared.types.TableType.{TableType}
pub use Rattle.wasm_tree.specs.declared.types.ValType.{ValType}
pub use Rattle.wasm_tree.specs.declared.types.ValType.TheVariants.{I32, I64, Ref}
pub use Rattle.wasm_tree.specs.declared.which.Which.{Which}
pub use Rattle.wasm_tree.specs.declared.which.Which.TheVariants.{Exports, Imports, InputBytes, Locals, Nesting, Parameters, Results, Trampolines}
