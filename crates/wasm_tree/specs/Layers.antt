-- What holds of each layer of an instruction: of the instruction itself, and of each one inside it.
use Rattle.std.specs.Prelude.{List, [], ◌∷◌}
use Rattle.wasm_tree.specs.declared.instr.Instr.{Instr, out-Instr, Row_of-Instr, end_of-Instr, more_of-Instr, Block', Loop', If'}
use Rattle.wasm_tree.specs.declared.instr.Instr.TheOpen.{Instr-F}
use Rattle.wasm_tree.specs.declared.instr.Instr.TheVariants.{Unreachable, Nop, Br, BrIf, BrTable, Return, Call, CallIndirect, Drop, Select, SelectTyped, LocalGet, LocalSet, LocalTee, GlobalGet}
use Rattle.wasm_tree.specs.declared.instr.Instr.TheVariants.{GlobalSet, TableGet, TableSet, Load, Store, MemorySize, MemoryGrow, I32Const, I64Const, Un, Bin, RefNull, RefIsNull, RefFunc, MemoryInit}
use Rattle.wasm_tree.specs.declared.instr.Instr.TheVariants.{DataDrop, MemoryCopy, MemoryFill, TableInit, ElemDrop, TableCopy, TableGrow, TableSize, TableFill}

-- `Q` holds of each layer of the instruction.
abbrev mutual
  pub Layers : (Instr-F Instr → Type 0) → Instr → Type 0
  Layers Q (Block' b s c) = Q (out-Instr (Block' b s c)) × RowLayers Q c
  Layers Q (Loop' b s c) = Q (out-Instr (Loop' b s c)) × RowLayers Q c
  Layers Q (If' b s c t d) = Q (out-Instr (If' b s c t d)) × RowLayers Q c × RowLayers Q d
  Layers Q Unreachable = Q (out-Instr Unreachable)
  Layers Q Nop = Q (out-Instr Nop)
  Layers Q (Br label) = Q (out-Instr (Br label))
  Layers Q (BrIf label) = Q (out-Instr (BrIf label))
  Layers Q (BrTable labels last) = Q (out-Instr (BrTable labels last))
  Layers Q Return = Q (out-Instr Return)
  Layers Q (Call func) = Q (out-Instr (Call func))
  Layers Q (CallIndirect ty table) = Q (out-Instr (CallIndirect ty table))
  Layers Q Drop = Q (out-Instr Drop)
  Layers Q Select = Q (out-Instr Select)
  Layers Q (SelectTyped types) = Q (out-Instr (SelectTyped types))
  Layers Q (LocalGet local) = Q (out-Instr (LocalGet local))
  Layers Q (LocalSet local) = Q (out-Instr (LocalSet local))
  Layers Q (LocalTee local) = Q (out-Instr (LocalTee local))
  Layers Q (GlobalGet global) = Q (out-Instr (GlobalGet global))
  Layers Q (GlobalSet global) = Q (out-Instr (GlobalSet global))
  Layers Q (TableGet table) = Q (out-Instr (TableGet table))
  Layers Q (TableSet table) = Q (out-Instr (TableSet table))
  Layers Q (Load op arg) = Q (out-Instr (Load op arg))
  Layers Q (Store op arg) = Q (out-Instr (Store op arg))
  Layers Q (MemorySize memory) = Q (out-Instr (MemorySize memory))
  Layers Q (MemoryGrow memory) = Q (out-Instr (MemoryGrow memory))
  Layers Q (I32Const value) = Q (out-Instr (I32Const value))
  Layers Q (I64Const value) = Q (out-Instr (I64Const value))
  Layers Q (Un op) = Q (out-Instr (Un op))
  Layers Q (Bin op) = Q (out-Instr (Bin op))
  Layers Q (RefNull ty) = Q (out-Instr (RefNull ty))
  Layers Q RefIsNull = Q (out-Instr RefIsNull)
  Layers Q (RefFunc func) = Q (out-Instr (RefFunc func))
  Layers Q (MemoryInit segment memory) = Q (out-Instr (MemoryInit segment memory))
  Layers Q (DataDrop segment) = Q (out-Instr (DataDrop segment))
  Layers Q (MemoryCopy to from) = Q (out-Instr (MemoryCopy to from))
  Layers Q (MemoryFill memory) = Q (out-Instr (MemoryFill memory))
  Layers Q (TableInit segment table) = Q (out-Instr (TableInit segment table))
  Layers Q (ElemDrop segment) = Q (out-Instr (ElemDrop segment))
  Layers Q (TableCopy to from) = Q (out-Instr (TableCopy to from))
  Layers Q (TableGrow table) = Q (out-Instr (TableGrow table))
  Layers Q (TableSize table) = Q (out-Instr (TableSize table))
  Layers Q (TableFill table) = Q (out-Instr (TableFill table))

  pub RowLayers : (Instr-F Instr → Type 0) → {n : _} → Row_of-Instr n → Type 0
  RowLayers Q end_of-Instr = Unit {0}
  RowLayers Q (more_of-Instr o r) = Layers Q o × RowLayers Q r

-- `Q` holds of each layer of each instruction.
abbrev pub ListLayers : (Instr-F Instr → Type 0) → List Instr → Type 0
ListLayers Q [] = Unit {0}
ListLayers Q (o ∷ os) = Layers Q o × ListLayers Q os
