-- The indices that an instruction itself names, each with its index space (WebAssembly Core 2.0,
-- sections 2.4 and 2.5.1). Labels and locals are in no index space of the module, so they do not
-- count; nor does what instructions inside a block name.
use Rattle.std.specs.Prelude.{ℕ, Bool, true, false, ◌&&◌, List, [], ◌∷◌, ◌++◌, map, ◌||◌}
use Rattle.std.specs.List.{list_all, list_any, cons_option}
use Rattle.wasm_tree.specs.declared.space.Space.{Space}
use Rattle.wasm_tree.specs.declared.space.Space.TheVariants.{Types, Functions, Tables, Memories, Globals, ElementSegments, DataSegments}
use Rattle.wasm_tree.specs.declared.space.Operand.{Operand}
use Rattle.wasm_tree.specs.declared.space.Operands.{Operands}
use Rattle.wasm_tree.specs.declared.types.BlockType.{BlockType}
use Rattle.wasm_tree.specs.declared.types.BlockType.TheVariants as block
use Rattle.wasm_tree.specs.declared.instr.MemArg.{MemArg}
use Rattle.wasm_tree.specs.declared.instr.Instr.{Instr, fold-Instr, out-Instr}
use Rattle.wasm_tree.specs.declared.instr.Instr.TheOpen.{Instr-F}
use Rattle.wasm_tree.specs.declared.instr.Instr.TheVariants as instr

-- ---- index spaces ----

abbrev pub same_space : Space → Space → Bool
same_space Types Types = true
same_space Functions Functions = true
same_space Tables Tables = true
same_space Memories Memories = true
same_space Globals Globals = true
same_space ElementSegments ElementSegments = true
same_space DataSegments DataSegments = true
same_space _ _ = false

-- ---- operands ----

-- The operand with this index, for an instruction other than `call`.
abbrev pub named : Space → ℕ → Operand
named space index = record { space = space; index = index; called = false }

-- The operand of a `call`.
abbrev pub called : ℕ → Operand
called func = record { space = Functions; index = func; called = true }

abbrev pub block_operands : BlockType → List Operand
block_operands block.Empty = []
block_operands (block.Value t) = []
block_operands (block.Index ty) = named Types ty ∷ []

-- The operands of a layer.
abbrev pub operands : {X : Type 0} → Instr-F X → List Operand
operands Instr-F.Unreachable = []
operands Instr-F.Nop = []
operands (Instr-F.Block ty body) = block_operands ty
operands (Instr-F.Loop ty body) = block_operands ty
operands (Instr-F.If ty body other) = block_operands ty
operands (Instr-F.Br label) = []
operands (Instr-F.BrIf label) = []
operands (Instr-F.BrTable labels last) = []
operands Instr-F.Return = []
operands (Instr-F.Call func) = called func ∷ []
operands (Instr-F.CallIndirect ty table) = named Types ty ∷ named Tables table ∷ []
operands Instr-F.Drop = []
operands Instr-F.Select = []
operands (Instr-F.SelectTyped types) = []
operands (Instr-F.LocalGet local) = []
operands (Instr-F.LocalSet local) = []
operands (Instr-F.LocalTee local) = []
operands (Instr-F.GlobalGet global) = named Globals global ∷ []
operands (Instr-F.GlobalSet global) = named Globals global ∷ []
operands (Instr-F.TableGet table) = named Tables table ∷ []
operands (Instr-F.TableSet table) = named Tables table ∷ []
operands (Instr-F.Load op arg) = named Memories arg.memory ∷ []
operands (Instr-F.Store op arg) = named Memories arg.memory ∷ []
operands (Instr-F.MemorySize memory) = named Memories memory ∷ []
operands (Instr-F.MemoryGrow memory) = named Memories memory ∷ []
operands (Instr-F.I32Const value) = []
operands (Instr-F.I64Const value) = []
operands (Instr-F.Un op) = []
operands (Instr-F.Bin op) = []
operands (Instr-F.RefNull ty) = []
operands Instr-F.RefIsNull = []
operands (Instr-F.RefFunc func) = named Functions func ∷ []
operands (Instr-F.MemoryInit segment memory) = named DataSegments segment ∷ named Memories memory ∷ []
operands (Instr-F.DataDrop segment) = named DataSegments segment ∷ []
operands (Instr-F.MemoryCopy to from) = named Memories to ∷ named Memories from ∷ []
operands (Instr-F.MemoryFill memory) = named Memories memory ∷ []
operands (Instr-F.TableInit segment table) = named ElementSegments segment ∷ named Tables table ∷ []
operands (Instr-F.ElemDrop segment) = named ElementSegments segment ∷ []
operands (Instr-F.TableCopy to from) = named Tables to ∷ named Tables from ∷ []
operands (Instr-F.TableGrow table) = named Tables table ∷ []
operands (Instr-F.TableSize table) = named Tables table ∷ []
operands (Instr-F.TableFill table) = named Tables table ∷ []

abbrev pub operands_of : Instr → List Operand
operands_of i = operands (out-Instr i)

-- The operands that the program returns, as a list.
abbrev pub listed : Operands → List Operand
listed all = cons_option all.first (cons_option all.second [])

-- ---- instructions with new indices ----

abbrev pub map_block : (Space → ℕ → ℕ) → BlockType → BlockType
map_block f block.Empty = block.Empty
map_block f (block.Value t) = block.Value t
map_block f (block.Index ty) = block.Index (f Types ty)

abbrev pub map_arg : (Space → ℕ → ℕ) → MemArg → MemArg
map_arg f arg = record arg { memory = f Memories arg.memory }

-- The layer with the indices that `f` gives. The instructions inside it stay as they are.
abbrev pub map_operands : (Space → ℕ → ℕ) → Instr-F Instr → Instr
map_operands f Instr-F.Unreachable = instr.Unreachable
map_operands f Instr-F.Nop = instr.Nop
map_operands f (Instr-F.Block ty body) = instr.Block (map_block f ty) body
map_operands f (Instr-F.Loop ty body) = instr.Loop (map_block f ty) body
map_operands f (Instr-F.If ty body other) = instr.If (map_block f ty) body other
map_operands f (Instr-F.Br label) = instr.Br label
map_operands f (Instr-F.BrIf label) = instr.BrIf label
map_operands f (Instr-F.BrTable labels last) = instr.BrTable labels last
map_operands f Instr-F.Return = instr.Return
map_operands f (Instr-F.Call func) = instr.Call (f Functions func)
map_operands f (Instr-F.CallIndirect ty table) = instr.CallIndirect (f Types ty) (f Tables table)
map_operands f Instr-F.Drop = instr.Drop
map_operands f Instr-F.Select = instr.Select
map_operands f (Instr-F.SelectTyped types) = instr.SelectTyped types
map_operands f (Instr-F.LocalGet local) = instr.LocalGet local
map_operands f (Instr-F.LocalSet local) = instr.LocalSet local
map_operands f (Instr-F.LocalTee local) = instr.LocalTee local
map_operands f (Instr-F.GlobalGet global) = instr.GlobalGet (f Globals global)
map_operands f (Instr-F.GlobalSet global) = instr.GlobalSet (f Globals global)
map_operands f (Instr-F.TableGet table) = instr.TableGet (f Tables table)
map_operands f (Instr-F.TableSet table) = instr.TableSet (f Tables table)
map_operands f (Instr-F.Load op arg) = instr.Load op (map_arg f arg)
map_operands f (Instr-F.Store op arg) = instr.Store op (map_arg f arg)
map_operands f (Instr-F.MemorySize memory) = instr.MemorySize (f Memories memory)
map_operands f (Instr-F.MemoryGrow memory) = instr.MemoryGrow (f Memories memory)
map_operands f (Instr-F.I32Const value) = instr.I32Const value
map_operands f (Instr-F.I64Const value) = instr.I64Const value
map_operands f (Instr-F.Un op) = instr.Un op
map_operands f (Instr-F.Bin op) = instr.Bin op
map_operands f (Instr-F.RefNull ty) = instr.RefNull ty
map_operands f Instr-F.RefIsNull = instr.RefIsNull
map_operands f (Instr-F.RefFunc func) = instr.RefFunc (f Functions func)
map_operands f (Instr-F.MemoryInit segment memory) = instr.MemoryInit (f DataSegments segment) (f Memories memory)
map_operands f (Instr-F.DataDrop segment) = instr.DataDrop (f DataSegments segment)
map_operands f (Instr-F.MemoryCopy to from) = instr.MemoryCopy (f Memories to) (f Memories from)
map_operands f (Instr-F.MemoryFill memory) = instr.MemoryFill (f Memories memory)
map_operands f (Instr-F.TableInit segment table) = instr.TableInit (f ElementSegments segment) (f Tables table)
map_operands f (Instr-F.ElemDrop segment) = instr.ElemDrop (f ElementSegments segment)
map_operands f (Instr-F.TableCopy to from) = instr.TableCopy (f Tables to) (f Tables from)
map_operands f (Instr-F.TableGrow table) = instr.TableGrow (f Tables table)
map_operands f (Instr-F.TableSize table) = instr.TableSize (f Tables table)
map_operands f (Instr-F.TableFill table) = instr.TableFill (f Tables table)

-- The instruction with the indices that `f` gives, also in the instructions inside it.
abbrev pub mapped : (Space → ℕ → ℕ) → Instr → Instr
mapped f = fold-Instr Instr (map_operands f)

abbrev pub mapped_all : (Space → ℕ → ℕ) → List Instr → List Instr
mapped_all f = map (mapped f)

-- ---- tests of operands ----

-- The list of what a layer has in the places of the instructions inside it.
abbrev pub held : {X : Type 0} → Instr-F X → List X
held Instr-F.Unreachable = []
held Instr-F.Nop = []
held (Instr-F.Block ty body) = body
held (Instr-F.Loop ty body) = body
held (Instr-F.If ty body other) = body ++ other
held (Instr-F.Br label) = []
held (Instr-F.BrIf label) = []
held (Instr-F.BrTable labels last) = []
held Instr-F.Return = []
held (Instr-F.Call func) = []
held (Instr-F.CallIndirect ty table) = []
held Instr-F.Drop = []
held Instr-F.Select = []
held (Instr-F.SelectTyped types) = []
held (Instr-F.LocalGet local) = []
held (Instr-F.LocalSet local) = []
held (Instr-F.LocalTee local) = []
held (Instr-F.GlobalGet global) = []
held (Instr-F.GlobalSet global) = []
held (Instr-F.TableGet table) = []
held (Instr-F.TableSet table) = []
held (Instr-F.Load op arg) = []
held (Instr-F.Store op arg) = []
held (Instr-F.MemorySize memory) = []
held (Instr-F.MemoryGrow memory) = []
held (Instr-F.I32Const value) = []
held (Instr-F.I64Const value) = []
held (Instr-F.Un op) = []
held (Instr-F.Bin op) = []
held (Instr-F.RefNull ty) = []
held Instr-F.RefIsNull = []
held (Instr-F.RefFunc func) = []
held (Instr-F.MemoryInit segment memory) = []
held (Instr-F.DataDrop segment) = []
held (Instr-F.MemoryCopy to from) = []
held (Instr-F.MemoryFill memory) = []
held (Instr-F.TableInit segment table) = []
held (Instr-F.ElemDrop segment) = []
held (Instr-F.TableCopy to from) = []
held (Instr-F.TableGrow table) = []
held (Instr-F.TableSize table) = []
held (Instr-F.TableFill table) = []

-- Whether each operand of the layer passes, and each instruction inside it did.
abbrev pub all_pass_step : (Operand → Bool) → Instr-F Bool → Bool
all_pass_step test layer = list_all test (operands layer) && list_all (λ passed. passed) (held layer)

-- Whether each operand of the instruction, and of those inside it, passes.
abbrev pub operands_pass : (Operand → Bool) → Instr → Bool
operands_pass test = fold-Instr Bool (all_pass_step test)

abbrev pub all_operands_pass : (Operand → Bool) → List Instr → Bool
all_operands_pass test = list_all (operands_pass test)

-- Whether some operand of the layer passes, or some instruction inside it did.
abbrev pub any_pass_step : (Operand → Bool) → Instr-F Bool → Bool
any_pass_step test layer = list_any test (operands layer) || list_any (λ passed. passed) (held layer)

-- Whether some operand of the instruction, or of one inside it, passes.
abbrev pub operand_passes : (Operand → Bool) → Instr → Bool
operand_passes test = fold-Instr Bool (any_pass_step test)

abbrev pub any_operand_passes : (Operand → Bool) → List Instr → Bool
any_operand_passes test = list_any (operand_passes test)
