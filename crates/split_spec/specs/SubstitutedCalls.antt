-- Code in which other code replaces each `call`, in blocks as well. Renumbering alone would not do:
-- a `call` and a `ref.func` of one function may need different indices, and a call may become two
-- instructions.
use Rattle.std.specs.Prelude.{ℕ, List, [], ◌∷◌}
use Rattle.std.specs.List.{flat_map}
use Rattle.wasm_tree_spec.specs.Prelude.{Instr, fold-Instr, Block, Loop, If, Unreachable, Nop, Br, BrIf, BrTable, Return, CallIndirect, Drop, Select, SelectTyped, LocalGet, LocalSet, LocalTee}
use Rattle.wasm_tree_spec.specs.Prelude.{GlobalGet, GlobalSet, TableGet, TableSet, Load, Store, MemorySize, MemoryGrow, I32Const, I64Const, Un, Bin, RefNull, RefIsNull, RefFunc, MemoryInit, DataDrop}
use Rattle.wasm_tree_spec.specs.Prelude.{MemoryCopy, MemoryFill, TableInit, ElemDrop, TableCopy, TableGrow, TableSize, TableFill}
use Rattle.wasm_tree.specs.declared.instr.Instr.TheOpen.{Instr-F}

-- what replaces an instruction, given what replaces each instruction inside it, and what `code`
-- has in place of a call of each function
abbrev pub calls_step : (ℕ → List Instr) → Instr-F (List Instr) → List Instr
calls_step code (Instr-F.Block ty body) = Block ty (flat_map (λ is. is) body) ∷ []
calls_step code (Instr-F.Loop ty body) = Loop ty (flat_map (λ is. is) body) ∷ []
calls_step code (Instr-F.If ty body other) = If ty (flat_map (λ is. is) body) (flat_map (λ is. is) other) ∷ []
calls_step code (Instr-F.Call func) = code func
calls_step code Instr-F.Unreachable = Unreachable ∷ []
calls_step code Instr-F.Nop = Nop ∷ []
calls_step code (Instr-F.Br label) = Br label ∷ []
calls_step code (Instr-F.BrIf label) = BrIf label ∷ []
calls_step code (Instr-F.BrTable labels last) = BrTable labels last ∷ []
calls_step code Instr-F.Return = Return ∷ []
calls_step code (Instr-F.CallIndirect ty table) = CallIndirect ty table ∷ []
calls_step code Instr-F.Drop = Drop ∷ []
calls_step code Instr-F.Select = Select ∷ []
calls_step code (Instr-F.SelectTyped types) = SelectTyped types ∷ []
calls_step code (Instr-F.LocalGet local) = LocalGet local ∷ []
calls_step code (Instr-F.LocalSet local) = LocalSet local ∷ []
calls_step code (Instr-F.LocalTee local) = LocalTee local ∷ []
calls_step code (Instr-F.GlobalGet global) = GlobalGet global ∷ []
calls_step code (Instr-F.GlobalSet global) = GlobalSet global ∷ []
calls_step code (Instr-F.TableGet table) = TableGet table ∷ []
calls_step code (Instr-F.TableSet table) = TableSet table ∷ []
calls_step code (Instr-F.Load op arg) = Load op arg ∷ []
calls_step code (Instr-F.Store op arg) = Store op arg ∷ []
calls_step code (Instr-F.MemorySize memory) = MemorySize memory ∷ []
calls_step code (Instr-F.MemoryGrow memory) = MemoryGrow memory ∷ []
calls_step code (Instr-F.I32Const value) = I32Const value ∷ []
calls_step code (Instr-F.I64Const value) = I64Const value ∷ []
calls_step code (Instr-F.Un op) = Un op ∷ []
calls_step code (Instr-F.Bin op) = Bin op ∷ []
calls_step code (Instr-F.RefNull ty) = RefNull ty ∷ []
calls_step code Instr-F.RefIsNull = RefIsNull ∷ []
calls_step code (Instr-F.RefFunc func) = RefFunc func ∷ []
calls_step code (Instr-F.MemoryInit segment memory) = MemoryInit segment memory ∷ []
calls_step code (Instr-F.DataDrop segment) = DataDrop segment ∷ []
calls_step code (Instr-F.MemoryCopy to from) = MemoryCopy to from ∷ []
calls_step code (Instr-F.MemoryFill memory) = MemoryFill memory ∷ []
calls_step code (Instr-F.TableInit segment table) = TableInit segment table ∷ []
calls_step code (Instr-F.ElemDrop segment) = ElemDrop segment ∷ []
calls_step code (Instr-F.TableCopy to from) = TableCopy to from ∷ []
calls_step code (Instr-F.TableGrow table) = TableGrow table ∷ []
calls_step code (Instr-F.TableSize table) = TableSize table ∷ []
calls_step code (Instr-F.TableFill table) = TableFill table ∷ []

-- what replaces an instruction
abbrev pub calls_in : (ℕ → List Instr) → Instr → List Instr
calls_in code = fold-Instr (List Instr) (calls_step code)

-- the code with each call replaced
abbrev pub with_calls : (ℕ → List Instr) → List Instr → List Instr
with_calls code = flat_map (calls_in code)
