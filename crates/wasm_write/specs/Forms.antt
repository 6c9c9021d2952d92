-- How an instruction is written.
use Rattle.std.specs.Prelude.{◌≡◌, ℕ, List, [], ◌∷◌, ◌++◌, Bool, true, false, IsTrue}
use Rattle.wasm_bytes.specs.Prelude.{u32_text}
use Rattle.wasm_tree_spec.specs.Prelude.{Instr, uses_data_in}
use Rattle.wasm_tree.specs.declared.instr.Instr.TheVariants as instr
use Rattle.wasm_write_proof.specs.Ranges.{IsU32, in_range}
use Rattle.wasm_write_spec.specs.PlainValues.{vector_text, ref_text, val_text}
use Rattle.wasm_write_spec.specs.PlainCode.{instr_text, mem_arg_text}
use Rattle.wasm_write.specs.declared.forms.Form.{Form}
use Rattle.wasm_write.specs.declared.forms.Form.TheVariants as form

-- The instruction has this encoding, names a data segment if `used`, and is in range if its numbers
-- are.
pub record IsSpelled (i : Instr) (bytes : List ℕ) (used : Bool) (numbers : Type 0) : Type 0 where
  pub text : instr_text i ≡ bytes
  pub uses : uses_data_in i ≡ used
  pub range : numbers → IsTrue (in_range i)

-- The instruction is written in this form.
abbrev pub IsForm : Form → Instr → Type 0
IsForm (form.Block ty body) i = i ≡ instr.Block ty.now body.now
IsForm (form.Loop ty body) i = i ≡ instr.Loop ty.now body.now
IsForm (form.If ty body other) i = i ≡ instr.If ty.now body.now other.now
IsForm (form.Branches labels last) i = i ≡ instr.BrTable labels.now last
IsForm (form.CallIndirect ty table) i = IsSpelled i ((0x11 ∷ u32_text ty) ++ u32_text table) false (IsU32 ty × IsU32 table)
IsForm (form.SelectTyped types) i = IsSpelled i (0x1C ∷ vector_text val_text types.now) false Unit
IsForm (form.I32Const value) i = i ≡ instr.I32Const value
IsForm (form.I64Const value) i = i ≡ instr.I64Const value
IsForm (form.RefNull ty) i = IsSpelled i (0xD0 ∷ ref_text ty) false Unit
IsForm (form.MemoryInit segment memory) i = IsSpelled i ((0xFC ∷ 8 ∷ u32_text segment) ++ u32_text memory) true (IsU32 segment × IsU32 memory)
IsForm (form.DataDrop segment) i = IsSpelled i (0xFC ∷ 9 ∷ u32_text segment) true (IsU32 segment)
IsForm (form.Bare opcode) i = IsSpelled i (opcode ∷ []) false Unit
IsForm (form.Index opcode x) i = IsSpelled i (opcode ∷ u32_text x) false (IsU32 x)
IsForm (form.Access opcode arg) i = IsSpelled i (opcode ∷ mem_arg_text arg.now) false (IsU32 arg.now.align × IsU32 arg.now.offset × IsU32 arg.now.memory)
IsForm (form.Prefixed opcode x) i = IsSpelled i (0xFC ∷ opcode ∷ u32_text x) false (IsU32 x)
IsForm (form.PrefixedPair opcode x y) i = IsSpelled i ((0xFC ∷ opcode ∷ u32_text x) ++ u32_text y) false (IsU32 x × IsU32 y)
