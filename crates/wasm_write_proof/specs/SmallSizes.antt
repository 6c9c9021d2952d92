-- Each vector of a module and each size in its canonical encoding is below 2^32 (Core 2.0, 5.1.3
-- and 5.5.2).
use Rattle.std.specs.Prelude.{ℕ, ◌^◌, ◌<◌, List, length, Bool, true, ◌&&◌, IsTrue}
use Rattle.std.specs.List.{list_all}
use Rattle.wasm_tree_spec.specs.Prelude.{FuncType, Instr, fold-Instr, Import, Export, ElemSeg, DataSeg, Func, Module}
use Rattle.wasm_tree.specs.declared.instr.Instr.TheOpen.{Instr-F}
use Rattle.base_lists.specs.Every.{Every}
use Rattle.wasm_bytes.specs.Prelude.{u32_text}
use Rattle.wasm_write_spec.specs.PlainValues.{vector_text, func_type_text, import_text, table_text, limits_text, global_text, export_text, elem_text, data_text}
use Rattle.wasm_write_spec.specs.PlainCode.{code_text, entry_text}
use Rattle.wasm_write_proof.specs.Ranges.{small}

abbrev pub IsShort : {A : Type 0} → List A → Type 0
IsShort xs = length xs < 2 ^ 32

-- Each br_table has fewer than 2^32 labels, and each typed select fewer than 2^32 types.
abbrev pub lists_step : Instr-F Bool → Bool
lists_step Instr-F.Unreachable = true
lists_step Instr-F.Nop = true
lists_step (Instr-F.Block ty body) = list_all (λ b. b) body
lists_step (Instr-F.Loop ty body) = list_all (λ b. b) body
lists_step (Instr-F.If ty body other) = list_all (λ b. b) body && list_all (λ b. b) other
lists_step (Instr-F.Br label) = true
lists_step (Instr-F.BrIf label) = true
lists_step (Instr-F.BrTable labels last) = small (length labels)
lists_step Instr-F.Return = true
lists_step (Instr-F.Call func) = true
lists_step (Instr-F.CallIndirect ty table) = true
lists_step Instr-F.Drop = true
lists_step Instr-F.Select = true
lists_step (Instr-F.SelectTyped types) = small (length types)
lists_step (Instr-F.LocalGet local) = true
lists_step (Instr-F.LocalSet local) = true
lists_step (Instr-F.LocalTee local) = true
lists_step (Instr-F.GlobalGet global) = true
lists_step (Instr-F.GlobalSet global) = true
lists_step (Instr-F.TableGet table) = true
lists_step (Instr-F.TableSet table) = true
lists_step (Instr-F.Load op arg) = true
lists_step (Instr-F.Store op arg) = true
lists_step (Instr-F.MemorySize memory) = true
lists_step (Instr-F.MemoryGrow memory) = true
lists_step (Instr-F.I32Const value) = true
lists_step (Instr-F.I64Const value) = true
lists_step (Instr-F.Un op) = true
lists_step (Instr-F.Bin op) = true
lists_step (Instr-F.RefNull ty) = true
lists_step Instr-F.RefIsNull = true
lists_step (Instr-F.RefFunc func) = true
lists_step (Instr-F.MemoryInit segment memory) = true
lists_step (Instr-F.DataDrop segment) = true
lists_step (Instr-F.MemoryCopy to from) = true
lists_step (Instr-F.MemoryFill memory) = true
lists_step (Instr-F.TableInit segment table) = true
lists_step (Instr-F.ElemDrop segment) = true
lists_step (Instr-F.TableCopy to from) = true
lists_step (Instr-F.TableGrow table) = true
lists_step (Instr-F.TableSize table) = true
lists_step (Instr-F.TableFill table) = true

abbrev pub has_short_lists : Instr → Bool
has_short_lists = fold-Instr Bool lists_step

abbrev pub all_have_short_lists : List Instr → Bool
all_have_short_lists = list_all has_short_lists

-- A section of items: their number and the size of its content are below 2^32.
pub record SmallSection {A : Type 0} (text : A → List ℕ) (xs : List A) : Type 0 where
  pub items : IsShort xs
  pub size : IsShort (vector_text text xs)

abbrev pub FuncTypeIsSmall : FuncType → Type 0
FuncTypeIsSmall t = IsShort t.params × IsShort t.results

abbrev pub ImportIsSmall : Import → Type 0
ImportIsSmall i = IsShort i.«module» × IsShort i.field

-- The groups of locals, the lists in the body, and the size of the code entry are below 2^32.
abbrev pub FuncIsSmall : Func → Type 0
FuncIsSmall f = IsShort f.locals × IsTrue (all_have_short_lists f.body) × IsShort (code_text f)

-- Each vector of the module and each size in its canonical encoding is below 2^32.
pub record SmallSizes (m : Module) : Type 0 where
  pub types : SmallSection func_type_text m.types
  pub imports : SmallSection import_text m.imports
  pub func_types : SmallSection (λ (f : Func). u32_text f.ty) m.funcs
  pub tables : SmallSection table_text m.tables
  pub mems : SmallSection limits_text m.mems
  pub globals : SmallSection global_text m.globals
  pub exports : SmallSection export_text m.exports
  pub elems : SmallSection elem_text m.elems
  pub codes : SmallSection entry_text m.funcs
  pub datas : SmallSection data_text m.datas
  pub each_type : Every FuncTypeIsSmall m.types
  pub each_import : Every ImportIsSmall m.imports
  pub each_export : Every (λ (e : Export). IsShort e.name) m.exports
  pub each_elem : Every (λ (s : ElemSeg). IsShort s.items) m.elems
  pub each_func : Every FuncIsSmall m.funcs
  pub each_data : Every (λ (s : DataSeg). IsShort s.bytes) m.datas
