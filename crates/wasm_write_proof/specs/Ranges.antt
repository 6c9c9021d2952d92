-- What holds of each tree that a program has, because its numbers have types and its names are
-- text: each number is in the range of its type, and each name is UTF-8.
use Rattle.std.specs.Prelude.{◌≡◌, ℕ, ◌^◌, ◌<◌, List, Bool, true, ◌&&◌, if◌then◌else◌, nat_lt, nat_eq, Option, Some, None, ℤ, pos, negsuc, IsTrue, IsUtf8}
use Rattle.std.specs.List.{list_all}
use Rattle.wasm_bytes.specs.Prelude.{IsWithin}
use Rattle.wasm_tree_spec.specs.Prelude.{Limits, TableType, Space, Memories, Operand, Instr, fold-Instr, ImportDesc, Import, ExportDesc, Export, ConstExpr, GlobalDef, ElemMode, ElemSeg, DataMode}
use Rattle.wasm_tree_spec.specs.Prelude.{DataSeg, LocalGroup, Func, Module, same_space, held, mapped_all, operands_pass, all_operands_pass}
use Rattle.wasm_tree.specs.declared.instr.Instr.{out-Instr}
use Rattle.wasm_tree.specs.declared.instr.Instr.TheOpen.{Instr-F}
use Rattle.wasm_tree.specs.declared.module.ImportDesc.TheVariants as import
use Rattle.wasm_tree.specs.declared.module.ExportDesc.TheVariants as export
use Rattle.wasm_tree.specs.declared.module.ConstExpr.TheVariants as const
use Rattle.wasm_tree.specs.declared.module.ElemMode.TheVariants as elem
use Rattle.wasm_tree.specs.declared.module.DataMode.TheVariants as segment
use Rattle.base_lists.specs.Every.{Every}

-- ---- bodies, as tests

abbrev pub small : ℕ → Bool
small n = nat_lt n (2 ^ 32)

abbrev pub small_signed : ℕ → ℤ → Bool
small_signed bits (pos n) = nat_lt n (2 ^ bits)
small_signed bits (negsuc n) = nat_lt n (2 ^ bits)

-- Whether the index of the operand is below 2^32.
abbrev pub small_operand : Operand → Bool
small_operand o = small o.index

-- Whether the numbers of a layer that are no operands are in range: labels, locals, constants,
-- alignments and offsets.
abbrev pub small_numbers : {X : Type 0} → Instr-F X → Bool
small_numbers Instr-F.Unreachable = true
small_numbers Instr-F.Nop = true
small_numbers (Instr-F.Block ty body) = true
small_numbers (Instr-F.Loop ty body) = true
small_numbers (Instr-F.If ty body other) = true
small_numbers (Instr-F.Br label) = small label
small_numbers (Instr-F.BrIf label) = small label
small_numbers (Instr-F.BrTable labels last) = list_all small labels && small last
small_numbers Instr-F.Return = true
small_numbers (Instr-F.Call func) = true
small_numbers (Instr-F.CallIndirect ty table) = true
small_numbers Instr-F.Drop = true
small_numbers Instr-F.Select = true
small_numbers (Instr-F.SelectTyped types) = true
small_numbers (Instr-F.LocalGet local) = small local
small_numbers (Instr-F.LocalSet local) = small local
small_numbers (Instr-F.LocalTee local) = small local
small_numbers (Instr-F.GlobalGet global) = true
small_numbers (Instr-F.GlobalSet global) = true
small_numbers (Instr-F.TableGet table) = true
small_numbers (Instr-F.TableSet table) = true
small_numbers (Instr-F.Load op arg) = small arg.align && small arg.offset
small_numbers (Instr-F.Store op arg) = small arg.align && small arg.offset
small_numbers (Instr-F.MemorySize memory) = true
small_numbers (Instr-F.MemoryGrow memory) = true
small_numbers (Instr-F.I32Const value) = small_signed 31 value
small_numbers (Instr-F.I64Const value) = small_signed 63 value
small_numbers (Instr-F.Un op) = true
small_numbers (Instr-F.Bin op) = true
small_numbers (Instr-F.RefNull ty) = true
small_numbers Instr-F.RefIsNull = true
small_numbers (Instr-F.RefFunc func) = true
small_numbers (Instr-F.MemoryInit segment memory) = true
small_numbers (Instr-F.DataDrop segment) = true
small_numbers (Instr-F.MemoryCopy to from) = true
small_numbers (Instr-F.MemoryFill memory) = true
small_numbers (Instr-F.TableInit segment table) = true
small_numbers (Instr-F.ElemDrop segment) = true
small_numbers (Instr-F.TableCopy to from) = true
small_numbers (Instr-F.TableGrow table) = true
small_numbers (Instr-F.TableSize table) = true
small_numbers (Instr-F.TableFill table) = true

abbrev pub number_step : Instr-F Bool → Bool
number_step layer = small_numbers layer && list_all (λ b. b) (held layer)

-- Whether the numbers of the instruction that are no operands are in range.
abbrev pub numbers_in : Instr → Bool
numbers_in = fold-Instr Bool number_step

abbrev pub all_numbers_in : List Instr → Bool
all_numbers_in = list_all numbers_in

-- The numbers of an instruction that are no operands are in range exactly if its own are and those
-- of the instructions inside it.
abbrev pub NumbersInside : Type 0
NumbersInside = (i : Instr) → numbers_in i ≡ small_numbers (out-Instr i) && all_numbers_in (held (out-Instr i))

-- Other indices do not change whether the numbers of code that are no operands are in range.
abbrev pub NumbersStay : Type 0
NumbersStay = (f : Space → ℕ → ℕ) (code : List Instr) → all_numbers_in (mapped_all f code) ≡ all_numbers_in code

abbrev pub in_range : Instr → Bool
in_range i = operands_pass small_operand i && numbers_in i

abbrev pub all_in_range : List Instr → Bool
all_in_range is = all_operands_pass small_operand is && all_numbers_in is

-- Whether the operand can be encoded in a module with at most one memory: it is memory 0, or an
-- index below 2^32 in another index space.
abbrev pub spelled_operand : Operand → Bool
spelled_operand o = if same_space o.space Memories then nat_eq o.index 0 else small o.index

abbrev pub spellable : Instr → Bool
spellable i = operands_pass spelled_operand i && numbers_in i

abbrev pub all_spellable : List Instr → Bool
all_spellable is = all_operands_pass spelled_operand is && all_numbers_in is

-- ---- the contents of sections

-- Each value that bytes encode by `P` has the property `K`.
abbrev pub EncodesOnly : {A : Type 0} → (A → Type 0) → (List ℕ → A → Type 0) → Type 0
EncodesOnly {A} K P = (bytes : List ℕ) (x : A) → P bytes x → K x

abbrev pub IsU32 : ℕ → Type 0
IsU32 n = n < 2 ^ 32

abbrev pub MaxInRange : Option ℕ → Type 0
MaxInRange None = Unit {0}
MaxInRange (Some n) = IsU32 n

abbrev pub LimitsInRange : Limits → Type 0
LimitsInRange l = IsU32 l.min × MaxInRange l.max

abbrev pub ConstInRange : ConstExpr → Type 0
ConstInRange (const.I32 z) = IsWithin 32 z
ConstInRange (const.I64 z) = IsWithin 64 z
ConstInRange (const.Null t) = Unit {0}
ConstInRange (const.Func x) = IsU32 x
ConstInRange (const.Global x) = IsU32 x

abbrev pub ImportDescInRange : ImportDesc → Type 0
ImportDescInRange (import.Func ty) = IsU32 ty
ImportDescInRange (import.Table t) = LimitsInRange t.limits
ImportDescInRange (import.Memory l) = LimitsInRange l
ImportDescInRange (import.Global g) = Unit {0}

abbrev pub ImportInRange : Import → Type 0
ImportInRange i = IsUtf8 i.«module» × IsUtf8 i.field × ImportDescInRange i.desc

abbrev pub ExportDescInRange : ExportDesc → Type 0
ExportDescInRange (export.Func x) = IsU32 x
ExportDescInRange (export.Table x) = IsU32 x
ExportDescInRange (export.Memory x) = IsU32 x
ExportDescInRange (export.Global x) = IsU32 x

abbrev pub ExportInRange : Export → Type 0
ExportInRange e = IsUtf8 e.name × ExportDescInRange e.desc

abbrev pub ElemModeInRange : ElemMode → Type 0
ElemModeInRange (elem.Active table offset) = IsU32 table × ConstInRange offset
ElemModeInRange elem.Passive = Unit {0}
ElemModeInRange elem.Declarative = Unit {0}

abbrev pub ElemInRange : ElemSeg → Type 0
ElemInRange s = ElemModeInRange s.mode × Every ConstInRange s.items

abbrev pub DataModeInRange : DataMode → Type 0
DataModeInRange (segment.Active memory offset) = IsU32 memory × ConstInRange offset
DataModeInRange segment.Passive = Unit {0}

abbrev pub TypeInRange : Func → Type 0
TypeInRange f = IsU32 f.ty

abbrev pub CodeInRange : Func → Type 0
CodeInRange f = Every (λ (g : LocalGroup). IsU32 g.count) f.locals × IsTrue (all_in_range f.body)

abbrev pub FuncInRange : Func → Type 0
FuncInRange f = TypeInRange f × CodeInRange f

-- Each number of the module is in the range of its type, and each name is UTF-8.
pub record InRange (m : Module) : Type 0 where
  pub imports : Every ImportInRange m.imports
  pub funcs : Every FuncInRange m.funcs
  pub tables : Every (λ (t : TableType). LimitsInRange t.limits) m.tables
  pub mems : Every LimitsInRange m.mems
  pub globals : Every (λ (g : GlobalDef). ConstInRange g.init) m.globals
  pub exports : Every ExportInRange m.exports
  pub start : MaxInRange m.start
  pub elems : Every ElemInRange m.elems
  pub datas : Every (λ (s : DataSeg). DataModeInRange s.mode) m.datas
