-- What validity does not bound: the numbers of a tree that are no indices of its index spaces, and
-- its names.
use Rattle.std.proofs.Common.{IsTrue, IsUtf8}
use Rattle.wasm_tree_spec.specs.Prelude.{TableType, ImportDesc, Import, Export, ConstExpr, GlobalDef, ElemMode, ElemSeg, DataMode, DataSeg, LocalGroup, Func, Module}
use Rattle.index_remap.specs.declared.remap.Remap.{Remap}
use Rattle.index_remap.specs.Prelude.{declared, new_const, renumbered_tree}
use Rattle.wasm_write_proof.specs.Ranges.{all_numbers_in, IsU32, LimitsInRange, InRange}
use Rattle.wasm_bytes.specs.Prelude.{IsWithin}
use Rattle.wasm_tree.specs.declared.module.ImportDesc.TheVariants as import
use Rattle.wasm_tree.specs.declared.module.ConstExpr.TheVariants as const
use Rattle.wasm_tree.specs.declared.module.ElemMode.TheVariants as elem
use Rattle.wasm_tree.specs.declared.module.DataMode.TheVariants as segment
use Rattle.base_lists.specs.Every.{Every}

abbrev pub ConstNumberInRange : ConstExpr → Type 0
ConstNumberInRange (const.I32 z) = IsWithin 32 z
ConstNumberInRange (const.I64 z) = IsWithin 64 z
ConstNumberInRange (const.Null t) = Unit {0}
ConstNumberInRange (const.Func x) = Unit {0}
ConstNumberInRange (const.Global x) = Unit {0}

abbrev pub ImportLimitsInRange : ImportDesc → Type 0
ImportLimitsInRange (import.Func ty) = Unit {0}
ImportLimitsInRange (import.Table t) = LimitsInRange t.limits
ImportLimitsInRange (import.Memory l) = LimitsInRange l
ImportLimitsInRange (import.Global g) = Unit {0}

abbrev pub ImportNumbersInRange : Import → Type 0
ImportNumbersInRange i = IsUtf8 i.«module» × IsUtf8 i.field × ImportLimitsInRange i.desc

abbrev pub FuncNumbersInRange : Func → Type 0
FuncNumbersInRange f = Every (λ (g : LocalGroup). IsU32 g.count) f.locals × IsTrue (all_numbers_in f.body)

abbrev pub ElemOffsetInRange : ElemMode → Type 0
ElemOffsetInRange (elem.Active table offset) = ConstNumberInRange offset
ElemOffsetInRange elem.Passive = Unit {0}
ElemOffsetInRange elem.Declarative = Unit {0}

abbrev pub ElemNumbersInRange : ElemSeg → Type 0
ElemNumbersInRange s = ElemOffsetInRange s.mode × Every ConstNumberInRange s.items

abbrev pub DataOffsetInRange : DataMode → Type 0
DataOffsetInRange (segment.Active memory offset) = ConstNumberInRange offset
DataOffsetInRange segment.Passive = Unit {0}

pub record NumbersInRange (m : Module) : Type 0 where
  pub imports : Every ImportNumbersInRange m.imports
  pub funcs : Every FuncNumbersInRange m.funcs
  pub tables : Every (λ (t : TableType). LimitsInRange t.limits) m.tables
  pub mems : Every LimitsInRange m.mems
  pub globals : Every (λ (g : GlobalDef). ConstNumberInRange g.init) m.globals
  pub exports : Every (λ (e : Export). IsUtf8 e.name) m.exports
  pub elems : Every ElemNumbersInRange m.elems
  pub datas : Every (λ (s : DataSeg). DataOffsetInRange s.mode) m.datas

-- ---- what stays in range ----

-- A module in range has these numbers and names in range.
abbrev pub OwnNumbersAreInRange : Type 0
OwnNumbersAreInRange = (m : Module) → InRange m → NumbersInRange m

-- They stay in range when all indices are replaced.
abbrev pub RenumberedNumbersAreInRange : Type 0
RenumberedNumbersAreInRange = (r : Remap) (m : Module) → NumbersInRange m → NumbersInRange (renumbered_tree r m)

-- The number of a constant expression stays in range when its index is replaced.
abbrev pub ConstantNumbersAreInRange : Type 0
ConstantNumbersAreInRange = (r : Remap) (e : ConstExpr) → ConstNumberInRange e → ConstNumberInRange (new_const r e)

-- They stay in range when the functions are declared that `ref.func` names and nothing else
-- declares.
abbrev pub DeclaredNumbersAreInRange : Type 0
DeclaredNumbersAreInRange = (m : Module) → NumbersInRange m → NumbersInRange (declared m)
