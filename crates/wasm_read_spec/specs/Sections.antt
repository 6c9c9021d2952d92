-- The contents of the sections, except the code section (Core 2.0, 5.5).
use Rattle.std.specs.Prelude.{ℕ, List, ◌==◌}
use Rattle.wasm_bytes.specs.Prelude.{U32, Vector, Sized, Named}
use Rattle.wasm_tree_spec.specs.Prelude.{RefType, ImportDesc, Import, ExportDesc, Export, GlobalDef, ConstExpr, ElemMode, ElemSeg, DataSeg}
use Rattle.wasm_tree.specs.declared.types.RefType.TheVariants as ref
use Rattle.wasm_tree.specs.declared.module.ImportDesc.TheVariants as import
use Rattle.wasm_tree.specs.declared.module.ExportDesc.TheVariants as export
use Rattle.wasm_tree.specs.declared.module.ConstExpr.TheVariants as const
use Rattle.wasm_tree.specs.declared.module.ElemMode.TheVariants as elem
use Rattle.wasm_tree.specs.declared.module.DataMode.TheVariants as data'
use Rattle.wasm_read_spec.specs.SpellingForms.{Byte, Never, Both, MadeFrom, Chosen, When, After}
use Rattle.wasm_read_spec.specs.Values.{SpellsRef, SpellsLimits, SpellsTable, SpellsGlobal, SpellsConst}

-- An import (5.5.5): the kind byte decides what follows it.
unfoldable pub import_form : ℕ → List ℕ → ImportDesc → Type 0
import_form k =
    When (k == 0x00) (MadeFrom import.Func U32)
    (When (k == 0x01) (MadeFrom import.Table SpellsTable)
    (When (k == 0x02) (MadeFrom import.Memory SpellsLimits)
    (When (k == 0x03) (MadeFrom import.Global SpellsGlobal)
    Never)))

abbrev pub SpellsImport : List ℕ → Import → Type 0
SpellsImport bytes i = Both Named (Both Named (Chosen Byte import_form)) bytes (i.«module», (i.field, i.desc))

-- A defined global (5.5.9).
abbrev pub SpellsGlobalDef : List ℕ → GlobalDef → Type 0
SpellsGlobalDef bytes g = Both SpellsGlobal SpellsConst bytes (g.ty, g.init)

-- An export (5.5.10).
unfoldable pub export_form : ℕ → List ℕ → ExportDesc → Type 0
export_form k =
    When (k == 0x00) (MadeFrom export.Func U32)
    (When (k == 0x01) (MadeFrom export.Table U32)
    (When (k == 0x02) (MadeFrom export.Memory U32)
    (When (k == 0x03) (MadeFrom export.Global U32)
    Never)))

abbrev pub SpellsExport : List ℕ → Export → Type 0
SpellsExport bytes e = Both Named (Chosen Byte export_form) bytes (e.name, e.desc)

-- An element segment (5.5.12): a number decides between eight forms. A function index as an item is
-- the item `ref.func`.
abbrev pub FuncItems : List ℕ → List ConstExpr → Type 0
FuncItems = Vector (MadeFrom const.Func U32)

abbrev pub ConstItems : List ℕ → List ConstExpr → Type 0
ConstItems = Vector SpellsConst

abbrev pub elem_of : ElemMode → RefType → List ConstExpr → ElemSeg
elem_of m t xs = record { mode = m; ty = t; items = xs }

abbrev pub elem0 : ConstExpr × List ConstExpr → ElemSeg
elem0 p = elem_of (elem.Active 0 p.0) ref.Func p.1

abbrev pub elem1 : List ConstExpr → ElemSeg
elem1 xs = elem_of elem.Passive ref.Func xs

abbrev pub elem2 : ℕ × (ConstExpr × List ConstExpr) → ElemSeg
elem2 p = elem_of (elem.Active p.0 p.1.0) ref.Func p.1.1

abbrev pub elem3 : List ConstExpr → ElemSeg
elem3 xs = elem_of elem.Declarative ref.Func xs

abbrev pub elem5 : RefType × List ConstExpr → ElemSeg
elem5 p = elem_of elem.Passive p.0 p.1

abbrev pub elem6 : ℕ × (ConstExpr × (RefType × List ConstExpr)) → ElemSeg
elem6 p = elem_of (elem.Active p.0 p.1.0) p.1.1.0 p.1.1.1

abbrev pub elem7 : RefType × List ConstExpr → ElemSeg
elem7 p = elem_of elem.Declarative p.0 p.1

unfoldable pub elem_form : ℕ → List ℕ → ElemSeg → Type 0
elem_form n =
    When (n == 0) (MadeFrom elem0 (Both SpellsConst FuncItems))
    (When (n == 1) (MadeFrom elem1 (After 0x00 FuncItems))
    (When (n == 2) (MadeFrom elem2 (Both U32 (Both SpellsConst (After 0x00 FuncItems))))
    (When (n == 3) (MadeFrom elem3 (After 0x00 FuncItems))
    (When (n == 4) (MadeFrom elem0 (Both SpellsConst ConstItems))
    (When (n == 5) (MadeFrom elem5 (Both SpellsRef ConstItems))
    (When (n == 6) (MadeFrom elem6 (Both U32 (Both SpellsConst (Both SpellsRef ConstItems))))
    (When (n == 7) (MadeFrom elem7 (Both SpellsRef ConstItems))
    Never)))))))

abbrev pub SpellsElem : List ℕ → ElemSeg → Type 0
SpellsElem = Chosen U32 elem_form

-- A data segment (5.5.14): a number decides between three forms, each of which ends with a vector
-- of bytes.
abbrev pub data0 : ConstExpr × List ℕ → DataSeg
data0 p = record { mode = data'.Active 0 p.0; bytes = p.1 }

abbrev pub data1 : List ℕ → DataSeg
data1 xs = record { mode = data'.Passive; bytes = xs }

abbrev pub data2 : ℕ × (ConstExpr × List ℕ) → DataSeg
data2 p = record { mode = data'.Active p.0 p.1.0; bytes = p.1.1 }

unfoldable pub data_form : ℕ → List ℕ → DataSeg → Type 0
data_form n =
    When (n == 0) (MadeFrom data0 (Both SpellsConst Sized))
    (When (n == 1) (MadeFrom data1 Sized)
    (When (n == 2) (MadeFrom data2 (Both U32 (Both SpellsConst Sized)))
    Never))

abbrev pub SpellsData : List ℕ → DataSeg → Type 0
SpellsData = Chosen U32 data_form
