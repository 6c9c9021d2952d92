-- The canonical encodings of types, constant expressions and the items of sections encode them.
use Rattle.base_lists.proofs.Common.{◌≡◌, ℕ, ◌<◌, ◌^◌, List, [], ◌∷◌, ◌++◌, length, Bool, true, false, Option, Some, None, refl, arith, append_assoc, IsUtf8}
use Rattle.base_lists.proofs.Every.{every_of}
use Rattle.std.proofs.Common.{length-append}
use Rattle.wasm_bytes.specs.Prelude.{u32_text, s32_text, s64_text, sized_text, Then, Vector, Named}
use Rattle.wasm_tree_spec.specs.Prelude.{RefType, ValType, I32, I64, Ref, FuncType, Limits, TableType, GlobalType, BlockType, ImportDesc, Import, ExportDesc, Export, ConstExpr, GlobalDef, block_operands}
use Rattle.wasm_tree.specs.declared.types.RefType.TheVariants as ref
use Rattle.wasm_tree.specs.declared.types.BlockType.TheVariants as block
use Rattle.wasm_tree.specs.declared.module.ImportDesc.TheVariants as import
use Rattle.wasm_tree.specs.declared.module.ExportDesc.TheVariants as export
use Rattle.wasm_tree.specs.declared.module.ConstExpr.TheVariants as const
use Rattle.wasm_read_spec.specs.SpellingForms.{Coded}
use Rattle.wasm_read_spec.specs.Prelude.{SpellsVal, SpellsRef, SpellsFuncType, SpellsLimits, SpellsTable, SpellsGlobal, SpellsBlockType, SpellsConst, SpellsImport, SpellsGlobalDef, SpellsExport}
use Rattle.wasm_read_spec.specs.Values.{val_of_code as val_of, ref_of_code as ref_of, mut_of_code, limits_form, const_form}
use Rattle.wasm_read_spec.specs.Sections.{import_form, export_form}
use Rattle.wasm_write_spec.specs.PlainValues.{vector_text, ref_code, val_code, ref_text, val_text, func_type_text, max_text, limits_text, table_text, mutable_code, global_type_text, block_type_text, const_text, import_desc_text, import_text, global_text, export_desc_text, export_text}
use Rattle.base_lists.specs.Every.{Every}
use Rattle.wasm_write_proof.specs.Ranges.{spelled_operand, IsU32, MaxInRange, LimitsInRange, ConstInRange, ImportDescInRange, ImportInRange, ExportDescInRange, ExportInRange}
use Rattle.wasm_write_proof.proofs.Parts.{TextLaws, below, u32_some, u32_spells, index_spells, s32_spells, s64_spells, sized_spells, vector_spells}

-- ---- types

pub ref_spells : (t : RefType) → SpellsRef (ref_text t) t
unfolding ref_code ref_of
ref_spells ref.Func = (0x70, refl, refl)
ref_spells ref.Extern = (0x6F, refl, refl)

pub val_spells : (t : ValType) → SpellsVal (val_text t) t
unfolding val_code ref_code val_of
val_spells I32 = (0x7F, refl, refl)
val_spells I64 = (0x7E, refl, refl)
val_spells (Ref ref.Func) = (0x70, refl, refl)
val_spells (Ref ref.Extern) = (0x6F, refl, refl)

pub val_some : (t : ValType) → 0 < length (val_text t)
val_some t = omega arith

pub vals_spell : TextLaws → (ts : List ValType) → length (vector_text val_text ts) < 2 ^ 32 → Vector SpellsVal (vector_text val_text ts) ts
vals_spell laws ts few = vector_spells laws SpellsVal val_text ts val_some few (every_of (λ t. SpellsVal (val_text t) t) ts val_spells)

pub func_type_spells : TextLaws → (t : FuncType) → length (func_type_text t) < 2 ^ 32 → SpellsFuncType (func_type_text t) t
unfolding func_type_text
func_type_spells laws t few =
    let ps = vector_text val_text t.params in
    let rs = vector_text val_text t.results in
    let both = length-append ps rs in
    (ps ++ rs, (ps, rs, vals_spell laws t.params (omega (arith, few, both)), vals_spell laws t.results (omega (arith, few, both)), refl), refl)

pub func_type_some : (t : FuncType) → 0 < length (func_type_text t)
unfolding func_type_text
func_type_some t = omega arith

max_spells : TextLaws → (least : ℕ) (most : Option ℕ) → IsU32 least → MaxInRange most → SpellsLimits (max_text least most) (record { min = least; max = most })
unfolding limits_form
max_spells laws least None h k = (0x00, (0x00 ∷ [], u32_text least, refl, (least, u32_spells laws least h, refl), refl))
max_spells laws least (Some most) h k =
    (0x01, (0x01 ∷ [], u32_text least ++ u32_text most, refl, ((least, most), (u32_text least, u32_text most, u32_spells laws least h, u32_spells laws most k, refl), refl), refl))

max_some : (least : ℕ) (most : Option ℕ) → 0 < length (max_text least most)
max_some least None = omega arith
max_some least (Some most) = omega arith

pub limits_spells : TextLaws → (l : Limits) → LimitsInRange l → SpellsLimits (limits_text l) l
unfolding limits_text
limits_spells laws l h = max_spells laws l.min l.max h.0 h.1

pub limits_some : (l : Limits) → 0 < length (limits_text l)
unfolding limits_text
limits_some l = max_some l.min l.max

pub table_spells : TextLaws → (t : TableType) → LimitsInRange t.limits → SpellsTable (table_text t) t
unfolding table_text
table_spells laws t h = (ref_text t.ty, limits_text t.limits, ref_spells t.ty, limits_spells laws t.limits h, refl)

pub table_some : (t : TableType) → 0 < length (table_text t)
unfolding table_text
table_some t = omega arith

mut_spells : (b : Bool) → Coded mut_of_code (mutable_code b ∷ []) b
unfolding mut_of_code
mut_spells false = (0x00, refl, refl)
mut_spells true = (0x01, refl, refl)

pub global_type_spells : (g : GlobalType) → SpellsGlobal (global_type_text g) g
unfolding global_type_text
global_type_spells g = (val_text g.ty, mutable_code g.mutable ∷ [], val_spells g.ty, mut_spells g.mutable, refl)

pub block_type_spells : TextLaws → (t : BlockType) → Every (λ o. spelled_operand o ≡ true) (block_operands t) → SpellsBlockType (block_type_text t) t
unfolding block_type_text
block_type_spells laws block.Empty h = refl
block_type_spells laws (block.Value t) h = val_spells t
block_type_spells laws (block.Index n) h = index_spells laws n (below n h.0)

-- ---- constant expressions

pub const_spells : TextLaws → (c : ConstExpr) → ConstInRange c → SpellsConst (const_text c) c
unfolding const_text const_form
const_spells laws (const.I32 z) h = (0x41 ∷ s32_text z, 0x0B ∷ [], (0x41, (0x41 ∷ [], s32_text z, refl, (z, s32_spells laws z h, refl), refl)), refl, refl)
const_spells laws (const.I64 z) h = (0x42 ∷ s64_text z, 0x0B ∷ [], (0x42, (0x42 ∷ [], s64_text z, refl, (z, s64_spells laws z h, refl), refl)), refl, refl)
const_spells laws (const.Null t) h = (0xD0 ∷ ref_text t, 0x0B ∷ [], (0xD0, (0xD0 ∷ [], ref_text t, refl, (t, ref_spells t, refl), refl)), refl, refl)
const_spells laws (const.Func x) h = (0xD2 ∷ u32_text x, 0x0B ∷ [], (0xD2, (0xD2 ∷ [], u32_text x, refl, (x, u32_spells laws x h, refl), refl)), refl, refl)
const_spells laws (const.Global x) h = (0x23 ∷ u32_text x, 0x0B ∷ [], (0x23, (0x23 ∷ [], u32_text x, refl, (x, u32_spells laws x h, refl), refl)), refl, refl)

pub const_some : (c : ConstExpr) → 0 < length (const_text c)
unfolding const_text
const_some (const.I32 z) = omega arith
const_some (const.I64 z) = omega arith
const_some (const.Null t) = omega arith
const_some (const.Func x) = omega arith
const_some (const.Global x) = omega arith

-- ---- imports, globals, exports

pub named_spells : TextLaws → (text : List ℕ) → IsUtf8 text → length (sized_text text) < 2 ^ 32 → Named (sized_text text) text
named_spells laws text u few = (u, sized_spells laws text (omega (arith, few, length-append (u32_text (length text)) text)))

import_desc_spells : TextLaws → (d : ImportDesc) → ImportDescInRange d → (k : ℕ) × Then (λ b. b ≡ k ∷ []) (λ b. import_form k b d) (import_desc_text d)
unfolding import_desc_text import_form
import_desc_spells laws (import.Func ty) h = (0x00, (0x00 ∷ [], u32_text ty, refl, (ty, u32_spells laws ty h, refl), refl))
import_desc_spells laws (import.Table t) h = (0x01, (0x01 ∷ [], table_text t, refl, (t, table_spells laws t h, refl), refl))
import_desc_spells laws (import.Memory l) h = (0x02, (0x02 ∷ [], limits_text l, refl, (l, limits_spells laws l h, refl), refl))
import_desc_spells laws (import.Global g) h = (0x03, (0x03 ∷ [], global_type_text g, refl, (g, global_type_spells g, refl), refl))

three : (a b c : List ℕ) → length (a ++ b ++ c) < 2 ^ 32 → (length a < 2 ^ 32) × (length b < 2 ^ 32) × (length c < 2 ^ 32)
three a b c h = let p = length-append (a ++ b) c in let q = length-append a b in (omega (arith, h, p, q), omega (arith, h, p, q), omega (arith, h, p, q))

pub import_spells : TextLaws → (i : Import) → ImportInRange i → length (import_text i) < 2 ^ 32 → SpellsImport (import_text i) i
unfolding import_text
import_spells laws i h few =
    let a = sized_text i.«module» in
    let b = sized_text i.field in
    let c = import_desc_text i.desc in
    let s = three a b c few in
    (a, b ++ c, named_spells laws i.«module» h.0 s.0, (b, c, named_spells laws i.field h.1 s.1, import_desc_spells laws i.desc h.2, refl), append_assoc a b c)

sized_first : (a b c : List ℕ) → 0 < length (sized_text a ++ b ++ c)
sized_first a b c = omega (arith, u32_some (length a), length-append (sized_text a ++ b) c, length-append (sized_text a) b, length-append (u32_text (length a)) a)

pub import_some : (i : Import) → 0 < length (import_text i)
unfolding import_text
import_some i = sized_first i.«module» (sized_text i.field) (import_desc_text i.desc)

pub global_spells : TextLaws → (g : GlobalDef) → ConstInRange g.init → SpellsGlobalDef (global_text g) g
unfolding global_text
global_spells laws g h = (global_type_text g.ty, const_text g.init, global_type_spells g.ty, const_spells laws g.init h, refl)

pub global_some : (g : GlobalDef) → 0 < length (global_text g)
unfolding global_text global_type_text
global_some g = omega arith

export_desc_spells : TextLaws → (d : ExportDesc) → ExportDescInRange d → (k : ℕ) × Then (λ b. b ≡ k ∷ []) (λ b. export_form k b d) (export_desc_text d)
unfolding export_desc_text export_form
export_desc_spells laws (export.Func x) h = (0x00, (0x00 ∷ [], u32_text x, refl, (x, u32_spells laws x h, refl), refl))
export_desc_spells laws (export.Table x) h = (0x01, (0x01 ∷ [], u32_text x, refl, (x, u32_spells laws x h, refl), refl))
export_desc_spells laws (export.Memory x) h = (0x02, (0x02 ∷ [], u32_text x, refl, (x, u32_spells laws x h, refl), refl))
export_desc_spells laws (export.Global x) h = (0x03, (0x03 ∷ [], u32_text x, refl, (x, u32_spells laws x h, refl), refl))

export_desc_some : (d : ExportDesc) → 0 < length (export_desc_text d)
unfolding export_desc_text
export_desc_some (export.Func x) = omega arith
export_desc_some (export.Table x) = omega arith
export_desc_some (export.Memory x) = omega arith
export_desc_some (export.Global x) = omega arith

pub export_spells : TextLaws → (e : Export) → ExportInRange e → length (export_text e) < 2 ^ 32 → SpellsExport (export_text e) e
unfolding export_text
export_spells laws e h few =
    let a = sized_text e.name in
    let b = export_desc_text e.desc in
    (a, b, named_spells laws e.name h.0 (omega (arith, few, length-append a b)), export_desc_spells laws e.desc h.1, refl)

pub export_some : (e : Export) → 0 < length (export_text e)
unfolding export_text
export_some e = let k = export_desc_some e.desc in omega (arith, k, length-append (sized_text e.name) (export_desc_text e.desc))
