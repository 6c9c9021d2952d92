-- Types and constant expressions (Core 2.0, 5.3 and 5.4.9).
use Rattle.std.specs.Prelude.{◌≡◌, ℕ, List, [], ◌∷◌, Bool, true, false, Result, Ok, Err, Some, None, nat_le, ◌==◌, ◌&&◌, if◌then◌else◌, pos}
use Rattle.wasm_bytes.specs.Prelude.{Signed, U32, Vector}
use Rattle.wasm_tree_spec.specs.Prelude.{RefType, ValType, I32, I64, Ref, FuncType, Limits, TableType, GlobalType, BlockType, ConstExpr, limit, Parameters, Results}
use Rattle.wasm_tree.specs.declared.types.RefType.TheVariants as ref
use Rattle.wasm_tree.specs.declared.types.BlockType.TheVariants as bt
use Rattle.wasm_tree.specs.declared.module.ConstExpr.TheVariants as const
use Rattle.wasm_read_spec.specs.declared.fault.Fault.{Fault}
use Rattle.wasm_read_spec.specs.declared.fault.Fault.TheVariants.{Malformed, Unsupported}
use Rattle.wasm_read_spec.specs.SpellingForms.{S32, S64, Byte, Coded, Never, Both, MadeFrom, Chosen, When, After, Closed, Few, Any}

-- A value type (5.3.4); f32, f64 and v128 are known but not supported.
unfoldable pub val_of_code : ℕ → Result ValType Fault
val_of_code b =
    if b == 0x7F then Ok I32
    else (if b == 0x7E then Ok I64
    else (if b == 0x70 then Ok (Ref ref.Func)
    else (if b == 0x6F then Ok (Ref ref.Extern)
    else (if nat_le 0x7B b && nat_le b 0x7D then Err Unsupported
    else Err Malformed))))

abbrev pub SpellsVal : List ℕ → ValType → Type 0
SpellsVal = Coded val_of_code

-- A reference type (5.3.3).
unfoldable pub ref_of_code : ℕ → Result RefType Fault
ref_of_code b = if b == 0x70 then Ok ref.Func else (if b == 0x6F then Ok ref.Extern else Err Malformed)

abbrev pub SpellsRef : List ℕ → RefType → Type 0
SpellsRef = Coded ref_of_code

-- A function type (5.3.6).
abbrev pub SpellsFuncType : List ℕ → FuncType → Type 0
SpellsFuncType bytes t = After 0x60 (Both (Vector SpellsVal) (Vector SpellsVal)) bytes (t.params, t.results)

abbrev pub SmallFuncType : FuncType → Type 0
SmallFuncType t = Few (limit Parameters) Any t.params × Few (limit Results) Any t.results

-- Limits (5.3.7).
abbrev pub at_least : ℕ → Limits
at_least n = record { min = n; max = None }

abbrev pub between : ℕ × ℕ → Limits
between p = record { min = p.0; max = Some p.1 }

unfoldable pub limits_form : ℕ → List ℕ → Limits → Type 0
limits_form b = When (b == 0x00) (MadeFrom at_least U32) (When (b == 0x01) (MadeFrom between (Both U32 U32)) Never)

abbrev pub SpellsLimits : List ℕ → Limits → Type 0
SpellsLimits = Chosen Byte limits_form

-- A table type (5.3.9).
abbrev pub SpellsTable : List ℕ → TableType → Type 0
SpellsTable bytes t = Both SpellsRef SpellsLimits bytes (t.ty, t.limits)

-- The mutability of a global, and a global type (5.3.10).
unfoldable pub mut_of_code : ℕ → Result Bool Fault
mut_of_code b = if b == 0x00 then Ok false else (if b == 0x01 then Ok true else Err Malformed)

abbrev pub SpellsGlobal : List ℕ → GlobalType → Type 0
SpellsGlobal bytes g = Both SpellsVal (Coded mut_of_code) bytes (g.ty, g.mutable)

-- A block type (5.4.1).
abbrev pub SpellsBlockType : List ℕ → BlockType → Type 0
SpellsBlockType bytes bt.Empty = bytes ≡ 0x40 ∷ []
SpellsBlockType bytes (bt.Value t) = SpellsVal bytes t
SpellsBlockType bytes (bt.Index n) = Signed 33 bytes (pos n)

-- A constant expression: one of these instructions, and `end`.
unfoldable pub const_form : ℕ → List ℕ → ConstExpr → Type 0
const_form b =
    When (b == 0x41) (MadeFrom const.I32 S32)
    (When (b == 0x42) (MadeFrom const.I64 S64)
    (When (b == 0xD0) (MadeFrom const.Null SpellsRef)
    (When (b == 0xD2) (MadeFrom const.Func U32)
    (When (b == 0x23) (MadeFrom const.Global U32)
    Never))))

abbrev pub SpellsConst : List ℕ → ConstExpr → Type 0
SpellsConst = Closed 0x0B (Chosen Byte const_form)
