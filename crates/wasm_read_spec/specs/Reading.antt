-- Reading functions on lists of bytes, with the first fault that they meet. They define the first
-- fault of a file.
use Rattle.std.specs.Prelude.{◌≡◌, ℕ, zero, suc, ◌+◌, ◌-◌, List, [], ◌∷◌, ◌++◌, length, Bool, Result, Ok, Err, nat_lt, nat_le, ◌==◌, ◌&&◌, if◌then◌else◌, ℤ, pos, negsuc}
use Rattle.std.specs.Borrow.{Bor}
use Rattle.wasm_bytes.specs.declared.cursor.Wrong.{Wrong}
use Rattle.wasm_bytes.specs.Prelude.{◌>>=◌, unsigned_at, signed_at}
use Rattle.wasm_bytes.specs.Reading.{name_at as text_at, sized_at as content_at, byte_at as first_at}
use Rattle.wasm_tree_spec.specs.Prelude.{Which, Parameters, Results, Locals, ValType, RefType, FuncType, Limits, TableType, GlobalType, BlockType, ConstExpr, ImportDesc, Import, ExportDesc, Export}
use Rattle.wasm_tree_spec.specs.Prelude.{GlobalDef, ElemSeg, DataSeg, LocalGroup, limit}
use Rattle.wasm_tree.specs.declared.types.BlockType.TheVariants as bt
use Rattle.wasm_tree.specs.declared.module.ConstExpr.TheVariants as const
use Rattle.wasm_tree.specs.declared.module.ImportDesc.TheVariants as import
use Rattle.wasm_tree.specs.declared.module.ExportDesc.TheVariants as export
use Rattle.wasm_read_spec.specs.declared.fault.Fault.{Fault}
use Rattle.wasm_read_spec.specs.declared.fault.Fault.TheVariants.{NoMemory, Malformed, Unsupported, Limit}
use Rattle.wasm_read_spec.specs.Values.{val_of_code, ref_of_code, mut_of_code, at_least, between}
use Rattle.wasm_read_spec.specs.Sections.{elem0, elem1, elem2, elem3, elem5, elem6, elem7, data0, data1, data2}

-- A reader of the front of some bytes: it gives the value with the bytes after it, or the fault.
abbrev pub Reader : Type 0 → Type 0
Reader A = List ℕ → Result (A × List ℕ) Fault

-- ---- the result of a call is that of the reading function, unless memory ran out

abbrev pub Fails : {Y : Type 0} → Fault → Result Y Fault → Type 0
Fails NoMemory read = Unit {0}
Fails Malformed read = read ≡ Err Malformed
Fails Unsupported read = read ≡ Err Unsupported
Fails (Limit which) read = read ≡ Err (Limit which)

-- The same, with the bytes left.
abbrev pub Gives : {A : Type 0} → Result A Fault → List ℕ → Result (A × List ℕ) Fault → Type 0
Gives (Ok x) rest read = read ≡ Ok (x, rest)
Gives (Err e) rest read = Fails e read

-- The same for a slice.
abbrev pub GivesSlice : Result (Bor (List ℕ)) Fault → List ℕ → Result (List ℕ × List ℕ) Fault → Type 0
GivesSlice (Ok s) rest read = read ≡ Ok (s.now, rest)
GivesSlice (Err e) rest read = Fails e read

-- The same when all of the bytes are read.
abbrev pub GivesAll : {A : Type 0} → Result A Fault → Result A Fault → Type 0
GivesAll (Ok x) read = read ≡ Ok x
GivesAll (Err e) read = Fails e read

-- ---- readers, and combinations of them

abbrev pub or_malformed : {A : Type 0} → Result A Wrong → Result A Fault
or_malformed (Ok x) = Ok x
or_malformed (Err e) = Err Malformed

abbrev pub byte_at : Reader ℕ
byte_at bs = or_malformed (first_at bs)

abbrev pub u32_at : Reader ℕ
u32_at bs = or_malformed (unsigned_at 32 bs)

abbrev pub s32_at : Reader ℤ
s32_at bs = or_malformed (signed_at 32 bs)

abbrev pub s64_at : Reader ℤ
s64_at bs = or_malformed (signed_at 64 bs)

abbrev pub name_at : Reader (List ℕ)
name_at bs = or_malformed (text_at bs)

-- A length and as many bytes.
abbrev pub sized_at : Reader (List ℕ)
sized_at bs = or_malformed (content_at bs)

abbrev pub just_at : {A : Type 0} → A → Reader A
just_at x bs = Ok (x, bs)

abbrev pub fault_at : {A : Type 0} → Fault → Reader A
fault_at e bs = Err e

abbrev pub pair_at : {A B : Type 0} → Reader A → Reader B → Reader (A × B)
pair_at one two bs = one bs >>= (λ x. two x.1 >>= (λ y. Ok ((x.0, y.0), y.1)))

abbrev pub mapped_at : {A B : Type 0} → (A → B) → Reader A → Reader B
mapped_at make reader bs = reader bs >>= (λ x. Ok (make x.0, x.1))

abbrev pub chosen_at : {K A : Type 0} → Reader K → (K → Reader A) → Reader A
chosen_at first next bs = first bs >>= (λ k. next k.0 k.1)

abbrev pub when_at : {A : Type 0} → Bool → Reader A → Reader A → Reader A
when_at test one other bs = if test then one bs else other bs

-- The value that one byte encodes.
abbrev pub coded_at : {A : Type 0} → (ℕ → Result A Fault) → Reader A
coded_at code bs = byte_at bs >>= (λ b. code b.0 >>= (λ x. Ok (x, b.1)))

-- This byte.
unfoldable pub tag_at : ℕ → Reader (Unit {0})
tag_at tag bs = byte_at bs >>= (λ b. if b.0 == tag then Ok (tt, b.1) else Err Malformed)

abbrev pub tagged_at : {A : Type 0} → ℕ → Reader A → Reader A
tagged_at tag reader bs = tag_at tag bs >>= (λ u. reader u.1)

abbrev pub closed_at : {A : Type 0} → ℕ → Reader A → Reader A
closed_at tag reader bs = reader bs >>= (λ x. tag_at tag x.1 >>= (λ u. Ok (x.0, u.1)))

-- The given number of items. Each is read in a state and leads to the next state.
unfoldable pub each_from : {A E : Type 0} → (ℕ → List ℕ → Result (A × List ℕ) E) → (ℕ → A → ℕ) → ℕ → ℕ → List ℕ → Result (List A × List ℕ) E
each_from item next zero state bs = Ok ([], bs)
each_from item next (suc n) state bs = item state bs >>= (λ x. each_from item next n (next state x.0) x.1 >>= (λ xs. Ok (x.0 ∷ xs.0, xs.1)))

-- The given number of items, without a state.
abbrev pub each_at : {A : Type 0} → Reader A → ℕ → Reader (List A)
each_at {A} item n bs = each_from {A = A} (λ s. item) (λ s x. 0) n 0 bs

-- A count, and the items.
unfoldable pub list_at : {A : Type 0} → Reader A → Reader (List A)
list_at item bs = u32_at bs >>= (λ n. each_at item n.0 n.1)

-- A count, which is compared with its limit before any item, and the items.
unfoldable pub vector_at : {A : Type 0} → Which → Reader A → Reader (List A)
vector_at which item bs = u32_at bs >>= (λ n. if nat_lt (limit which) n.0 then Err (Limit which) else each_at item n.0 n.1)

-- Nothing may follow.
unfoldable pub whole_at : {A : Type 0} → Reader A → List ℕ → Result A Fault
whole_at reader bs = reader bs >>= (λ r. if length r.1 == 0 then Ok r.0 else Err Malformed)

-- The list with these items in front.
abbrev pub with_front : {A E : Type 0} → List A → Result (List A × List ℕ) E → Result (List A × List ℕ) E
with_front front (Ok r) = Ok (front ++ r.0, r.1)
with_front front (Err e) = Err e

-- ---- types and constant expressions

unfoldable pub val_at : Reader ValType
val_at = coded_at val_of_code

unfoldable pub ref_at : Reader RefType
ref_at = coded_at ref_of_code

abbrev pub func_type_of : List ValType × List ValType → FuncType
func_type_of p = record { params = p.0; results = p.1 }

unfoldable pub func_type_at : Reader FuncType
func_type_at = tagged_at 0x60 (mapped_at func_type_of (pair_at (vector_at Parameters val_at) (vector_at Results val_at)))

abbrev pub limits_from : ℕ → Reader Limits
limits_from b = when_at (b == 0x00) (mapped_at at_least u32_at) (when_at (b == 0x01) (mapped_at between (pair_at u32_at u32_at)) (fault_at Malformed))

unfoldable pub limits_at : Reader Limits
limits_at = chosen_at byte_at limits_from

abbrev pub table_of : RefType × Limits → TableType
table_of p = record { ty = p.0; limits = p.1 }

unfoldable pub table_at : Reader TableType
table_at = mapped_at table_of (pair_at ref_at limits_at)

unfoldable pub mut_at : Reader Bool
mut_at = coded_at mut_of_code

abbrev pub global_of : ValType × Bool → GlobalType
global_of p = record { ty = p.0; mutable = p.1 }

unfoldable pub global_at : Reader GlobalType
global_at = mapped_at global_of (pair_at val_at mut_at)

abbrev pub index_of : ℤ × List ℕ → Result (BlockType × List ℕ) Fault
index_of (pos n, rest) = Ok (bt.Index n, rest)
index_of (negsuc n, rest) = Err Malformed

unfoldable pub block_type_at : Reader BlockType
block_type_at [] = Err Malformed
block_type_at (b ∷ bs) =
    if b == 0x40 then Ok (bt.Empty, bs)
    else (if nat_le 0x7B b && nat_le b 0x7F then mapped_at bt.Value val_at (b ∷ bs)
    else (if nat_le 0x6F b && nat_le b 0x70 then mapped_at bt.Value val_at (b ∷ bs)
    else (or_malformed (signed_at 33 (b ∷ bs)) >>= index_of)))

-- The fault of a constant expression that begins with this byte: `Unsupported` if it is the opcode
-- of f32.const or f64.const, or FD.
abbrev pub const_fault : ℕ → Fault
const_fault b = if b == 0x43 then Unsupported else (if b == 0x44 then Unsupported else (if b == 0xFD then Unsupported else Malformed))

abbrev pub const_from : ℕ → Reader ConstExpr
const_from b =
    when_at (b == 0x41) (mapped_at const.I32 s32_at)
    (when_at (b == 0x42) (mapped_at const.I64 s64_at)
    (when_at (b == 0xD0) (mapped_at const.Null ref_at)
    (when_at (b == 0xD2) (mapped_at const.Func u32_at)
    (when_at (b == 0x23) (mapped_at const.Global u32_at)
    (fault_at (const_fault b))))))

unfoldable pub const_at : Reader ConstExpr
const_at = closed_at 0x0B (chosen_at byte_at const_from)

-- ---- the contents of sections

abbrev pub import_from : ℕ → Reader ImportDesc
import_from k =
    when_at (k == 0x00) (mapped_at import.Func u32_at)
    (when_at (k == 0x01) (mapped_at import.Table table_at)
    (when_at (k == 0x02) (mapped_at import.Memory limits_at)
    (when_at (k == 0x03) (mapped_at import.Global global_at)
    (fault_at Malformed))))

unfoldable pub import_desc_at : Reader ImportDesc
import_desc_at = chosen_at byte_at import_from

abbrev pub import_of : List ℕ × (List ℕ × ImportDesc) → Import
import_of p = record { «module» = p.0; field = p.1.0; desc = p.1.1 }

unfoldable pub import_at : Reader Import
import_at = mapped_at import_of (pair_at name_at (pair_at name_at import_desc_at))

abbrev pub global_def_of : GlobalType × ConstExpr → GlobalDef
global_def_of p = record { ty = p.0; init = p.1 }

unfoldable pub global_def_at : Reader GlobalDef
global_def_at = mapped_at global_def_of (pair_at global_at const_at)

abbrev pub export_from : ℕ → Reader ExportDesc
export_from k =
    when_at (k == 0x00) (mapped_at export.Func u32_at)
    (when_at (k == 0x01) (mapped_at export.Table u32_at)
    (when_at (k == 0x02) (mapped_at export.Memory u32_at)
    (when_at (k == 0x03) (mapped_at export.Global u32_at)
    (fault_at Malformed))))

unfoldable pub export_desc_at : Reader ExportDesc
export_desc_at = chosen_at byte_at export_from

abbrev pub export_of : List ℕ × ExportDesc → Export
export_of p = record { name = p.0; desc = p.1 }

unfoldable pub export_at : Reader Export
export_at = mapped_at export_of (pair_at name_at export_desc_at)

abbrev pub func_item_at : Reader ConstExpr
func_item_at = mapped_at const.Func u32_at

unfoldable pub func_items_at : Reader (List ConstExpr)
func_items_at = list_at func_item_at

abbrev pub const_items_at : Reader (List ConstExpr)
const_items_at = list_at const_at

abbrev pub elem_from : ℕ → Reader ElemSeg
elem_from n =
    when_at (n == 0) (mapped_at elem0 (pair_at const_at func_items_at))
    (when_at (n == 1) (mapped_at elem1 (tagged_at 0x00 func_items_at))
    (when_at (n == 2) (mapped_at elem2 (pair_at u32_at (pair_at const_at (tagged_at 0x00 func_items_at))))
    (when_at (n == 3) (mapped_at elem3 (tagged_at 0x00 func_items_at))
    (when_at (n == 4) (mapped_at elem0 (pair_at const_at const_items_at))
    (when_at (n == 5) (mapped_at elem5 (pair_at ref_at const_items_at))
    (when_at (n == 6) (mapped_at elem6 (pair_at u32_at (pair_at const_at (pair_at ref_at const_items_at))))
    (when_at (n == 7) (mapped_at elem7 (pair_at ref_at const_items_at))
    (fault_at Malformed))))))))

unfoldable pub elem_at : Reader ElemSeg
elem_at = chosen_at u32_at elem_from

abbrev pub data_from : ℕ → Reader DataSeg
data_from n =
    when_at (n == 0) (mapped_at data0 (pair_at const_at sized_at))
    (when_at (n == 1) (mapped_at data1 sized_at)
    (when_at (n == 2) (mapped_at data2 (pair_at u32_at (pair_at const_at sized_at)))
    (fault_at Malformed)))

unfoldable pub data_at : Reader DataSeg
data_at = chosen_at u32_at data_from

-- ---- locals

-- A group of locals, with `sum` locals before it.
unfoldable pub local_at : ℕ → Reader LocalGroup
local_at sum bs = u32_at bs >>= (λ n. if nat_lt (limit Locals - sum) n.0 then Err (Limit Locals) else (val_at n.1 >>= (λ t. Ok (record { count = n.0; ty = t.0 }, t.1))))

abbrev pub with_group : ℕ → LocalGroup → ℕ
with_group sum g = sum + g.count

unfoldable pub locals_at : Reader (List LocalGroup)
locals_at bs = u32_at bs >>= (λ n. each_from local_at with_group n.0 0 n.1)
