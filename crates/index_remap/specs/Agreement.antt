-- When an index of one context agrees with its entry in a map, in another context (WebAssembly Core
-- 2.0, section 3.1.1).
use Rattle.std.specs.Prelude.{◌≡◌, ℕ, ◌<◌, Bool, true, false, List, Option, Some, slice_get, slice_index, option_and_then}
use Rattle.base_lists.specs.Every.{Every}
use Rattle.wasm_tree_spec.specs.Prelude.{Space, Types, Functions, Tables, Memories, Globals, ElementSegments, DataSegments, operands, ValType, FuncType, Instr}
use Rattle.wasm_tree.specs.declared.instr.Instr.TheOpen.{Instr-F}
use Rattle.wasm_valid_bodies.specs.Typing.{Context}
use Rattle.index_remap.specs.declared.remap.Remap.{Remap}
pub use Rattle.base_lists.specs.Options.{Keeps}

-- The type of a function, if the function and its type exist.
abbrev pub func_type : Context → ℕ → Option FuncType
func_type c f = option_and_then (slice_get c.types) (slice_get c.funcs f)

-- ---- one index and its entry ----

abbrev pub TypeAgrees : Remap → Context → Context → ℕ → Type 0
TypeAgrees m c d i = Keeps (slice_get c.types i) (slice_get d.types (slice_index m.types i))

-- The functions have equal types; the type index of the second need not be the entry of that of the
-- first.
abbrev pub FuncAgrees : Remap → Context → Context → ℕ → Type 0
FuncAgrees m c d i = Keeps (func_type c i) (func_type d (slice_index m.funcs i))

abbrev pub TableAgrees : Remap → Context → Context → ℕ → Type 0
TableAgrees m c d i = Keeps (slice_get c.tables i) (slice_get d.tables (slice_index m.tables i))

abbrev pub MemoryAgrees : Remap → Context → Context → ℕ → Type 0
MemoryAgrees m c d i = i < c.memories → slice_index m.mems i < d.memories

abbrev pub GlobalAgrees : Remap → Context → Context → ℕ → Type 0
GlobalAgrees m c d i = Keeps (slice_get c.globals i) (slice_get d.globals (slice_index m.globals i))

abbrev pub ElemAgrees : Remap → Context → Context → ℕ → Type 0
ElemAgrees m c d i = Keeps (slice_get c.elems i) (slice_get d.elems (slice_index m.elems i))

abbrev pub DataAgrees : Remap → Context → Context → ℕ → Type 0
DataAgrees m c d i = i < c.datas → slice_index m.datas i < d.datas

-- If `ref.func` may name a function, it may name its entry.
abbrev pub RefAgrees : Remap → Context → Context → ℕ → Type 0
RefAgrees m c d i = slice_get c.named i ≡ Some true → slice_get d.named (slice_index m.funcs i) ≡ Some true

-- ---- the frame ----

-- The locals, results and labels are the same; a map of indices does not change them.
pub record SameFrame (c d : Context) : Type 0 where
  pub locals : c.locals ≡ d.locals
  pub results : c.results ≡ d.results
  pub labels : c.labels ≡ d.labels

abbrev pub labelled : Context → List (List ValType) → Context
labelled c ls = record c { labels = ls }

-- ---- the indices that one instruction names ----

-- The index agrees with its entry. For a function that is called, both have the same type. For a
-- function that `ref.func` names, it may name the entry if it may name the index.
abbrev pub OperandAgrees : Remap → Context → Context → (space : Space) → (called : Bool) → (index : ℕ) → Type 0
OperandAgrees m c d Types called i = TypeAgrees m c d i
OperandAgrees m c d Functions true i = FuncAgrees m c d i
OperandAgrees m c d Functions false i = RefAgrees m c d i
OperandAgrees m c d Tables called i = TableAgrees m c d i
OperandAgrees m c d Memories called i = MemoryAgrees m c d i
OperandAgrees m c d Globals called i = GlobalAgrees m c d i
OperandAgrees m c d ElementSegments called i = ElemAgrees m c d i
OperandAgrees m c d DataSegments called i = DataAgrees m c d i

-- Each index that the layer itself names agrees with its entry.
abbrev pub LayerAgrees : Remap → Context → Context → Instr-F Instr → Type 0
LayerAgrees m c d layer = Every (λ o. OperandAgrees m c d o.space o.called o.index) (operands layer)
