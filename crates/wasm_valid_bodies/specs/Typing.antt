-- When a body is well typed: there is a list of stacks, one before, between and after its
-- instructions (WebAssembly Core 2.0, sections 3.3.8 and 3.3.9).
use Rattle.std.specs.Prelude.{◌≡◌, ℕ, ◌^◌, Bool, true, false, ◌&&◌, nat_lt, nat_le, List, [], ◌∷◌, ◌++◌, map, reverse, Option, Some, None, slice_get, option_map, ◌⊎◌}
use Rattle.base_lists.specs.Options.{◌>>=◌}
use Rattle.wasm_tree_spec.specs.Prelude.{RefType, ValType, I32, I64, Ref, FuncType, BlockType, Value, GlobalType, MemArg, Instr, Row_of-Instr, end_of-Instr, more_of-Instr, Unreachable, Nop, Block'}
use Rattle.wasm_tree_spec.specs.Prelude.{Loop', If', Br, BrIf, BrTable, Return, Call, CallIndirect, Drop, Select, SelectTyped, LocalGet, LocalSet, LocalTee, GlobalGet, GlobalSet, TableGet, TableSet}
use Rattle.wasm_tree_spec.specs.Prelude.{Load, Store, MemorySize, MemoryGrow, I32Const, I64Const, Un, Bin, RefNull, RefIsNull, RefFunc, MemoryInit, DataDrop, MemoryCopy, MemoryFill, TableInit}
use Rattle.wasm_tree_spec.specs.Prelude.{ElemDrop, TableCopy, TableGrow, TableSize, TableFill, same_ref, read_width, store_width}
use Rattle.wasm_tree.specs.declared.types.RefType.TheVariants.{Func, Extern}
use Rattle.wasm_tree.specs.declared.types.BlockType.TheVariants.{Empty, Index}
use Rattle.wasm_valid_bodies.specs.Ops.{un_operand, un_result, bin_operand, bin_result, load_type, store_type}
pub use Rattle.base_lists.specs.Options.{only}

-- The type of an operand; `None` is the bottom (section 3.3, the operand types of instruction
-- types).
abbrev pub Operand : Type 0
Operand = Option ValType

-- The types of the operands, the topmost first.
abbrev pub Stack : Type 0
Stack = List Operand

-- The bottom matches every type.
abbrev pub Matches : Operand → Operand → Type 0
Matches None t = Unit {0}
Matches (Some a) t = Some a ≡ t

-- The lists have equal length and match position by position.
abbrev pub AllMatch : Stack → List ValType → Type 0
AllMatch [] [] = Unit {0}
AllMatch [] (t ∷ ts) = ⊥
AllMatch (x ∷ xs) [] = ⊥
AllMatch (x ∷ xs) (t ∷ ts) = Matches x (Some t) × AllMatch xs ts

abbrev pub EachMatches : Stack → List (List ValType) → Type 0
EachMatches xs [] = Unit {0}
EachMatches xs (l ∷ ls) = AllMatch xs (reverse l) × EachMatches xs ls

-- The operands of these types. In a list of types the topmost is the last.
abbrev pub operands : List ValType → Stack
operands ts = map Some (reverse ts)

abbrev pub IsNumber : Operand → Type 0
IsNumber None = Unit {0}
IsNumber (Some I32) = Unit {0}
IsNumber (Some I64) = Unit {0}
IsNumber (Some (Ref r)) = ⊥

abbrev pub IsReference : Operand → Type 0
IsReference None = Unit {0}
IsReference (Some I32) = ⊥
IsReference (Some I64) = ⊥
IsReference (Some (Ref r)) = Unit {0}

-- The type of an instruction: what it does to the stack (section 3.3).
pub data Effect : Type 0 where
  -- [ps] to [rs]
  Gives : (ps rs : List ValType) → Effect
  -- [ps] to anything
  Leaves : (ps : List ValType) → Effect
  -- [t] to []
  Drops : Effect
  -- [t t i32] to [t], for a number type t
  Selects : Effect
  -- [t] to [i32], for a reference type t
  TestsNull : Effect
  -- [ps i32] to anything, for operands ps that match each of these lists
  Branches : (ls : List (List ValType)) → Effect

-- An instruction of this type leads from the stack `s` to the stack `t`.
abbrev pub Acts : Effect → Stack → Stack → Type 0
Acts (Gives ps rs) s t =
    (args rest : Stack) × (s ≡ args ++ rest) × AllMatch args (reverse ps) × (t ≡ operands rs ++ rest)
Acts (Leaves ps) s t = (args rest : Stack) × (s ≡ args ++ rest) × AllMatch args (reverse ps)
Acts Drops s t = (x : Operand) × (s ≡ x ∷ t)
Acts Selects s t =
    (x b a u : Operand) × (rest : Stack) × (s ≡ x ∷ b ∷ a ∷ rest) × Matches x (Some I32) × Matches b u × Matches a u × IsNumber u × (t ≡ u ∷ rest)
Acts TestsNull s t = (x : Operand) × (rest : Stack) × (s ≡ x ∷ rest) × IsReference x × (t ≡ Some I32 ∷ rest)
Acts (Branches ls) s t =
    (x : Operand) × (args rest : Stack) × (s ≡ x ∷ (args ++ rest)) × Matches x (Some I32) × EachMatches args ls

pub record Signature : Type 0 where
  pub params : List ValType
  pub results : List ValType

-- The context: what an instruction can name; the innermost label is the first (section 3.1.1).
pub record Context : Type 0 where
  pub types : List FuncType
  -- the type index of each function
  pub funcs : List ℕ
  pub tables : List RefType
  pub memories : ℕ
  pub globals : List GlobalType
  -- the types of the element segments
  pub elems : List RefType
  pub datas : ℕ
  -- for each function, whether `ref.func` may name it
  pub named : List Bool
  pub locals : List ValType
  pub results : List ValType
  pub labels : List (List ValType)

-- The context with one more label.
abbrev pub under : Context → List ValType → Context
under c ts = record {
  types = c.types;
  funcs = c.funcs;
  tables = c.tables;
  memories = c.memories;
  globals = c.globals;
  elems = c.elems;
  datas = c.datas;
  named = c.named;
  locals = c.locals;
  results = c.results;
  labels = ts ∷ c.labels;
}

abbrev pub signature_in : Option FuncType → Option Signature
signature_in None = None
signature_in (Some f) = Some (record { params = f.params; results = f.results })

-- The type of a block, if the type that it names exists (section 3.2.2).
abbrev pub signature_of : List FuncType → BlockType → Option Signature
signature_of types Empty = Some (record { params = []; results = [] })
signature_of types (Value t) = Some (record { params = []; results = t ∷ [] })
signature_of types (Index i) = signature_in (slice_get types i)

-- The types of these labels, if all exist.
abbrev pub labels_at : List (List ValType) → List ℕ → Option (List (List ValType))
labels_at labels [] = Some []
labels_at labels (l ∷ ls) =
    slice_get labels l >>= λ t. option_map (λ ts. t ∷ ts) (labels_at labels ls)

abbrev pub gives_of : Option Signature → Option Effect
gives_of = option_map (λ f. Gives f.params f.results)

-- A typed `select` has exactly one type, that of both operands.
abbrev pub select_of : List ValType → Option Effect
select_of [] = None
select_of (t ∷ []) = Some (Gives (t ∷ t ∷ I32 ∷ []) (t ∷ []))
select_of (t ∷ u ∷ ts) = None

abbrev pub is_func : RefType → Bool
is_func Func = true
is_func Extern = false

abbrev pub both : Option RefType → Option RefType → Bool
both None b = false
both (Some a) None = false
both (Some a) (Some b) = same_ref a b

-- The memory exists, and the alignment is at most the width in bytes (section 3.3.7).
abbrev pub fits_memory : Context → ℕ → MemArg → Bool
fits_memory c width m = nat_lt m.memory c.memories && nat_le (2 ^ m.align) width

abbrev pub three : Effect
three = Gives (I32 ∷ I32 ∷ I32 ∷ []) []

-- The type of an instruction without a body, if what it names exists (sections 3.3.1, 3.3.2 and
-- 3.3.4 to 3.3.8).
abbrev pub effect_of : Context → Instr → Option Effect
effect_of c Unreachable = Some (Leaves [])
effect_of c Nop = Some (Gives [] [])
effect_of c (Br l) = option_map Leaves (slice_get c.labels l)
effect_of c (BrIf l) = option_map (λ ts. Gives (ts ++ I32 ∷ []) ts) (slice_get c.labels l)
effect_of c (BrTable ls l) = option_map Branches (labels_at c.labels (l ∷ ls))
effect_of c Return = Some (Leaves c.results)
effect_of c (Call f) = gives_of (signature_in (slice_get c.funcs f >>= λ t. slice_get c.types t))
effect_of c (CallIndirect ty table) =
    slice_get c.tables table >>= λ r. only (is_func r) (option_map (λ f. Gives (f.params ++ I32 ∷ []) f.results) (signature_in (slice_get c.types ty)))
effect_of c Drop = Some Drops
effect_of c Select = Some Selects
effect_of c (SelectTyped ts) = select_of ts
effect_of c (LocalGet x) = option_map (λ t. Gives [] (t ∷ [])) (slice_get c.locals x)
effect_of c (LocalSet x) = option_map (λ t. Gives (t ∷ []) []) (slice_get c.locals x)
effect_of c (LocalTee x) = option_map (λ t. Gives (t ∷ []) (t ∷ [])) (slice_get c.locals x)
effect_of c (GlobalGet x) = option_map (λ g. Gives [] (g.ty ∷ [])) (slice_get c.globals x)
effect_of c (GlobalSet x) = slice_get c.globals x >>= λ g. only g.mutable (Some (Gives (g.ty ∷ []) []))
effect_of c (TableGet x) = option_map (λ r. Gives (I32 ∷ []) (Ref r ∷ [])) (slice_get c.tables x)
effect_of c (TableSet x) = option_map (λ r. Gives (I32 ∷ Ref r ∷ []) []) (slice_get c.tables x)
effect_of c (Load op m) = only (fits_memory c (read_width op) m) (Some (Gives (I32 ∷ []) (load_type op ∷ [])))
effect_of c (Store op m) = only (fits_memory c (store_width op) m) (Some (Gives (I32 ∷ store_type op ∷ []) []))
effect_of c (MemorySize m) = only (nat_lt m c.memories) (Some (Gives [] (I32 ∷ [])))
effect_of c (MemoryGrow m) = only (nat_lt m c.memories) (Some (Gives (I32 ∷ []) (I32 ∷ [])))
effect_of c (I32Const n) = Some (Gives [] (I32 ∷ []))
effect_of c (I64Const n) = Some (Gives [] (I64 ∷ []))
effect_of c (Un op) = Some (Gives (un_operand op ∷ []) (un_result op ∷ []))
effect_of c (Bin op) = Some (Gives (bin_operand op ∷ bin_operand op ∷ []) (bin_result op ∷ []))
effect_of c (RefNull r) = Some (Gives [] (Ref r ∷ []))
effect_of c RefIsNull = Some TestsNull
effect_of c (RefFunc x) = slice_get c.named x >>= λ b. only b (Some (Gives [] (Ref Func ∷ [])))
effect_of c (MemoryInit segment memory) = only (nat_lt segment c.datas && nat_lt memory c.memories) (Some three)
effect_of c (DataDrop x) = only (nat_lt x c.datas) (Some (Gives [] []))
effect_of c (MemoryCopy to from) = only (nat_lt to c.memories && nat_lt from c.memories) (Some three)
effect_of c (MemoryFill m) = only (nat_lt m c.memories) (Some three)
effect_of c (TableInit segment table) = only (both (slice_get c.elems segment) (slice_get c.tables table)) (Some three)
effect_of c (ElemDrop x) = option_map (λ r. Gives [] []) (slice_get c.elems x)
effect_of c (TableCopy to from) = only (both (slice_get c.tables to) (slice_get c.tables from)) (Some three)
effect_of c (TableGrow x) = option_map (λ r. Gives (Ref r ∷ I32 ∷ []) (I32 ∷ [])) (slice_get c.tables x)
effect_of c (TableSize x) = option_map (λ r. Gives [] (I32 ∷ [])) (slice_get c.tables x)
effect_of c (TableFill x) = option_map (λ r. Gives (I32 ∷ Ref r ∷ I32 ∷ []) []) (slice_get c.tables x)
effect_of c (Block' bt n body) = None
effect_of c (Loop' bt n body) = None
effect_of c (If' bt n body m other) = None

-- A body leads from operands `ps` to operands that match `rs`.
abbrev pub LeadsToMatch : (Stack → Stack → Type 0) → List ValType → List ValType → Type 0
LeadsToMatch leads ps rs = (last : Stack) × leads (operands ps) last × AllMatch last (reverse rs)

-- The instruction type exists and leads from `s` to `t`.
abbrev pub ActsAs : Option Effect → Stack → Stack → Type 0
ActsAs m s t = (e : Effect) × (m ≡ Some e) × Acts e s t

abbrev mutual
  -- An instruction leads from the stack `s` to the stack `t`; the body of a block has one more
  -- label (section 3.3.8).
  pub Fits : Context → Instr → Stack → Stack → Type 0
  Fits c (Block' bt n body) s t =
      (f : Signature) × (signature_of c.types bt ≡ Some f) × LeadsToMatch (Leads (under c f.results) body) f.params f.results × Acts (Gives f.params f.results) s t
  Fits c (Loop' bt n body) s t =
      (f : Signature) × (signature_of c.types bt ≡ Some f) × LeadsToMatch (Leads (under c f.params) body) f.params f.results × Acts (Gives f.params f.results) s t
  Fits c (If' bt n body m other) s t =
      (f : Signature) × (signature_of c.types bt ≡ Some f) × LeadsToMatch (Leads (under c f.results) body) f.params f.results × LeadsToMatch (Leads (under c f.results) other) f.params f.results ×
      Acts (Gives (f.params ++ I32 ∷ []) f.results) s t
  Fits c Unreachable s t = ActsAs (effect_of c Unreachable) s t
  Fits c Nop s t = ActsAs (effect_of c Nop) s t
  Fits c (Br l) s t = ActsAs (effect_of c (Br l)) s t
  Fits c (BrIf l) s t = ActsAs (effect_of c (BrIf l)) s t
  Fits c (BrTable ls l) s t = ActsAs (effect_of c (BrTable ls l)) s t
  Fits c Return s t = ActsAs (effect_of c Return) s t
  Fits c (Call f) s t = ActsAs (effect_of c (Call f)) s t
  Fits c (CallIndirect ty table) s t = ActsAs (effect_of c (CallIndirect ty table)) s t
  Fits c Drop s t = ActsAs (effect_of c Drop) s t
  Fits c Select s t = ActsAs (effect_of c Select) s t
  Fits c (SelectTyped ts) s t = ActsAs (effect_of c (SelectTyped ts)) s t
  Fits c (LocalGet x) s t = ActsAs (effect_of c (LocalGet x)) s t
  Fits c (LocalSet x) s t = ActsAs (effect_of c (LocalSet x)) s t
  Fits c (LocalTee x) s t = ActsAs (effect_of c (LocalTee x)) s t
  Fits c (GlobalGet x) s t = ActsAs (effect_of c (GlobalGet x)) s t
  Fits c (GlobalSet x) s t = ActsAs (effect_of c (GlobalSet x)) s t
  Fits c (TableGet x) s t = ActsAs (effect_of c (TableGet x)) s t
  Fits c (TableSet x) s t = ActsAs (effect_of c (TableSet x)) s t
  Fits c (Load op m) s t = ActsAs (effect_of c (Load op m)) s t
  Fits c (Store op m) s t = ActsAs (effect_of c (Store op m)) s t
  Fits c (MemorySize m) s t = ActsAs (effect_of c (MemorySize m)) s t
  Fits c (MemoryGrow m) s t = ActsAs (effect_of c (MemoryGrow m)) s t
  Fits c (I32Const n) s t = ActsAs (effect_of c (I32Const n)) s t
  Fits c (I64Const n) s t = ActsAs (effect_of c (I64Const n)) s t
  Fits c (Un op) s t = ActsAs (effect_of c (Un op)) s t
  Fits c (Bin op) s t = ActsAs (effect_of c (Bin op)) s t
  Fits c (RefNull r) s t = ActsAs (effect_of c (RefNull r)) s t
  Fits c RefIsNull s t = ActsAs (effect_of c RefIsNull) s t
  Fits c (RefFunc x) s t = ActsAs (effect_of c (RefFunc x)) s t
  Fits c (MemoryInit segment memory) s t = ActsAs (effect_of c (MemoryInit segment memory)) s t
  Fits c (DataDrop x) s t = ActsAs (effect_of c (DataDrop x)) s t
  Fits c (MemoryCopy to from) s t = ActsAs (effect_of c (MemoryCopy to from)) s t
  Fits c (MemoryFill m) s t = ActsAs (effect_of c (MemoryFill m)) s t
  Fits c (TableInit segment table) s t = ActsAs (effect_of c (TableInit segment table)) s t
  Fits c (ElemDrop x) s t = ActsAs (effect_of c (ElemDrop x)) s t
  Fits c (TableCopy to from) s t = ActsAs (effect_of c (TableCopy to from)) s t
  Fits c (TableGrow x) s t = ActsAs (effect_of c (TableGrow x)) s t
  Fits c (TableSize x) s t = ActsAs (effect_of c (TableSize x)) s t
  Fits c (TableFill x) s t = ActsAs (effect_of c (TableFill x)) s t

  -- The same for the instructions of a block.
  pub Leads : {n : _} → Context → Row_of-Instr n → Stack → Stack → Type 0
  Leads c end_of-Instr s t = s ≡ t
  Leads c (more_of-Instr i is) s t = (u : Stack) × Fits c i s u × Leads c is u t

-- There is a list of stacks from `s` to `t`, one between every two instructions.
abbrev pub LeadsAll : Context → List Instr → Stack → Stack → Type 0
LeadsAll c [] s t = s ≡ t
LeadsAll c (i ∷ is) s t = (u : Stack) × Fits c i s u × LeadsAll c is u t

-- The body takes operands `ps` and leaves operands that match `rs` (section 3.3.9).
abbrev pub WellTyped : Context → List Instr → List ValType → List ValType → Type 0
WellTyped c is ps rs = LeadsToMatch (LeadsAll c is) ps rs

-- Every body is well typed, or is not.
abbrev pub TypingIsDecided : Type 0
TypingIsDecided = (c : Context) (is : List Instr) (ps rs : List ValType) → WellTyped c is ps rs ⊎ (WellTyped c is ps rs → ⊥)
