-- The index spaces of functions, tables, memories and globals, treated alike: their entries and the
-- types of these, without the limits of tables and memories. Types and segments have no entries
-- here.
use Rattle.base_lists.proofs.Common.{◌≡◌, ◌∙◌, ap, ap₂, sym, refl, ℕ, List, ◌++◌, map, length, Option, Some, None, true, is_some, [], slice_get, option_and_then, filter_map, length-map, and_then_is, and_parts, each_same_is, arith}
use Rattle.wasm_tree_spec.specs.Prelude.{Space, Types, Functions, Tables, Memories, Globals, ElementSegments, DataSegments, RefType, FuncType, Limits, TableType, GlobalType, Import, ImportDesc, ExportDesc, Module, func_of, table_of, memory_of, global_of, funcs_of, tables_of, memories_of, globals_of}
use Rattle.wasm_tree_spec.specs.Prelude.{type_of_func, index_of_export, space_of_export, space_of_import, same_type}
use Rattle.wasm_tree.specs.declared.module.ImportDesc.TheVariants as im
use Rattle.wasm_tree.specs.declared.module.ExportDesc.TheVariants as ex
use Rattle.wasm_meaning.specs.Prelude.{same_type, same_bool, defined_count, has_kind}
use Rattle.merge_spec.specs.Prelude.{External, FuncOf, TableOf, MemoryOf, GlobalOf, asked, external_of, same_but_limits}
use Rattle.merge_proof.specs.ImportEnds.{is_external}
use Rattle.merge_proof.proofs.SamenessTests.{ref_is, type_is, bool_is}

-- ---- entries ----

abbrev pub Entry : Space → Type 0
Entry Functions = ℕ
Entry Tables = TableType
Entry Memories = Limits
Entry Globals = GlobalType
Entry Types = ⊥
Entry ElementSegments = ⊥
Entry DataSegments = ⊥

-- The entry that an import adds to an index space, if it is of that kind.
abbrev pub of_desc : (k : Space) → ImportDesc → Option (Entry k)
of_desc Functions d = func_of d
of_desc Tables d = table_of d
of_desc Memories d = memory_of d
of_desc Globals d = global_of d
of_desc Types d = None
of_desc ElementSegments d = None
of_desc DataSegments d = None

abbrev pub of_import : (k : Space) → Import → Option (Entry k)
of_import k i = of_desc k i.desc

-- The entries that a module's own definitions add to an index space.
abbrev pub own : (k : Space) → Module → List (Entry k)
own Functions m = map (λ f. f.ty) m.funcs
own Tables m = m.tables
own Memories m = m.mems
own Globals m = map (λ g. g.ty) m.globals
own Types m = []
own ElementSegments m = []
own DataSegments m = []

abbrev pub imported : (k : Space) → Module → List (Entry k)
imported k m = filter_map (of_import k) m.imports

abbrev pub space : (k : Space) → Module → List (Entry k)
space k m = imported k m ++ own k m

pub desc_kind : (k : Space) (d : ImportDesc) (i : Import) → i.desc ≡ d → is_some (of_desc k d) ≡ has_kind k i
desc_kind Functions (im.Func t) i e = rw e refl
desc_kind Functions (im.Table t) i e = rw e refl
desc_kind Functions (im.Memory t) i e = rw e refl
desc_kind Functions (im.Global t) i e = rw e refl
desc_kind Tables (im.Func t) i e = rw e refl
desc_kind Tables (im.Table t) i e = rw e refl
desc_kind Tables (im.Memory t) i e = rw e refl
desc_kind Tables (im.Global t) i e = rw e refl
desc_kind Memories (im.Func t) i e = rw e refl
desc_kind Memories (im.Table t) i e = rw e refl
desc_kind Memories (im.Memory t) i e = rw e refl
desc_kind Memories (im.Global t) i e = rw e refl
desc_kind Globals (im.Func t) i e = rw e refl
desc_kind Globals (im.Table t) i e = rw e refl
desc_kind Globals (im.Memory t) i e = rw e refl
desc_kind Globals (im.Global t) i e = rw e refl
desc_kind Types (im.Func t) i e = rw e refl
desc_kind Types (im.Table t) i e = rw e refl
desc_kind Types (im.Memory t) i e = rw e refl
desc_kind Types (im.Global t) i e = rw e refl
desc_kind ElementSegments (im.Func t) i e = rw e refl
desc_kind ElementSegments (im.Table t) i e = rw e refl
desc_kind ElementSegments (im.Memory t) i e = rw e refl
desc_kind ElementSegments (im.Global t) i e = rw e refl
desc_kind DataSegments (im.Func t) i e = rw e refl
desc_kind DataSegments (im.Table t) i e = rw e refl
desc_kind DataSegments (im.Memory t) i e = rw e refl
desc_kind DataSegments (im.Global t) i e = rw e refl

pub import_kind : (k : Space) (i : Import) → is_some (of_import k i) ≡ has_kind k i
import_kind k i = desc_kind k i.desc i refl

pub own_many : (k : Space) (m : Module) → is_external k ≡ true → length (own k m) ≡ defined_count k m
own_many Functions m e = length-map m.funcs (λ f. f.ty)
own_many Tables m e = refl
own_many Memories m e = refl
own_many Globals m e = length-map m.globals (λ g. g.ty)
own_many Types m e = cc
own_many ElementSegments m e = cc
own_many DataSegments m e = cc

-- ---- types ----

-- The type of an entity, without limits.
pub data Ty : Type 0 where
  FuncTy : FuncType → Ty
  TableTy : RefType → Ty
  MemoryTy : Ty
  GlobalTy : GlobalType → Ty

abbrev pub kind_of : Ty → Space
kind_of (FuncTy t) = Functions
kind_of (TableTy t) = Tables
kind_of MemoryTy = Memories
kind_of (GlobalTy t) = Globals

abbrev pub bare : External → Ty
bare (FuncOf t) = FuncTy t
bare (TableOf t) = TableTy t.ty
bare (MemoryOf l) = MemoryTy
bare (GlobalOf t) = GlobalTy t

-- The type of an entry of an index space of a module.
abbrev pub type_of : Module → (k : Space) → Entry k → Option Ty
type_of m Functions ty = option_and_then (λ t. Some (FuncTy t)) (slice_get m.types ty)
type_of m Tables t = Some (TableTy t.ty)
type_of m Memories l = Some MemoryTy
type_of m Globals t = Some (GlobalTy t)
type_of m Types c = absurd c
type_of m ElementSegments c = absurd c
type_of m DataSegments c = absurd c

abbrev pub type_at : Module → (k : Space) → ℕ → Option Ty
type_at m k i = option_and_then (type_of m k) (slice_get (space k m) i)

-- Only the index spaces of functions, tables, memories and globals have entries.
pub entry_external : (k : Space) → Entry k → is_external k ≡ true
entry_external Functions c = refl
entry_external Tables c = refl
entry_external Memories c = refl
entry_external Globals c = refl
entry_external Types c = absurd c
entry_external ElementSegments c = absurd c
entry_external DataSegments c = absurd c

pub typed_external : (m : Module) (k : Space) (i : ℕ) (y : Ty) → type_at m k i ≡ Some y → is_external k ≡ true
typed_external m k i y h = entry_external k (and_then_is (slice_get (space k m) i) (type_of m k) y h).0

pub bare_is : (x y : External) → same_but_limits x y ≡ true → bare x ≡ bare y
bare_is (FuncOf t) (FuncOf u) h = let is : t ≡ u = grind (arith, each_same_is same_type (λ a b e. grind arith)) in ap FuncTy is
bare_is (TableOf t) (TableOf u) h = ap TableTy (ref_is t.ty u.ty h)
bare_is (MemoryOf l) (MemoryOf k) h = refl
bare_is (GlobalOf t) (GlobalOf u) h =
    let b = and_parts (same_type t.ty u.ty) (same_bool t.mutable u.mutable) h in
    let e = type_is t.ty u.ty b.0 in
    let f = bool_is t.mutable u.mutable b.1 in
    ap GlobalTy (ap₂ (λ x y. record { ty = x; mutable = y }) e f)
bare_is (FuncOf t) (TableOf u) h = cc
bare_is (FuncOf t) (MemoryOf u) h = cc
bare_is (FuncOf t) (GlobalOf u) h = cc
bare_is (TableOf t) (FuncOf u) h = cc
bare_is (TableOf t) (MemoryOf u) h = cc
bare_is (TableOf t) (GlobalOf u) h = cc
bare_is (MemoryOf t) (FuncOf u) h = cc
bare_is (MemoryOf t) (TableOf u) h = cc
bare_is (MemoryOf t) (GlobalOf u) h = cc
bare_is (GlobalOf t) (FuncOf u) h = cc
bare_is (GlobalOf t) (TableOf u) h = cc
bare_is (GlobalOf t) (MemoryOf u) h = cc

-- The external type that an import asks for is of the import's kind, and has the type of the entry
-- that the import adds.
pub asked_kind : (m : Module) (d : ImportDesc) (x : External) → asked m d ≡ Some x → kind_of (bare x) ≡ space_of_import d
asked_kind m (im.Func ty) x h = by (slice_get m.types ty) h
  where
    by : (o : Option FuncType) → option_and_then (λ t. Some (FuncOf t)) o ≡ Some x → kind_of (bare x) ≡ Functions
    by None h = cc
    by (Some t) h = let same : FuncOf t ≡ x = cc in ap (λ z. kind_of (bare z)) (sym same)
asked_kind m (im.Table t) x h = let same : TableOf t ≡ x = cc in ap (λ z. kind_of (bare z)) (sym same)
asked_kind m (im.Memory l) x h = let same : MemoryOf l ≡ x = cc in ap (λ z. kind_of (bare z)) (sym same)
asked_kind m (im.Global t) x h = let same : GlobalOf t ≡ x = cc in ap (λ z. kind_of (bare z)) (sym same)

pub asked_type : (m : Module) (k : Space) (d : ImportDesc) (c : Entry k) (x : External) → of_desc k d ≡ Some c → asked m d ≡ Some x → type_of m k c ≡ Some (bare x)
asked_type m Functions (im.Func ty) c x e h =
    let same : ty ≡ c = cc in
    ap (λ z. option_and_then (λ t. Some (FuncTy t)) (slice_get m.types z)) (sym same) ∙ by (slice_get m.types ty) h
  where
    by : (o : Option FuncType) → option_and_then (λ t. Some (FuncOf t)) o ≡ Some x → option_and_then (λ t. Some (FuncTy t)) o ≡ Some (bare x)
    by None h = cc
    by (Some t) h = let same : FuncOf t ≡ x = cc in ap (λ z. Some (bare z)) same
asked_type m Functions (im.Table t) c x e h = cc
asked_type m Functions (im.Memory l) c x e h = cc
asked_type m Functions (im.Global t) c x e h = cc
asked_type m Tables (im.Func t) c x e h = cc
asked_type m Tables (im.Table t) c x e h = let a : t ≡ c = cc in let b : TableOf t ≡ x = cc in ap (λ z. Some (TableTy z.ty)) (sym a) ∙ ap (λ z. Some (bare z)) b
asked_type m Tables (im.Memory l) c x e h = cc
asked_type m Tables (im.Global t) c x e h = cc
asked_type m Memories (im.Func t) c x e h = cc
asked_type m Memories (im.Table t) c x e h = cc
asked_type m Memories (im.Memory l) c x e h = let b : MemoryOf l ≡ x = cc in ap (λ z. Some (bare z)) b
asked_type m Memories (im.Global t) c x e h = cc
asked_type m Globals (im.Func t) c x e h = cc
asked_type m Globals (im.Table t) c x e h = cc
asked_type m Globals (im.Memory l) c x e h = cc
asked_type m Globals (im.Global t) c x e h = let a : t ≡ c = cc in let b : GlobalOf t ≡ x = cc in ap (λ z. Some (GlobalTy z)) (sym a) ∙ ap (λ z. Some (bare z)) b
asked_type m Types d c x e h = absurd c
asked_type m ElementSegments d c x e h = absurd c
asked_type m DataSegments d c x e h = absurd c

-- The external type of an exported entry is of the entry's kind, and has the type of the entry.
pub external_kind : (m : Module) (e : ExportDesc) (x : External) → external_of m e ≡ Some x → kind_of (bare x) ≡ space_of_export e
external_kind m (ex.Func i) x h = by (type_of_func m i) h
  where
    by : (o : Option FuncType) → option_and_then (λ t. Some (FuncOf t)) o ≡ Some x → kind_of (bare x) ≡ Functions
    by None h = cc
    by (Some t) h = let same : FuncOf t ≡ x = cc in ap (λ z. kind_of (bare z)) (sym same)
external_kind m (ex.Table i) x h = by (slice_get (tables_of m) i) h
  where
    by : (o : Option TableType) → option_and_then (λ t. Some (TableOf t)) o ≡ Some x → kind_of (bare x) ≡ Tables
    by None h = cc
    by (Some t) h = let same : TableOf t ≡ x = cc in ap (λ z. kind_of (bare z)) (sym same)
external_kind m (ex.Memory i) x h = by (slice_get (memories_of m) i) h
  where
    by : (o : Option Limits) → option_and_then (λ t. Some (MemoryOf t)) o ≡ Some x → kind_of (bare x) ≡ Memories
    by None h = cc
    by (Some t) h = let same : MemoryOf t ≡ x = cc in ap (λ z. kind_of (bare z)) (sym same)
external_kind m (ex.Global i) x h = by (slice_get (globals_of m) i) h
  where
    by : (o : Option GlobalType) → option_and_then (λ t. Some (GlobalOf t)) o ≡ Some x → kind_of (bare x) ≡ Globals
    by None h = cc
    by (Some t) h = let same : GlobalOf t ≡ x = cc in ap (λ z. kind_of (bare z)) (sym same)

pub external_type : (m : Module) (e : ExportDesc) (x : External) → external_of m e ≡ Some x → type_at m (space_of_export e) (index_of_export e) ≡ Some (bare x)
external_type m (ex.Func i) x h = by (slice_get (funcs_of m) i) h
  where
    inner : (o : Option FuncType) → option_and_then (λ t. Some (FuncOf t)) o ≡ Some x → option_and_then (λ t. Some (FuncTy t)) o ≡ Some (bare x)
    inner None h = cc
    inner (Some t) h = let same : FuncOf t ≡ x = cc in ap (λ z. Some (bare z)) same

    by : (o : Option ℕ) → option_and_then (λ t. Some (FuncOf t)) (option_and_then (slice_get m.types) o) ≡ Some x → option_and_then (type_of m Functions) o ≡ Some (bare x)
    by None h = cc
    by (Some ty) h = inner (slice_get m.types ty) h
external_type m (ex.Table i) x h = by (slice_get (tables_of m) i) h
  where
    by : (o : Option TableType) → option_and_then (λ t. Some (TableOf t)) o ≡ Some x → option_and_then (type_of m Tables) o ≡ Some (bare x)
    by None h = cc
    by (Some t) h = let same : TableOf t ≡ x = cc in ap (λ z. Some (bare z)) same
external_type m (ex.Memory i) x h = by (slice_get (memories_of m) i) h
  where
    by : (o : Option Limits) → option_and_then (λ t. Some (MemoryOf t)) o ≡ Some x → option_and_then (type_of m Memories) o ≡ Some (bare x)
    by None h = cc
    by (Some t) h = let same : MemoryOf t ≡ x = cc in ap (λ z. Some (bare z)) same
external_type m (ex.Global i) x h = by (slice_get (globals_of m) i) h
  where
    by : (o : Option GlobalType) → option_and_then (λ t. Some (GlobalOf t)) o ≡ Some x → option_and_then (type_of m Globals) o ≡ Some (bare x)
    by None h = cc
    by (Some t) h = let same : GlobalOf t ≡ x = cc in ap (λ z. Some (bare z)) same
