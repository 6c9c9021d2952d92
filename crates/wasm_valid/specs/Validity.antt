-- When a module is valid (WebAssembly Core 2.0, section 3.4): each of its items is.
use Rattle.std.specs.Prelude.{◌≡◌, ◌↔◌, ℕ, zero, suc, ◌<◌, ◌≤◌, Bool, true, false, List, [], ◌∷◌, length, map, take, Contains, Option, Some, None, slice_get}
use Rattle.std.specs.List.{flat_map}
use Rattle.wasm_tree_spec.specs.Prelude.{RefType, I32, Ref, FuncType, Limits, TableType, ImportDesc, ExportDesc, ElemMode, DataMode, ConstExpr, Import, Func, GlobalDef, Export, ElemSeg, DataSeg}
use Rattle.wasm_tree_spec.specs.Prelude.{Module, funcs_of, tables_of, memories_of, globals_of, type_of_func}
use Rattle.wasm_tree.specs.declared.module.ImportDesc.TheVariants as imported
use Rattle.wasm_tree.specs.declared.module.ExportDesc.TheVariants as exported
use Rattle.wasm_tree.specs.declared.module.ElemMode.TheVariants as elem
use Rattle.wasm_tree.specs.declared.module.DataMode.TheVariants as «data»
use Rattle.wasm_valid_bodies.specs.Typing.{Context, WellTyped}
use Rattle.wasm_valid_bodies.specs.Groups.{locals_of}
use Rattle.wasm_valid.specs.declared.kinds.ItemKind.{ItemKind}
use Rattle.wasm_valid.specs.declared.kinds.ItemKind.TheVariants as kind
use Rattle.wasm_valid.specs.Constants.{const_type}
use Rattle.wasm_valid.specs.Named.{named_of}
use Rattle.wasm_valid.specs.SpaceTypes.{table_types, elem_types}

abbrev pub MostIsAtLeast : Option ℕ → ℕ → Type 0
MostIsAtLeast None min = Unit {0}
MostIsAtLeast (Some max) min = min ≤ max

abbrev pub MostIsAtMost : Option ℕ → ℕ → Type 0
MostIsAtMost None bound = Unit {0}
MostIsAtMost (Some max) bound = max ≤ bound

-- The limits of a table are valid (section 3.2.1).
abbrev pub LimitsHold : Limits → Type 0
LimitsHold l = MostIsAtLeast l.max l.min

-- The limits of a memory are valid; it has at most 65,536 pages (section 3.2.5).
abbrev pub PagesHold : Limits → Type 0
PagesHold l = MostIsAtLeast l.max l.min × (l.min ≤ 65536) × MostIsAtMost l.max 65536

-- The import is valid (section 3.4.9).
abbrev pub ImportHolds : Module → ImportDesc → Type 0
ImportHolds m (imported.Func ty) = ty < length m.types
ImportHolds m (imported.Table ty) = LimitsHold ty.limits
ImportHolds m (imported.Memory limits) = PagesHold limits
ImportHolds m (imported.Global ty) = Unit {0}

-- What is exported is in its index space (section 3.4.8).
abbrev pub InSpace : Module → ExportDesc → Type 0
InSpace m (exported.Func func) = func < length (funcs_of m)
InSpace m (exported.Table table) = table < length (tables_of m)
InSpace m (exported.Memory memory) = memory < length (memories_of m)
InSpace m (exported.Global global) = global < length (globals_of m)

-- The mode of the element segment is valid (section 3.4.5).
abbrev pub ElemModeHolds : Module → RefType → ElemMode → Type 0
ElemModeHolds m ty (elem.Active table offset) =
    (slice_get (table_types m) table ≡ Some ty) × (const_type m offset ≡ Some I32)
ElemModeHolds m ty elem.Passive = Unit {0}
ElemModeHolds m ty elem.Declarative = Unit {0}

-- The mode of the data segment is valid (section 3.4.6).
abbrev pub DataModeHolds : Module → DataMode → Type 0
DataModeHolds m («data».Active memory offset) = (memory < length (memories_of m)) × (const_type m offset ≡ Some I32)
DataModeHolds m «data».Passive = Unit {0}

-- The context of the body of a function of type `t` (section 3.4.1).
abbrev pub body_context : Module → Func → FuncType → Context
body_context m f t = record {
  types = m.types;
  funcs = funcs_of m;
  tables = table_types m;
  memories = length (memories_of m);
  globals = globals_of m;
  elems = elem_types m.elems;
  datas = length m.datas;
  named = named_of m;
  locals = locals_of t.params f.locals;
  results = t.results;
  labels = t.results ∷ [];
}

-- The module has at most one memory (section 3.4.10).
abbrev pub IsSingle : Module → Type 0
IsSingle m = length (memories_of m) ≤ 1

-- The item of this kind at this position of its section is valid.
abbrev pub HoldsAt : Module → ItemKind → ℕ → Type 0
HoldsAt m kind.Import i = (x : Import) × (slice_get m.imports i ≡ Some x) × ImportHolds m x.desc
HoldsAt m kind.Memories i = IsSingle m
HoldsAt m kind.Func i = (f : Func) × (slice_get m.funcs i ≡ Some f) × (f.ty < length m.types)
HoldsAt m kind.Table i = (t : TableType) × (slice_get m.tables i ≡ Some t) × LimitsHold t.limits
HoldsAt m kind.Memory i = (l : Limits) × (slice_get m.mems i ≡ Some l) × PagesHold l
HoldsAt m kind.Global i = (g : GlobalDef) × (slice_get m.globals i ≡ Some g) × (const_type m g.init ≡ Some g.ty.ty)
HoldsAt m kind.Export i =
    (e : Export) × (slice_get m.exports i ≡ Some e) × InSpace m e.desc × (Contains (map (λ x. x.name) (take i m.exports)) e.name → ⊥)
HoldsAt m kind.Start i =
    (x : ℕ) × (t : FuncType) × (m.start ≡ Some x) × (type_of_func m x ≡ Some t) × (t.params ≡ []) × (t.results ≡ [])
HoldsAt m kind.Elem i =
    (s : ElemSeg) × (slice_get m.elems i ≡ Some s) × ((j : ℕ) (e : ConstExpr) → slice_get s.items j ≡ Some e → const_type m e ≡ Some (Ref s.ty)) × ElemModeHolds m s.ty s.mode
HoldsAt m kind.Segment i = (s : DataSeg) × (slice_get m.datas i ≡ Some s) × DataModeHolds m s.mode
HoldsAt m kind.Body i =
    (f : Func) × (t : FuncType) × (slice_get m.funcs i ≡ Some f) × (slice_get m.types f.ty ≡ Some t) × WellTyped (body_context m f t) f.body [] t.results

-- An item: a kind and a position in its section.
pub record Item : Type 0 where
  pub kind : ItemKind
  pub place : ℕ

-- The kinds, in the order in which they are tested.
abbrev pub order : List ItemKind
order = kind.Import ∷ kind.Memories ∷ kind.Func ∷ kind.Table ∷ kind.Memory ∷ kind.Global ∷ kind.Export ∷ kind.Start ∷ kind.Elem ∷ kind.Segment ∷ kind.Body ∷ []

abbrev pub start_count : Option ℕ → ℕ
start_count None = 0
start_count (Some x) = 1

-- The number of items about the number of memories.
abbrev pub memories_count : Bool → ℕ
memories_count true = 0
memories_count false = 1

-- The number of items of a kind. If `many` is true, the number of memories is not an item.
abbrev pub count_of : Module → Bool → ItemKind → ℕ
count_of m many kind.Import = length m.imports
count_of m many kind.Memories = memories_count many
count_of m many kind.Func = length m.funcs
count_of m many kind.Table = length m.tables
count_of m many kind.Memory = length m.mems
count_of m many kind.Global = length m.globals
count_of m many kind.Export = length m.exports
count_of m many kind.Start = start_count m.start
count_of m many kind.Elem = length m.elems
count_of m many kind.Segment = length m.datas
count_of m many kind.Body = length m.funcs

abbrev pub item : ItemKind → ℕ → Item
item k i = record { kind = k; place = i }

-- `n` items of a kind, from a position on.
abbrev pub span : ItemKind → ℕ → ℕ → List Item
span k i zero = []
span k i (suc n) = item k i ∷ span k (suc i) n

-- The items of a module, in the order in which they are tested.
abbrev pub items : Module → Bool → List Item
items m many = flat_map (λ k. span k 0 (count_of m many k)) order

-- Each of these items is valid.
abbrev pub EachHolds : Module → List Item → Type 0
EachHolds m [] = Unit {0}
EachHolds m (x ∷ xs) = HoldsAt m x.kind x.place × EachHolds m xs

-- The module is valid: each item is, except that the number of memories is not tested.
abbrev pub IsValid : Module → Type 0
IsValid m = EachHolds m (items m true)

-- Each item of the module is valid, by its kind and position. The number of memories is not tested.
abbrev pub ItemsHold : Module → Type 0
ItemsHold m = (k : ItemKind) (i : ℕ) → i < count_of m true k → HoldsAt m k i

abbrev pub ValidWhereItemsHold : Type 0
ValidWhereItemsHold = (m : Module) → IsValid m ↔ ItemsHold m
