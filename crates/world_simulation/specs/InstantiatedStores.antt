-- What the instantiation of one module leaves in a store, entity by entity (WebAssembly Core 2.0,
-- sections 4.5.3 and 4.5.4): what the module defines comes after what was there, and its active
-- segments are copied in order.
use Rattle.std.specs.Prelude.{◌≡◌, ℕ, ◌+◌, nat_eq, Bool, false, cond, List, [], ◌∷◌, map, length, Option, Some, None, slice_get}
use Rattle.base_lists.specs.Options.{◌>>=◌}
use Rattle.wasm_tree_spec.specs.Prelude.{TableType, Limits, ConstExpr, GlobalDef, ElemMode, ElemSeg, DataMode, DataSeg, Module}
use Rattle.wasm_tree.specs.declared.module.Func as tree
use Rattle.wasm_tree.specs.declared.module.ElemMode.TheVariants as elem
use Rattle.wasm_tree.specs.declared.module.DataMode.TheVariants as data'
use Rattle.wasm_meaning.specs.Prelude.{Text, Entity, overwrite, RefVal, Val, Inst, Func, Table, Memory, Global, Elem, Data, Store, ref_of, no_items, no_bytes, Environment, ExternalValue, Begun}
use Rattle.wasm_meaning.specs.Prelude.{all_there, const_value, value_of, new_func, global_with, elem_with, insts_from, own_store, alone, instantiate, Added, added, LoaderWorld, store_under}
use Rattle.wasm_meaning.specs.Prelude.{primary_added, begun_under}
use Rattle.world_simulation.specs.Prelude.{one, new_table, new_memory, offset_in}

-- ---- copies ----

-- what a segment copies when its module is instantiated: nothing, or its contents, to an address,
-- from an offset on
pub data Copy (A : Type 0) : Type 0 where
  nothing : Copy A
  contents : (to offset : Option ℕ) → Option (List A) → Copy A

abbrev pub is_address : Option ℕ → ℕ → Bool
is_address None a = false
is_address (Some b) a = nat_eq b a

-- the contents at an address after a copy that may go there; none if it does not fit
abbrev pub over : {A : Type 0} → (address : ℕ) → Copy A → List A → Option (List A)
over a nothing xs = Some xs
over a (contents to offset copied) xs = cond (is_address to a) (offset >>= λ n. copied >>= λ ys. overwrite xs n ys) (Some xs)

-- after several copies, one after the other
abbrev pub all_over : {A : Type 0} → (address : ℕ) → List (Copy A) → List A → Option (List A)
all_over a [] xs = Some xs
all_over a (c ∷ cs) xs = over a c xs >>= all_over a cs

-- the copies of element segments and of data segments, given the instance and the values of
-- constant expressions
abbrev pub elem_copy : (ConstExpr → Option Val) → Inst → ElemSeg → ElemMode → Copy RefVal
elem_copy value i e (elem.Active x offset) = contents (slice_get i.tables x) (offset_in value offset) (all_there (λ item. value item >>= ref_of) e.items)
elem_copy value i e _ = nothing

abbrev pub elem_copies : (ConstExpr → Option Val) → Inst → List ElemSeg → List (Copy RefVal)
elem_copies value i = map (λ e. elem_copy value i e e.mode)

abbrev pub data_copy : (ConstExpr → Option Val) → Inst → DataSeg → DataMode → Copy ℕ
data_copy value i d (data'.Active x offset) = contents (slice_get i.mems x) (offset_in value offset) (Some d.bytes)
data_copy value i d data'.Passive = nothing

abbrev pub data_copies : (ConstExpr → Option Val) → Inst → List DataSeg → List (Copy ℕ)
data_copies value i = map (λ d. data_copy value i d d.mode)

-- ---- entities ----

-- there is such a value, and it is at the address
abbrev pub Stands : {A : Type 0} → List A → (address : ℕ) → Option A → Type 0
Stands {A} xs a o = (x : A) × (o ≡ Some x) × (slice_get xs a ≡ Some x)

abbrev pub table_left : Table → Option (List RefVal) → Option Table
table_left t slots = slots >>= λ slots. Some (record t { slots = slots })

abbrev pub memory_left : Memory → Option (List ℕ) → Option Memory
memory_left m bytes = bytes >>= λ bytes. Some (record m { bytes = bytes })

-- an active segment is dropped after it was copied, a declarative one at once
abbrev pub elem_left : (ConstExpr → Option Val) → ElemSeg → ElemMode → Option Elem
elem_left value e elem.Passive = elem_with value e
elem_left value e _ = Some no_items

abbrev pub data_left : DataSeg → DataMode → Data
data_left d data'.Passive = record { bytes = d.bytes; dropped = false }
data_left d (data'.Active x offset) = no_bytes

-- ---- what is left ----

-- `after` has what was in `before` and what the module leaves, entity by entity
pub record Leaves (value : ConstExpr → Option Val) (m : Module) (i : Inst) (before after : Store) : Type 0 where
  -- what the module defines
  pub funcs : (n : ℕ) (f : tree.Func) → slice_get m.funcs n ≡ Some f → Stands after.funcs (length before.funcs + n) (new_func i f)
  pub tables : (n : ℕ) (t : TableType) → slice_get m.tables n ≡ Some t →
      Stands after.tables (length before.tables + n) (table_left (new_table t) (all_over (length before.tables + n) (elem_copies value i m.elems) (new_table t).slots))
  pub mems : (n : ℕ) (l : Limits) → slice_get m.mems n ≡ Some l →
      Stands after.mems (length before.mems + n) (memory_left (new_memory l) (all_over (length before.mems + n) (data_copies value i m.datas) (new_memory l).bytes))
  pub globals : (n : ℕ) (g : GlobalDef) → slice_get m.globals n ≡ Some g → Stands after.globals (length before.globals + n) (global_with value g)
  pub elems : (n : ℕ) (e : ElemSeg) → slice_get m.elems n ≡ Some e → Stands after.elems (length before.elems + n) (elem_left value e e.mode)
  pub datas : (n : ℕ) (d : DataSeg) → slice_get m.datas n ≡ Some d → slice_get after.datas (length before.datas + n) ≡ Some (data_left d d.mode)
  -- what was there before: tables and memories with what is copied over them, all else unchanged
  pub earlier_funcs : (a : ℕ) (f : Func) → slice_get before.funcs a ≡ Some f → slice_get after.funcs a ≡ Some f
  pub earlier_tables : (a : ℕ) (t : Table) → slice_get before.tables a ≡ Some t → Stands after.tables a (table_left t (all_over a (elem_copies value i m.elems) t.slots))
  pub earlier_mems : (a : ℕ) (x : Memory) → slice_get before.mems a ≡ Some x → Stands after.mems a (memory_left x (all_over a (data_copies value i m.datas) x.bytes))
  pub earlier_globals : (a : ℕ) (g : Global) → slice_get before.globals a ≡ Some g → slice_get after.globals a ≡ Some g
  pub earlier_elems : (a : ℕ) (e : Elem) → slice_get before.elems a ≡ Some e → slice_get after.elems a ≡ Some e
  pub earlier_datas : (a : ℕ) (d : Data) → slice_get before.datas a ≡ Some d → slice_get after.datas a ≡ Some d

-- ---- the laws ----

-- What a module leaves that is added to a store, if no segment traps.
abbrev pub AddedModulesLeave : Type 0
AddedModulesLeave =
    (s : Store) (m : Module) (things : List ExternalValue) (a : Added) → added s m things ≡ Some a → a.filled.trapped ≡ false → Leaves (const_value s.globals a.inst) m a.inst s a.filled.store

-- The same for a module alone, over the environment's own entities.
abbrev pub ModulesAloneLeave : Type 0
ModulesAloneLeave =
    (env : Environment) (m : Module) (b : Begun) → instantiate env (alone m) ≡ Some b → b.trapped ≡ false →
    (i : Inst) × (insts_from env (one m) 0 (one m) ≡ Some (i ∷ [])) × Leaves (value_of env (one m) (i ∷ []) 0) m i (own_store env) b.store

-- The same for a world of one module, whatever names it shows.
abbrev pub WorldsOfOneModuleLeave : Type 0
WorldsOfOneModuleLeave =
    (env : Environment) (m : Module) (view : List (Text × Entity)) (b : Begun) → instantiate env (record { parts = one m; view = view }) ≡ Some b → b.trapped ≡ false →
    (i : Inst) × (insts_from env (one m) 0 (one m) ≡ Some (i ∷ [])) × Leaves (value_of env (one m) (i ∷ []) 0) m i (own_store env) b.store

-- The same for the primary module of a loader, over these and the placeholders.
abbrev pub PrimaryModulesLeave : Type 0
PrimaryModulesLeave =
    (env : Environment) (w : LoaderWorld) (b : Begun) → begun_under env w ≡ Some b → b.trapped ≡ false →
    (a : Added) × (primary_added env w ≡ Some a) × Leaves (const_value (store_under env w).globals a.inst) w.primary a.inst (store_under env w) b.store
