-- What the parts of a world add to its store, and where it stands there (WebAssembly Core 2.0,
-- section 4.5.4).
use Rattle.std.specs.Prelude.{◌≡◌, ℕ, List, ◌++◌, map, length, Option, Some, slice_get}
use Rattle.wasm_tree_spec.specs.Prelude.{Space, Functions, Tables, Memories, Globals, ElementSegments, DataSegments, ConstExpr, GlobalDef, ElemSeg, Module}
use Rattle.wasm_tree.specs.declared.module.Func as tree
use Rattle.wasm_meaning.specs.Prelude.{Val, Inst, Func, Global, Elem, Store, Part, Environment, own_count, own_store, defined_count, all_there, new_func, new_global, global_with, elem_of, elem_with}
use Rattle.wasm_meaning.specs.Prelude.{value_of, part_store, joined_stores, stores_from}
use Rattle.world_simulation.specs.CorrespondingDefinitions.{Instantiated, DefinedAt}
use Rattle.world_simulation.specs.NewContents.{new_table, new_memory, new_data}

-- ---- what one part adds ----

-- what a part with this instance adds to the store, with the values of its constant expressions
pub record AddsWith (value : ConstExpr → Option Val) (m : Module) (i : Inst) (t : Store) : Type 0 where
  pub funcs : all_there (new_func i) m.funcs ≡ Some t.funcs
  pub tables : t.tables ≡ map new_table m.tables
  pub mems : t.mems ≡ map new_memory m.mems
  pub globals : all_there (global_with value) m.globals ≡ Some t.globals
  pub elems : all_there (elem_with value) m.elems ≡ Some t.elems
  pub datas : t.datas ≡ map new_data m.datas

-- the same for part `p` of a world
abbrev pub Adds : Environment → List Part → List Inst → ℕ → Module → Inst → Store → Type 0
Adds env all insts p = AddsWith (value_of env all insts p)

-- what a part adds that has these functions, globals and element segments
abbrev pub added_store : Module → List Func → List Global → List Elem → Store
added_store m funcs globals elems = record {
  funcs = funcs;
  globals = globals;
  elems = elems;
  tables = map new_table m.tables;
  mems = map new_memory m.mems;
  datas = map new_data m.datas;
}

-- The entities of a space, which come after those that are in the store: a part adds as many as it
-- defines.
pub record Allocates (k : Space) {A : Type 0} (get : Store → List A) : Type 0 where
  pub joins : (s t : Store) → get (joined_stores s t) ≡ get s ++ get t
  pub own : (env : Environment) → length (get (own_store env)) ≡ own_count k env
  pub many : (value : ConstExpr → Option Val) (m : Module) (i : Inst) (t : Store) → AddsWith value m i t → length (get t) ≡ defined_count k m

-- ---- what stands in the store ----

-- the store has at each address what a part defines there
pub record HasDefinitions (env : Environment) (w : Instantiated) (s : Store) : Type 0 where
  pub funcs : {a : ℕ} (d : DefinedAt env w Functions (λ m. m.funcs) a) → (f : Func) × (slice_get s.funcs a ≡ Some f) × (new_func d.inst d.definition ≡ Some f)
  pub tables : {a : ℕ} (d : DefinedAt env w Tables (λ m. m.tables) a) → slice_get s.tables a ≡ Some (new_table d.definition)
  pub mems : {a : ℕ} (d : DefinedAt env w Memories (λ m. m.mems) a) → slice_get s.mems a ≡ Some (new_memory d.definition)
  pub globals : {a : ℕ} (d : DefinedAt env w Globals (λ m. m.globals) a) → (g : Global) × (slice_get s.globals a ≡ Some g) × (new_global env w.parts w.insts d.part d.definition ≡ Some g)
  pub elems : {a : ℕ} (d : DefinedAt env w ElementSegments (λ m. m.elems) a) → (e : Elem) × (slice_get s.elems a ≡ Some e) × (elem_of env w.parts w.insts d.part d.definition ≡ Some e)
  pub datas : {a : ℕ} (d : DefinedAt env w DataSegments (λ m. m.datas) a) → slice_get s.datas a ≡ Some (new_data d.definition)

-- ---- the laws ----

abbrev pub AllocatedStoresHaveDefinitions : Type 0
AllocatedStoresHaveDefinitions = (env : Environment) (w : Instantiated) (s : Store) → stores_from env w.parts w.insts (own_store env) 0 w.parts w.insts ≡ Some s → HasDefinitions env w s

-- A part adds something to the store if each of its functions, globals and element segments can be
-- allocated.
abbrev pub PartsAddWhatCanBeAllocated : Type 0
PartsAddWhatCanBeAllocated =
    (env : Environment) (all : List Part) (insts : List Inst) (p : ℕ) (m : Module) (i : Inst) → ((n : ℕ) (f : tree.Func) → slice_get m.funcs n ≡ Some f → (x : Func) × (new_func i f ≡ Some x)) →
    ((n : ℕ) (g : GlobalDef) → slice_get m.globals n ≡ Some g → (x : Global) × (new_global env all insts p g ≡ Some x)) →
    ((n : ℕ) (e : ElemSeg) → slice_get m.elems n ≡ Some e → (x : Elem) × (elem_of env all insts p e ≡ Some x)) → (t : Store) × (part_store env all insts p m i ≡ Some t)
