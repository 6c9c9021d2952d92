-- What a run does to its store: once it is instantiated, each step only extends the store
-- (WebAssembly Core 2.0, section 4.2.3).
use Rattle.std.specs.Prelude.{◌≡◌, ℕ, ◌≤◌, false, List, length, Option, Some, slice_get}
use Rattle.base_lists.specs.Related.{EachRelated}
use Rattle.wasm_tree_spec.specs.Prelude.{ConstExpr, Module}
use Rattle.wasm_meaning.specs.Prelude.{Gives, Val, Inst, Func, Table, Memory, Global, Store, Entry, CallsPlaceholder, Part, Environment, ExternalValue, segments, Added, added, own_segments, Run}
use Rattle.wasm_meaning.specs.Prelude.{Event, Out, Steps, transition, tick, LoaderWorld, LoaderRun, tick_loader}
use Rattle.run_simulation.specs.Prelude.{IsBegun}

-- ---- stores ----

-- the type and maximum are the same, and the size does not shrink
pub record TableExtends (t u : Table) : Type 0 where
  pub type : u.ty ≡ t.ty
  pub most : u.most ≡ t.most
  pub size : length t.slots ≤ length u.slots

pub record MemoryExtends (m n : Memory) : Type 0 where
  pub most : n.most ≡ m.most
  pub size : m.pages ≤ n.pages

pub record GlobalExtends (g h : Global) : Type 0 where
  pub type : h.ty ≡ g.ty
  pub fixed : g.ty.mutable ≡ false → h.value ≡ g.value

-- functions stay, sizes do not shrink, types and maxima stay, and so do the values of immutable
-- globals; nothing is added or taken away
pub record Extends (s t : Store) : Type 0 where
  pub funcs : t.funcs ≡ s.funcs
  pub tables : EachRelated TableExtends s.tables t.tables
  pub mems : EachRelated MemoryExtends s.mems t.mems
  pub globals : EachRelated GlobalExtends s.globals t.globals
  pub table_count : length t.tables ≡ length s.tables
  pub memory_count : length t.mems ≡ length s.mems
  pub global_count : length t.globals ≡ length s.globals
  pub elem_count : length t.elems ≡ length s.elems
  pub data_count : length t.datas ≡ length s.datas

-- the same for the functions, tables, memories and globals of the first store; the second may have
-- more behind them
pub record StaysIn (s t : Store) : Type 0 where
  pub funcs : (a : ℕ) (f : Func) → slice_get s.funcs a ≡ Some f → slice_get t.funcs a ≡ Some f
  pub tables : EachRelated TableExtends s.tables t.tables
  pub mems : EachRelated MemoryExtends s.mems t.mems
  pub globals : EachRelated GlobalExtends s.globals t.globals

-- Each store extends itself.
abbrev pub StoresExtendThemselves : Type 0
StoresExtendThemselves = (s : Store) → Extends s s

-- If `t` extends `s`, and `u` extends `t`, then `u` extends `s`.
abbrev pub ExtensionIsTransitive : Type 0
ExtensionIsTransitive = (s t u : Store) → Extends s t → Extends t u → Extends s u

-- What is in a store stays in each store that extends it.
abbrev pub ExtensionsKeepWhatIsThere : Type 0
ExtensionsKeepWhatIsThere = (s t : Store) → Extends s t → StaysIn s t

-- ---- runs ----

-- the store is extended, the environment's own entities stay where they were, and a run that was
-- instantiated stays so
pub record RunExtends (r : Run) (o : Out) : Type 0 where
  pub store : Extends r.store o.0.store
  pub owned : o.0.owned ≡ r.owned
  pub begun : IsBegun r.phase → IsBegun o.0.phase

-- Once a run is instantiated, each of its steps extends its store.
abbrev pub StepsExtend : Type 0
StepsExtend = (r : Run) → IsBegun r.phase → RunExtends r (tick r)

-- So does a step that calls a placeholder, up to the call.
abbrev pub CallsExtend : Type 0
CallsExtend =
    (r q : Run) (slot : ℕ) (vs : List Val) (s : Store) (es : List Entry) → IsBegun r.phase → transition r ≡ Steps q (Gives (CallsPlaceholder slot vs s es)) → Extends r.store s

-- ---- active segments ----

-- The active segments of a module that are copied, until one traps, only extend the store, whatever
-- their offsets denote (section 4.5.4).
abbrev pub OwnSegmentsExtend : Type 0
OwnSegmentsExtend = (value : ConstExpr → Option Val) (m : Module) (i : Inst) (s : Store) → Extends s (own_segments value m i s).store

-- So do those of all parts of a world that is instantiated at once.
abbrev pub SegmentsExtend : Type 0
SegmentsExtend = (env : Environment) (parts : List Part) (insts : List Inst) (s : Store) → Extends s (segments env parts insts s).store

-- ---- a module that is added ----

-- What is in a store stays in it when a module is added, whether or not a segment traps.
abbrev pub AddedModulesExtend : Type 0
AddedModulesExtend = (s : Store) (m : Module) (things : List ExternalValue) (a : Added) → added s m things ≡ Some a → StaysIn s a.filled.store

-- what was in the store stays in it, the instance of the primary module is the same, and the run is
-- instantiated
pub record LoaderKept (q : LoaderRun) (o : LoaderRun × Option Event) : Type 0 where
  pub store : StaysIn q.run.store o.0.run.store
  pub inst : o.0.inst ≡ q.inst
  pub begun : IsBegun o.0.run.phase

-- Once the run is instantiated, each step under a loader keeps this; a step that loads a module may
-- add to the store.
abbrev pub LoadersExtend : Type 0
LoadersExtend = (w : LoaderWorld) (q : LoaderRun) → IsBegun q.run.phase → LoaderKept q (tick_loader w q)
