-- The snapshot of a module: the module that begins in the state that evaluated constructors left.
use Rattle.std.specs.Prelude.{ℕ, suc, List, [], ◌∷◌, ◌++◌, length, Bool, true, false, not, ◌&&◌, cond, Option, Some, None, unwrap_or}
use Rattle.std.specs.List.{filter_map, list_any}
use Rattle.base_lists.specs.Places.{first_place}
use Rattle.wasm_tree_spec.specs.Prelude.{Which, DataMode, DataSeg, Export, Func, GlobalDef, Module, any_uses_data, imported_globals, imported_memories, funcs_of}
use Rattle.wasm_tree.specs.declared.module.DataMode.TheVariants as data'
use Rattle.wasm_tree.specs.declared.module.ExportDesc.TheVariants as ex
use Rattle.module_limits.specs.Counts.{over_limit}
use Rattle.wasm_meaning.specs.Prelude.{Text, same_text}
use Rattle.index_remap.specs.Prelude.{declared}
use Rattle.eval_spec.specs.Prelude.{State, takes_and_gives_nothing, value_of_global, memory_bytes, is_dropped}
use Rattle.eval_snapshot_spec.specs.Contents.{contents}

-- `f` applied to each element with its index; indices are counted from `index` on.
abbrev pub indexed : {A : Type 0} → (ℕ → A → A) → (index : ℕ) → List A → List A
indexed f n [] = []
indexed f n (x ∷ xs) = f n x ∷ indexed f (suc n) xs

-- ---- globals (section 2.5.6) ----

-- A defined global of the snapshot: it is initialised with its value; if the value is unknown, it
-- keeps its initialiser.
abbrev pub global_left : Module → State → (index : ℕ) → GlobalDef → GlobalDef
global_left m s n g = record g { init = unwrap_or (value_of_global m s n) g.init }

-- These globals, from index `index` on.
abbrev pub globals_left : Module → State → (index : ℕ) → List GlobalDef → List GlobalDef
globals_left m s = indexed (global_left m s)

-- ---- data segments (section 2.5.8) ----

abbrev pub is_passive : DataMode → Bool
is_passive data'.Passive = true
is_passive (data'.Active memory offset) = false

-- A passive segment of length 0, which behaves as a dropped one.
abbrev pub emptied : DataSeg
emptied = record { mode = data'.Passive; bytes = [] }

-- An old segment of the snapshot: a passive one that is not dropped stays, and any other is
-- emptied.
abbrev pub segment_left : State → (index : ℕ) → DataSeg → DataSeg
segment_left s n d = cond (is_passive d.mode && not (is_dropped s n)) d emptied

abbrev pub segments_left : State → (index : ℕ) → List DataSeg → List DataSeg
segments_left s = indexed (segment_left s)

-- The old segments, each at its index, if a body has `memory.init` or `data.drop`; otherwise none.
abbrev pub old_segments : Module → State → List DataSeg
old_segments m s = cond (any_uses_data m.funcs) (segments_left s 0 m.datas) []

-- The contents of the memory that the module defines, which comes after the imported ones.
abbrev pub memory_segments : Module → State → List DataSeg
memory_segments m s = contents (length (imported_memories m.imports)) (memory_bytes m s)

-- ---- exports and the empty function (sections 2.5.3 and 2.5.10) ----

abbrev pub is_among_names : List Text → Text → Bool
is_among_names names name = list_any (same_text name) names

-- Whether the name is that of an evaluated constructor whose export is kept.
abbrev pub is_kept : (evaluated kept : List Text) → Text → Bool
is_kept evaluated kept name = is_among_names evaluated name && is_among_names kept name

-- The export of an evaluated constructor is removed, unless it is kept: then it denotes the
-- function `empty`. Any other export is unchanged.
abbrev pub export_left : (evaluated kept : List Text) → (empty : ℕ) → Export → Option Export
export_left evaluated kept empty e =
    cond (is_among_names evaluated e.name) (cond (is_among_names kept e.name) (Some (record e { desc = ex.Func empty })) None) (Some e)

-- The index of the first type without parameters and results. (A module with an evaluated
-- constructor has one.)
abbrev pub empty_type : Module → ℕ
empty_type m = unwrap_or (first_place takes_and_gives_nothing m.types 0) 0

-- The empty function: it has no parameters and no results, and its body is empty.
abbrev pub empty_func : Module → Func
empty_func m = record { ty = empty_type m; locals = []; body = [] }

-- The one function for all exports that are kept, if there are any.
abbrev pub added_funcs : Module → (evaluated kept : List Text) → List Func
added_funcs m evaluated kept = cond (list_any (λ e. is_kept evaluated kept e.name) m.exports) (empty_func m ∷ []) []

-- ---- the module ----

-- The snapshot before references are declared. Types, imports, tables, memories and element
-- segments are unchanged, and so are all functions with their indices; there is no start.
abbrev pub snapshot_tree : Module → State → (evaluated kept : List Text) → Module
snapshot_tree m s evaluated kept =
    record m {
      funcs = m.funcs ++ added_funcs m evaluated kept;
      globals = globals_left m s (length (imported_globals m.imports)) m.globals;
      exports = filter_map (export_left evaluated kept (length (funcs_of m))) m.exports;
      start = None;
      datas = old_segments m s ++ memory_segments m s;
    }

-- The same with an additional element segment that declares the functions which `ref.func` names in
-- a body and nothing else declares any more (section 3.4.10).
unfoldable pub declared_snapshot : Module → State → (evaluated kept : List Text) → Module
declared_snapshot m s evaluated kept = declared (snapshot_tree m s evaluated kept)

-- The snapshot, which is the module itself if no constructor was evaluated.
abbrev pub snapshot : Module → State → (evaluated kept : List Text) → Module
snapshot m s [] kept = m
snapshot m s (name ∷ names) kept = declared_snapshot m s (name ∷ names) kept

-- The first count of the snapshot that is above its limit, if one is.
abbrev pub too_much : Module → State → (evaluated kept : List Text) → Option Which
too_much m s evaluated kept = over_limit (snapshot m s evaluated kept)
