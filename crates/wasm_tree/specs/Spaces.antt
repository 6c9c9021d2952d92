-- The index spaces of a module: first the imports, in order, and then the definitions (WebAssembly
-- Core 2.0, section 2.5.1).
use Rattle.std.specs.Prelude.{ℕ, List, ◌++◌, map, Option, Some, None, slice_get, option_and_then}
use Rattle.std.specs.List.{filter_map}
use Rattle.wasm_tree.specs.declared.types.FuncType.{FuncType}
use Rattle.wasm_tree.specs.declared.types.Limits.{Limits}
use Rattle.wasm_tree.specs.declared.types.TableType.{TableType}
use Rattle.wasm_tree.specs.declared.types.GlobalType.{GlobalType}
use Rattle.wasm_tree.specs.declared.module.ImportDesc.{ImportDesc}
use Rattle.wasm_tree.specs.declared.module.ImportDesc.TheVariants.{Func, Table, Memory, Global}
use Rattle.wasm_tree.specs.declared.module.ExportDesc.{ExportDesc}
use Rattle.wasm_tree.specs.declared.module.ExportDesc.TheVariants as export
use Rattle.wasm_tree.specs.declared.space.Space.{Space}
use Rattle.wasm_tree.specs.declared.space.Space.TheVariants.{Functions, Tables, Memories, Globals}
use Rattle.wasm_tree.specs.declared.module.Import.{Import}
use Rattle.wasm_tree.specs.declared.module.Module.{Module}

-- The index space to which an import adds, and the index space of what an export names.
abbrev pub space_of_import : ImportDesc → Space
space_of_import (Func ty) = Functions
space_of_import (Table ty) = Tables
space_of_import (Memory limits) = Memories
space_of_import (Global ty) = Globals

abbrev pub space_of_export : ExportDesc → Space
space_of_export (export.Func i) = Functions
space_of_export (export.Table i) = Tables
space_of_export (export.Memory i) = Memories
space_of_export (export.Global i) = Globals

-- The index of what an export names.
abbrev pub index_of_export : ExportDesc → ℕ
index_of_export (export.Func i) = i
index_of_export (export.Table i) = i
index_of_export (export.Memory i) = i
index_of_export (export.Global i) = i

-- What an import adds to each of the four index spaces: the type index of a function, or the type
-- of a table, memory or global.
abbrev pub func_of : ImportDesc → Option ℕ
func_of (Func ty) = Some ty
func_of (Table ty) = None
func_of (Memory limits) = None
func_of (Global ty) = None

abbrev pub table_of : ImportDesc → Option TableType
table_of (Func ty) = None
table_of (Table ty) = Some ty
table_of (Memory limits) = None
table_of (Global ty) = None

abbrev pub memory_of : ImportDesc → Option Limits
memory_of (Func ty) = None
memory_of (Table ty) = None
memory_of (Memory limits) = Some limits
memory_of (Global ty) = None

abbrev pub global_of : ImportDesc → Option GlobalType
global_of (Func ty) = None
global_of (Table ty) = None
global_of (Memory limits) = None
global_of (Global ty) = Some ty

-- What the imports add to each index space, in order.
abbrev pub imported_funcs : List Import → List ℕ
imported_funcs = filter_map (λ i. func_of i.desc)

abbrev pub imported_tables : List Import → List TableType
imported_tables = filter_map (λ i. table_of i.desc)

abbrev pub imported_memories : List Import → List Limits
imported_memories = filter_map (λ i. memory_of i.desc)

abbrev pub imported_globals : List Import → List GlobalType
imported_globals = filter_map (λ i. global_of i.desc)

-- The index spaces. That of functions has their type indices, and those of tables, memories and
-- globals have their types.
abbrev pub funcs_of : Module → List ℕ
funcs_of m = imported_funcs m.imports ++ map (λ f. f.ty) m.funcs

abbrev pub tables_of : Module → List TableType
tables_of m = imported_tables m.imports ++ m.tables

abbrev pub memories_of : Module → List Limits
memories_of m = imported_memories m.imports ++ m.mems

abbrev pub globals_of : Module → List GlobalType
globals_of m = imported_globals m.imports ++ map (λ g. g.ty) m.globals

-- The type of a function, if the function and its type exist.
abbrev pub type_of_func : Module → ℕ → Option FuncType
type_of_func m func = option_and_then (slice_get m.types) (slice_get (funcs_of m) func)
