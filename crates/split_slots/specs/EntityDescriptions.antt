-- The functions, tables, memories or globals of a module, each as an import would describe it.
use Rattle.std.specs.Prelude.{cond, List, [], map, Option, Some, None}
use Rattle.std.specs.List.{filter_map}
use Rattle.wasm_tree_spec.specs.Prelude.{same_space, space_of_import, Space, Types, Functions, Tables, Memories, Globals, ElementSegments, DataSegments, Import, Module, ImportDesc}
use Rattle.wasm_tree.specs.declared.module.ImportDesc.TheVariants as im

-- the description itself, if it is of an entity of this index space
abbrev pub desc_in : Space → ImportDesc → Option ImportDesc
desc_in space desc = cond (same_space space (space_of_import desc)) (Some desc) None

abbrev pub imported_in : Space → List Import → List ImportDesc
imported_in space imports = filter_map (λ i. desc_in space i.desc) imports

-- what the module defines in an index space
abbrev pub defined_in : Module → Space → List ImportDesc
defined_in m Functions = map (λ f. im.Func f.ty) m.funcs
defined_in m Tables = map (λ t. im.Table t) m.tables
defined_in m Memories = map (λ l. im.Memory l) m.mems
defined_in m Globals = map (λ g. im.Global g.ty) m.globals
defined_in m Types = []
defined_in m ElementSegments = []
defined_in m DataSegments = []
