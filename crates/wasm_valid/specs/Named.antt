-- The functions that `ref.func` may name in a body: those that the module names outside its bodies
-- and its start (WebAssembly Core 2.0, section 3.4.10, the refs of the context).
use Rattle.std.specs.Prelude.{ℕ, Bool, true, slice_set, List, ◌++◌, length, Option, Some, None}
use Rattle.std.specs.List.{filter_map, flat_map}
use Rattle.base_kept.specs.Marks.{named_from}
use Rattle.wasm_tree_spec.specs.Prelude.{ConstExpr, ExportDesc, ElemSeg, GlobalDef, Export, Module, funcs_of}
use Rattle.wasm_tree.specs.declared.module.ConstExpr.TheVariants as expr
use Rattle.wasm_tree.specs.declared.module.ExportDesc.TheVariants as exported

abbrev pub const_func : ConstExpr → Option ℕ
const_func (expr.Func func) = Some func
const_func _ = None

abbrev pub export_func : ExportDesc → Option ℕ
export_func (exported.Func func) = Some func
export_func _ = None

abbrev pub elem_refs : List ElemSeg → List ℕ
elem_refs = flat_map (λ s. filter_map const_func s.items)

abbrev pub global_refs : List GlobalDef → List ℕ
global_refs = filter_map (λ g. const_func g.init)

abbrev pub export_refs : List Export → List ℕ
export_refs = filter_map (λ e. export_func e.desc)

-- The functions that element segments, initialisers of globals and exports name.
abbrev pub refs_of : Module → List ℕ
refs_of m = elem_refs m.elems ++ (global_refs m.globals ++ export_refs m.exports)

-- For each function of the module, whether `ref.func` may name it in a body.
abbrev pub named_of : Module → List Bool
named_of m = named_from (refs_of m) 0 (length (funcs_of m))

-- The marks with one set at this position, if there is one.
abbrev pub marked_at : List Bool → Option ℕ → List Bool
marked_at marks None = marks
marked_at marks (Some r) = slice_set marks r true
