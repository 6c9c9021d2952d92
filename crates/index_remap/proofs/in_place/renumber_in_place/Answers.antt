use Rattle.base_lists.proofs.Common.{◌≡◌, ℕ, List, map, Option}
use Rattle.wasm_tree_spec.specs.Prelude.{Import, Func, GlobalDef, Export, ElemSeg, DataSeg, Module}
use Rattle.index_remap.specs.declared.remap.Remap.{Remap}
use Rattle.index_remap.specs.Renumbered.{new_import, new_func, new_global, new_export, new_start, new_elem, new_data, renumbered_tree}
use Rattle.index_remap.proofs.in_place.renumber_in_place.Goals as goal

-- The module with each part that the code replaced.
made : (m : Remap) (t : Module) (is : List Import) (fs : List Func) (gs : List GlobalDef) (es : List Export) (s : Option ℕ) (els : List ElemSeg) (ds : List DataSeg)
    → is ≡ map (new_import m) t.imports
    → fs ≡ map (new_func m) t.funcs
    → gs ≡ map (new_global m) t.globals
    → es ≡ map (new_export m) t.exports
    → s ≡ new_start m t.start
    → els ≡ map (new_elem m) t.elems
    → ds ≡ map (new_data m) t.datas
    → record t { imports = is; funcs = fs; globals = gs; exports = es; start = s; elems = els; datas = ds } ≡ renumbered_tree m t
made m t is fs gs es s els ds a b c d e f g = rw (a, b, c, d, e, f, g)

pub returns : goal.returns
returns c = record { tree = made c.args.map.now c.args.module.now _ _ _ _ _ _ _ c.rewrite_each.ensures c.renumber_funcs_in_place.ensures c.rewrite_each-2.ensures c.rewrite_each-3.ensures c.renumber_start-module.ensures c.rewrite_each-4.ensures c.rewrite_each-5.ensures }
