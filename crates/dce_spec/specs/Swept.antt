-- The module that is left of another when only what is marked is kept.
use Rattle.std.specs.Prelude.{Bool, false, List, drop, filter, length, map}
use Rattle.base_lists.specs.Places.{numbers}
use Rattle.wasm_tree_spec.specs.Prelude.{ConstExpr, ElemMode, ElemSeg, Module, imported_funcs, imported_globals, tables_of, memories_of}
use Rattle.wasm_tree.specs.declared.module.ConstExpr.TheVariants as const
use Rattle.wasm_tree.specs.declared.module.ElemMode.TheVariants as elem
use Rattle.index_remap.specs.declared.remap.Remap.{Remap}
use Rattle.index_remap.specs.Prelude.{declared, renumbered_tree}
use Rattle.base_kept.specs.Kept.{kept, is_marked, new_places}
use Rattle.dce_spec.specs.Marks.{Marks}

-- whether the item is `ref.func` of a kept function
abbrev pub is_kept_ref : Marks → ConstExpr → Bool
is_kept_ref k (const.Func f) = is_marked k.funcs f
is_kept_ref k _ = false

-- a declarative segment only declares functions for `ref.func` (section 3.4.10), so it keeps only
-- the items of kept functions; other segments keep all items
abbrev pub kept_items : Marks → ElemMode → List ConstExpr → List ConstExpr
kept_items k (elem.Active table offset) items = items
kept_items k elem.Passive items = items
kept_items k elem.Declarative items = filter (is_kept_ref k) items

abbrev pub kept_elem : Marks → ElemSeg → ElemSeg
kept_elem k e = record e { items = kept_items k e.mode e.items }

-- the marks of what the module defines, which comes after the imports in an index space
abbrev pub defined_funcs : Marks → Module → List Bool
defined_funcs k m = drop (length (imported_funcs m.imports)) k.funcs

abbrev pub defined_globals : Marks → Module → List Bool
defined_globals k m = drop (length (imported_globals m.imports)) k.globals

-- the module without what is not kept, still with the indices of the whole module
abbrev pub kept_tree : Marks → Module → Module
kept_tree k m =
    record m {
      imports = kept k.imports m.imports;
      funcs = kept (defined_funcs k m) m.funcs;
      globals = kept (defined_globals k m) m.globals;
      exports = kept k.exports m.exports;
      elems = map (kept_elem k) m.elems;
    }

-- the new index of each old one
abbrev pub sweep_map : Marks → Module → Remap
sweep_map k m = record {
  types = numbers 0 (length m.types);
  funcs = new_places k.funcs;
  tables = numbers 0 (length (tables_of m));
  mems = numbers 0 (length (memories_of m));
  globals = new_places k.globals;
  elems = numbers 0 (length m.elems);
  datas = numbers 0 (length m.datas);
}

-- what is kept, in order, with its new indices
abbrev pub renumbered_kept : Marks → Module → Module
renumbered_kept k m = renumbered_tree (sweep_map k m) (kept_tree k m)

-- the same, with those functions declared that `ref.func` names and that nothing else declares any
-- more (section 3.4.10)
unfoldable pub swept : Marks → Module → Module
swept k m = declared (renumbered_kept k m)
