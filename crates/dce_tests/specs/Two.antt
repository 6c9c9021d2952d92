-- Two functions, of which the second is exported and alone reached.
use Rattle.std.specs.Prelude.{[], ◌∷◌, None, true, false}
use Rattle.wasm_tree.specs.declared.module.ExportDesc.TheVariants as ex
use Rattle.wasm_tree_spec.specs.Prelude.{Func, Module}
use Rattle.dce_graph.specs.declared.marks.Reached.{Reached}

abbrev pub blank : Func
blank = record { ty = 0; locals = []; body = [] }

abbrev pub two : Module
two = record {
  types = record { params = []; results = [] } ∷ [];
  imports = [];
  funcs = blank ∷ blank ∷ [];
  tables = [];
  mems = [];
  globals = [];
  exports = record { name = 102 ∷ []; desc = ex.Func 1 } ∷ [];
  start = None;
  elems = [];
  datas = [];
}

abbrev pub second : Reached
second = record { nodes = []; exports = true ∷ []; imports = []; funcs = false ∷ true ∷ []; globals = [] }
