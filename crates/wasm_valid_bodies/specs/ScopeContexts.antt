-- The context of a body that has this scope and these open labels.
use Rattle.std.specs.Prelude.{List}
use Rattle.wasm_tree_spec.specs.Prelude.{ValType}
use Rattle.wasm_valid_bodies.specs.declared.scope.Scope.{Scope}
use Rattle.wasm_valid_bodies.specs.declared.scope.Shape.{Shape}
use Rattle.wasm_valid_bodies.specs.Typing.{Context, Signature}
use Rattle.wasm_valid_bodies.specs.LocalTypes.{local_types}

abbrev pub context_of : Scope → List (List ValType) → Context
context_of s labels = record {
  types = s.types.now;
  funcs = s.funcs.now;
  tables = s.tables.now;
  memories = s.memories;
  globals = s.globals.now;
  elems = s.elems.now;
  datas = s.datas;
  named = s.named.now;
  locals = local_types s.locals;
  results = s.results.now;
  labels = labels;
}

abbrev pub signature : Shape → Signature
signature s = record { params = s.params.now; results = s.results.now }
