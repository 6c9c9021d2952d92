-- The reference types of tables and element segments.
use Rattle.std.specs.Prelude.{List, map}
use Rattle.wasm_tree_spec.specs.Prelude.{RefType, ElemSeg, Module, tables_of}

abbrev pub table_types : Module → List RefType
table_types m = map (λ t. t.ty) (tables_of m)

abbrev pub elem_types : List ElemSeg → List RefType
elem_types = map (λ s. s.ty)
