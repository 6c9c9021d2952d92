-- The types that the locals in memory denote.
use Rattle.std.specs.Prelude.{List}
use Rattle.wasm_tree_spec.specs.Prelude.{ValType}
use Rattle.wasm_valid_bodies.specs.declared.locals.Locals.{Locals}
use Rattle.wasm_valid_bodies.specs.Groups.{locals_of}

abbrev pub local_types : Locals → List ValType
local_types l = locals_of l.params.now l.groups.now
