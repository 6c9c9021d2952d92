-- Constant expressions (WebAssembly Core 2.0, section 3.3.10).
use Rattle.std.specs.Prelude.{◌&&◌, not, nat_lt, length, Option, Some, slice_get}
use Rattle.base_lists.specs.Options.{◌>>=◌}
use Rattle.wasm_tree.specs.declared.types.RefType.TheVariants.{Func as func_ref}
use Rattle.wasm_tree_spec.specs.Prelude.{ValType, I32, I64, Ref, ConstExpr, Module, funcs_of, globals_of, imported_globals}
use Rattle.wasm_tree.specs.declared.module.ConstExpr.TheVariants as expr
use Rattle.wasm_valid_bodies.specs.Typing.{only}

-- The type of a constant expression: `ref.func` needs an existing function, and `global.get` an
-- imported immutable global.
abbrev pub const_type : Module → ConstExpr → Option ValType
const_type m (expr.I32 value) = Some I32
const_type m (expr.I64 value) = Some I64
const_type m (expr.Null ty) = Some (Ref ty)
const_type m (expr.Func func) = only (nat_lt func (length (funcs_of m))) (Some (Ref func_ref))
const_type m (expr.Global global) =
    slice_get (globals_of m) global >>= λ g. only (nat_lt global (length (imported_globals m.imports)) && not g.mutable) (Some g.ty)
