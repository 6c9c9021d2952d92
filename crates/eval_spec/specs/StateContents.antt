-- What can be read of a state: the value of a global, the bytes of the memory, and whether a data
-- segment is dropped.
use Rattle.std.specs.Prelude.{ℕ, List, [], length, Bool, false, cond, ◌||◌, Option, Some, None, slice_get, unwrap_or}
use Rattle.base_lists.specs.Members.{is_among}
use Rattle.base_lists.specs.Options.{◌>>=◌}
use Rattle.wasm_tree_spec.specs.Prelude.{Globals, ConstExpr, Module, imported_memories}
use Rattle.wasm_tree.specs.declared.types.RefType.TheVariants as reft
use Rattle.wasm_tree.specs.declared.module.ConstExpr.TheVariants as const
use Rattle.wasm_num.specs.Operations.{W32, W64, signed}
use Rattle.wasm_meaning.specs.Prelude.{RefVal, FuncRef, ExternRef, Val, Num, Ref, Memory}
use Rattle.eval_spec.specs.State.{State}
use Rattle.eval_spec.specs.Stops.{is_imported}

-- The constant expression of a value (section 3.3.10). A non-null external reference has none, but
-- an evaluation has no such reference, because it reads no value from an import.
abbrev pub constant_ref : RefVal → Option ConstExpr
constant_ref (FuncRef (Some func)) = Some (const.Func func)
constant_ref (FuncRef None) = Some (const.Null reft.Func)
constant_ref (ExternRef None) = Some (const.Null reft.Extern)
constant_ref (ExternRef (Some n)) = None

abbrev pub constant : Val → Option ConstExpr
constant (Num W32 n) = Some (const.I32 (signed 32 n))
constant (Num W64 n) = Some (const.I64 (signed 64 n))
constant (Ref r) = constant_ref r

abbrev pub is_unknown_global : Module → State → ℕ → Bool
is_unknown_global m s global = is_imported m Globals global || is_among s.unknown.globals global

-- The value of a global; `None` if it is unknown or there is no such global.
abbrev pub value_of_global : Module → State → ℕ → Option ConstExpr
value_of_global m s global = cond (is_unknown_global m s global) None (slice_get s.store.globals global >>= λ g. constant g.value)

-- The memory that the module defines, if it defines one; it comes after the imported ones.
abbrev pub defined_memory : Module → State → Option Memory
defined_memory m s = slice_get s.store.mems (length (imported_memories m.imports))

-- The bytes of that memory; their number is its size.
abbrev pub memory_bytes : Module → State → List ℕ
memory_bytes m s = unwrap_or (defined_memory m s >>= λ memory. Some memory.bytes) []

abbrev pub is_dropped : State → (segment : ℕ) → Bool
is_dropped s segment = unwrap_or (slice_get s.store.datas segment >>= λ d. Some d.dropped) false
