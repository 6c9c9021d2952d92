-- What a u32 can name: each list and each index space of a module has fewer than 2^32 entries, and
-- each function has fewer than 2^32 parameters and declared locals together (WebAssembly Core 2.0,
-- sections 2.1.3 and 2.5.1).
use Rattle.std.specs.Prelude.{◌≡◌, ℕ, ◌+◌, ◌^◌, ◌<◌, List, length, map, sum, Option, Some, None, slice_get}
use Rattle.wasm_tree.specs.declared.types.FuncType.{FuncType}
use Rattle.wasm_tree.specs.declared.module.LocalGroup.{LocalGroup}
use Rattle.wasm_tree.specs.declared.module.Func.{Func}
use Rattle.wasm_tree.specs.declared.module.Module.{Module}
use Rattle.wasm_tree.specs.Spaces.{funcs_of, tables_of, memories_of, globals_of}

-- The number of parameters of a function type, 0 if there is no type.
abbrev pub param_count : Option FuncType → ℕ
param_count None = 0
param_count (Some ty) = length ty.params

-- The number of declared locals.
abbrev pub declared_count : List LocalGroup → ℕ
declared_count groups = sum (map (λ g. g.count) groups)

-- The number of parameters and declared locals of a function.
abbrev pub local_count : List FuncType → Func → ℕ
local_count types f = param_count (slice_get types f.ty) + declared_count f.locals

-- The module is bounded: a u32 can name each of its entries, and each local of its functions.
pub record IsBounded (m : Module) : Type 0 where
  pub types : length m.types < 2 ^ 32
  pub imports : length m.imports < 2 ^ 32
  pub funcs : length (funcs_of m) < 2 ^ 32
  pub tables : length (tables_of m) < 2 ^ 32
  pub memories : length (memories_of m) < 2 ^ 32
  pub globals : length (globals_of m) < 2 ^ 32
  pub exports : length m.exports < 2 ^ 32
  pub elems : length m.elems < 2 ^ 32
  pub datas : length m.datas < 2 ^ 32
  pub locals : (i : ℕ) (f : Func) → slice_get m.funcs i ≡ Some f → local_count m.types f < 2 ^ 32
