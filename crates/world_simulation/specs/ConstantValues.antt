-- What constant expressions of a module alone denote (WebAssembly Core 2.0, section 3.3.10.1: a
-- `global.get` names an import).
use Rattle.std.specs.Prelude.{◌≡◌, [], ◌∷◌}
use Rattle.wasm_tree_spec.specs.Prelude.{ConstExpr, Module}
use Rattle.wasm_meaning.specs.Prelude.{Inst, Environment, own_globals, const_value, value_of}
use Rattle.world_simulation.specs.Prelude.{one, IsInst}

-- A constant expression has the value that it has over the environment's own globals.
abbrev pub ConstantsAloneReadTheEnvironment : Type 0
ConstantsAloneReadTheEnvironment = (env : Environment) (m : Module) (i : Inst) → IsInst env (one m) 0 m i → (e : ConstExpr) → value_of env (one m) (i ∷ []) 0 e ≡ const_value (own_globals env) i e
