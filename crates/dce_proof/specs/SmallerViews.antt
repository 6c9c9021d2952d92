-- That an environment that links a module links it as well if the embedder sees only some of its
-- exports.
use Rattle.std.specs.Prelude.{IsTrue}
use Rattle.wasm_tree_spec.specs.Prelude.{Module}
use Rattle.wasm_meaning.specs.Prelude.{Environment, alone, links}
use Rattle.dce_spec.specs.Marks.{Marks}
use Rattle.dce_spec.specs.Unswept.{unswept}

-- an environment that links the module links it with a view of only the kept exports
abbrev pub SmallerViewsLink : Type 0
SmallerViewsLink = (k : Marks) (t : Module) (env : Environment) → IsTrue (links env (alone t)) → IsTrue (links env (unswept k t))
