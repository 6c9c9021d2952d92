-- A module without one function that nothing else of it names (WebAssembly Core 2.0, section
-- 2.5.1): what is left when everything but that function is kept.
use Rattle.std.specs.Prelude.{ℕ, suc, ◌+◌, ◌-◌, ◌<◌, IsTrue, true, false, ◌∷◌, ◌++◌, length, replicate}
use Rattle.wasm_tree_spec.specs.Prelude.{Module, imported_funcs, globals_of}
use Rattle.wasm_meaning.specs.Prelude.{alone, links, Same, events}
use Rattle.index_remap_proof.specs.Indices.{with_entry, TreeNamesOnly}
use Rattle.dce_spec.specs.Marks.{Marks, stays}
use Rattle.dce_spec.specs.Swept.{kept_tree, sweep_map, swept}

-- the index of the function at place `n` among those that the module defines
abbrev pub function_index : ℕ → Module → ℕ
function_index n t = length (imported_funcs t.imports) + n

-- everything is kept except this function
abbrev pub all_but : ℕ → Module → Marks
all_but n t = record {
  exports = replicate (length t.exports) true;
  imports = replicate (length t.imports) true;
  funcs = replicate (function_index n t) true ++ false ∷ replicate (length t.funcs - suc n) true;
  globals = replicate (length (globals_of t)) true;
}

-- What is left names neither the function nor an index that does not exist. Only a declarative
-- segment may name the function, since its items that do are not left.
pub record IsUnreachable (n : ℕ) (t : Module) : Type 0 where
  pub not_named : TreeNamesOnly (stays (all_but n t)) (kept_tree (all_but n t) t)
  pub all_exist : TreeNamesOnly (with_entry (sweep_map (all_but n t) t)) (kept_tree (all_but n t) t)

-- The module without the function: the functions behind it move down by one, a declarative segment
-- keeps only its references to other functions, and references are declared if they have to be.
abbrev pub removed : ℕ → Module → Module
removed n t = swept (all_but n t) t

-- In each environment that links the module, it has the same trace with and without the function,
-- step by step.
abbrev pub UnreachableFunctionRemovalEquivalent : Type 0
UnreachableFunctionRemovalEquivalent =
    (t : Module) (n : ℕ) → n < length t.funcs → IsUnreachable n t → Same (λ env. IsTrue (links env (alone t))) (events (alone t)) (events (alone (removed n t))) (λ n. n) (λ n. n)
