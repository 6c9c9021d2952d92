-- Files that load are as many as their modules.
use Rattle.base_lists.proofs.Common.{◌≡◌, refl, ap, Bool, suc, List, [], ◌∷◌, length}
use Rattle.tools_cli_spec.specs.Prelude.{AllLoad, NamedFile}
use Rattle.wasm_tree_spec.specs.Prelude.{Module}

pub as_many : (many : Bool) (files : List NamedFile) (trees : List Module) → AllLoad many files trees → length trees ≡ length files
as_many many [] [] h = refl
as_many many [] (tree ∷ trees) h = absurd h
as_many many (file ∷ files) [] h = absurd h
as_many many (file ∷ files) (tree ∷ trees) h = ap suc (as_many many files trees h.1)
