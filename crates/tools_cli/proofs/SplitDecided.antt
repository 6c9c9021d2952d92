-- What a split decides, it decides over one module and one file.
use Rattle.base_lists.proofs.Common.{◌≡◌, refl, List, [], ◌∷◌}
use Rattle.wasm_tree_spec.specs.Prelude.{Module}
use Rattle.tools_cli_spec.specs.Prelude.{Text, SplitTask, Split, Decision, Decides, Splits}

abbrev pub IsOfOne : SplitTask → List Module → List Text → Decision → Type 0
IsOfOne split trees contents decision = (tree : Module) × (bytes : Text) × (trees ≡ tree ∷ []) × (contents ≡ bytes ∷ []) × Splits split tree bytes decision

pub of_one : (split : SplitTask) (trees : List Module) (contents : List Text) (decision : Decision) → Decides (Split split) trees contents decision → IsOfOne split trees contents decision
of_one split [] contents decision h = absurd h
of_one split (tree ∷ []) [] decision h = absurd h
of_one split (tree ∷ []) (bytes ∷ []) decision h = (tree, bytes, refl, refl, h)
of_one split (tree ∷ []) (bytes ∷ other ∷ more) decision h = absurd h
of_one split (tree ∷ other ∷ trees) contents decision h = absurd h
