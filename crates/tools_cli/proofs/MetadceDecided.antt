-- What a metadce decides, it decides over one module and two files.
use Rattle.base_lists.proofs.Common.{◌≡◌, refl, List, [], ◌∷◌}
use Rattle.wasm_tree_spec.specs.Prelude.{Module}
use Rattle.tools_cli_spec.specs.Prelude.{Text, MetadceTask, Metadce, Decision, Decides, SweepsByGraph}

abbrev pub IsOfOne : MetadceTask → List Module → List Text → Decision → Type 0
IsOfOne metadce trees contents decision = (tree : Module) × (bytes : Text) × (text : Text) × (trees ≡ tree ∷ []) × (contents ≡ bytes ∷ text ∷ []) × SweepsByGraph metadce tree text decision

pub of_one : (metadce : MetadceTask) (trees : List Module) (contents : List Text) (decision : Decision) → Decides (Metadce metadce) trees contents decision → IsOfOne metadce trees contents decision
of_one metadce [] contents decision h = absurd h
of_one metadce (tree ∷ []) [] decision h = absurd h
of_one metadce (tree ∷ []) (bytes ∷ []) decision h = absurd h
of_one metadce (tree ∷ []) (bytes ∷ text ∷ []) decision h = (tree, bytes, text, refl, refl, h)
of_one metadce (tree ∷ []) (bytes ∷ text ∷ other ∷ more) decision h = absurd h
of_one metadce (tree ∷ other ∷ trees) contents decision h = absurd h
