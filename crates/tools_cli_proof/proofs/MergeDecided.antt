-- A merge has a part for each source.
use Rattle.base_lists.proofs.Common.{◌≡◌, refl, ap, map, suc, List, [], ◌∷◌, length, arith}
use Rattle.tools_cli_spec.specs.Prelude.{Source, parts_of}
use Rattle.wasm_tree_spec.specs.Prelude.{Module}

pub length_parts : (sources : List Source) (trees : List Module) → length trees ≡ length sources → length (parts_of sources trees) ≡ length sources
length_parts [] [] e = refl
length_parts [] (tree ∷ trees) e = absurd (omega arith)
length_parts (s ∷ sources) [] e = absurd (omega arith)
length_parts (s ∷ sources) (tree ∷ trees) e = ap suc (length_parts sources trees (omega arith))

pub length_files : (sources : List Source) → length (map (λ (s : Source). s.file) sources) ≡ length sources
length_files [] = refl
length_files (s ∷ sources) = ap suc (length_files sources)
