-- The number of imports of the primary module of a split, and bounds on the numbers of functions of
-- both modules.
use Rattle.base_lists.proofs.Common.{◌≡◌, ◌∙◌, ℕ, suc, ◌+◌, ◌≤◌, List, [], ◌∷◌, ◌++◌, drop, map, length, refl, ap, arith, length-append, length-map}
use Rattle.base_kept.specs.Kept.{kept}
use Rattle.base_kept.proofs.Laws.{kept_most}
use Rattle.wasm_tree_spec.specs.Prelude.{Functions, Module, funcs_of, imported_funcs}
use Rattle.wasm_valid.specs.Prelude.{ItemsHold}
use Rattle.index_remap.specs.Prelude.{new_import, renumbered_tree}
use Rattle.split_spec.specs.declared.names.SplitNames.{SplitNames}
use Rattle.split_spec.specs.Prelude.{left_marks, marks_from_primary, placeholder_imports, primary_map, primary_tree, secondary_map, secondary_tree, type_index}
use Rattle.split_spec.specs.Primary.{primary_with}
use Rattle.split_proof.specs.Premises.{CanMove}
use Rattle.split_proof.proofs.PrimarySpaces as primary_spaces
use Rattle.split_proof.proofs.SecondarySpaces as secondary_spaces
use Rattle.split_proof.proofs.DescribedSpaces.{declared_keeps}

-- ---- imports ----

placeholders_many : (namespace : ℕ → List ℕ) (m : Module) (slot : ℕ) (fs : List ℕ) → length (placeholder_imports namespace m slot fs) ≡ length fs
placeholders_many namespace m slot [] = refl
placeholders_many namespace m slot (f ∷ fs) = ap suc (placeholders_many namespace m (suc slot) fs)

-- The primary module has the imports of the module, and a placeholder for each moved function.
pub imports_many : (namespace : ℕ → List ℕ) (prefix : List ℕ) (m : Module) (moved : List ℕ) → length (primary_with namespace prefix m moved).imports ≡ length m.imports + length moved
unfolding primary_with
imports_many namespace prefix m moved =
    let t = renumbered_tree (primary_map m moved) (primary_tree namespace prefix m moved) in
    ap length (declared_keeps t).imports ∙ length-map (m.imports ++ placeholder_imports namespace m 0 moved) (new_import (primary_map m moved)) ∙ length-append m.imports (placeholder_imports namespace m 0 moved)
    ∙ ap (λ n. length m.imports + n) (placeholders_many namespace m 0 moved)

-- ---- functions ----

pub primary_few : (namespace : ℕ → List ℕ) (prefix : List ℕ) (m : Module) (moved : List ℕ) → ItemsHold m → CanMove m moved → length (funcs_of (renumbered_tree (primary_map m moved) (primary_tree namespace prefix m moved))) ≤ length (funcs_of m) + length moved
primary_few namespace prefix m moved holds can =
    let imported = imported_funcs m.imports in
    let defined = map (λ f. f.ty) m.funcs in
    let rest = kept (drop (length imported) (left_marks m moved)) defined in
    let is = ap length (primary_spaces.funcs_are namespace prefix m holds moved can) in
    let a = length-append imported (map (type_index m) moved ++ rest) in
    let b = length-append (map (type_index m) moved) rest in
    let c = length-map moved (type_index m) in
    let d = kept_most (drop (length imported) (left_marks m moved)) defined in
    let all = length-append imported defined in
    omega (arith, is, a, b, c, d, all)

pub secondary_few : (names : SplitNames) (m : Module) (moved own : List ℕ) (before : ℕ) → ItemsHold m → CanMove m own → length (funcs_of (renumbered_tree (secondary_map m moved own) (secondary_tree names m moved own before))) ≤ length (funcs_of m) + length own
secondary_few names m moved own before holds can =
    let many = secondary_spaces.funcs_many names m holds moved own before can in
    let is = ap length (secondary_spaces.imported_funcs_are names m holds moved own before) in
    let most = kept_most (marks_from_primary m moved own Functions) (funcs_of m) in
    omega (arith, many, is, most)
