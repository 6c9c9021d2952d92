-- The functions of a plan are defined ones, and not too many.
use Rattle.base_lists.proofs.Common.{◌≡◌, ℕ, suc, ◌+◌, ◌<◌, ◌≤◌, arith, List, [], ◌∷◌, length, ◌∙◌, nat_le, nat_lt, IsStrictlyIncreasing, leb-true, length-map, length-numbers, left_true}
use Rattle.base_lists.specs.Every.{Every}
use Rattle.wasm_tree_spec.specs.Prelude.{Space, Module, funcs_of, imported_funcs}
use Rattle.split_proof.specs.Premises.{CanMove}
use Rattle.split_spec.specs.Prelude.{entities, is_from_primary, marks_from_primary, defined_at}
use Rattle.split_slots.proofs.MovedDefinitions.{Ascends, ascends}

-- Functions that can move are defined ones.
pub all_defined : (m : Module) (funcs : List ℕ) → CanMove m funcs → Every (λ f. length (imported_funcs m.imports) ≤ f) funcs
all_defined m [] h = tt
all_defined m (f ∷ fs) h = (leb-true (length (imported_funcs m.imports)) f (left_true (nat_le (length (imported_funcs m.imports)) f) (nat_lt f (length (funcs_of m))) h.0.0), all_defined m fs h.1)

few_from : (a n : ℕ) (xs : List ℕ) → a ≤ n → Ascends a xs → Every (λ f. f < n) xs → a + length xs ≤ n
few_from a n [] le up lt = omega (arith, le)
few_from a n (x ∷ xs) le up lt = let rest = few_from (suc x) n xs (omega (arith, lt.0)) up.1 lt.1 in omega (arith, rest, up.0)

-- A strictly increasing list of numbers below a bound has no more elements than the bound.
pub few_ascend : (n : ℕ) (xs : List ℕ) → IsStrictlyIncreasing xs → Every (λ f. f < n) xs → length xs ≤ n
few_ascend n [] inc lt = omega arith
few_ascend n (x ∷ xs) inc lt = let all = few_from 0 n (x ∷ xs) (omega arith) (ascends 0 x xs (omega arith) inc) lt in omega (arith, all)

-- Each entity of an index space has a mark.
pub many_marks : (m : Module) (moved own : List ℕ) (space : Space) → length (marks_from_primary m moved own space) ≡ length (entities m space)
many_marks m moved own space = length-map _ (is_from_primary moved (defined_at m own) space) ∙ length-numbers 0 (length (entities m space))
