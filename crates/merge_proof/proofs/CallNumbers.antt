-- The numbers of a body of calls, apart from operands, are in range: there are none.
use Rattle.base_lists.proofs.Common.{◌≡◌, ℕ, true, List, [], ◌∷◌, map, refl, rules, and_from}
use Rattle.wasm_tree_spec.specs.Prelude.{the_lemmas, Call}
use Rattle.wasm_write_proof.specs.Ranges.{numbers_in, all_numbers_in}

call_in : (f : ℕ) → numbers_in (Call f) ≡ true
call_in f = search (rules, the_lemmas)

pub calls_in : (fs : List ℕ) → all_numbers_in (map Call fs) ≡ true
calls_in [] = refl
calls_in (f ∷ fs) = and_from _ _ (call_in f) (calls_in fs)
