-- Examples for the premise on numbers: it holds for a module with the greatest label, and not for
-- one with a greater label.
use Rattle.base_lists.proofs.Common.{◌≡◌, refl, sym, ◌∙◌, ℕ, [], ◌∷◌, None, Bool, true, false, ◌&&◌}
use Rattle.wasm_tree_spec.specs.Prelude.{fold_out-Instr, Br, Module}
use Rattle.wasm_tree.specs.declared.instr.Instr.{out-Instr}
use Rattle.wasm_write_proof.specs.Ranges.{all_numbers_in, number_step, small}
use Rattle.wasm_valid_proof.specs.Numbers.{NumbersInRange}

-- A module whose only function branches to this label.
abbrev branching_module : ℕ → Module
branching_module label = record { types = record { params = []; results = [] } ∷ []; imports = []; funcs = record { ty = 0; locals = []; body = Br label ∷ [] } ∷ []; tables = []; mems = []; globals = []; exports = []; start = None; elems = []; datas = [] }

number_of_label : (label : ℕ) → all_numbers_in (Br label ∷ []) ≡ (small label && true) && true
unfolding out-Instr denote.Hole.Carrier.out
number_of_label label = simp (fold_out-Instr Bool number_step) refl

greatest_number : NumbersInRange (branching_module 4294967295)
greatest_number = record { imports = tt; funcs = ((tt, number_of_label 4294967295), tt); tables = tt; mems = tt; globals = tt; exports = tt; elems = tt; datas = tt }

a_greater_number : NumbersInRange (branching_module 4294967296) → true ≡ false
a_greater_number r = sym r.funcs.0.1 ∙ number_of_label 4294967296
