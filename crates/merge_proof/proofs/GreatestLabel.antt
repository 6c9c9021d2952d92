-- Examples for the premise on the parts: it holds for a part with the greatest label, and not for
-- one with a greater label.
use Rattle.base_lists.proofs.Common.{◌≡◌, refl, sym, ◌∙◌, ℕ, [], ◌∷◌, List, None, Bool, true, false, ◌&&◌, arith}
use Rattle.base_lists.specs.Every.{Every}
use Rattle.wasm_tree_spec.specs.Prelude.{fold_out-Instr, Br, all_pass_step}
use Rattle.wasm_tree.specs.declared.instr.Instr.{out-Instr}
use Rattle.wasm_meaning.specs.Prelude.{Part}
use Rattle.wasm_write_proof.specs.Ranges.{InRange, all_in_range, number_step, small, small_operand}

-- One part, whose only function branches to this label.
abbrev branching : ℕ → List Part
branching label = record {
  name = None;
  «module» = record { types = record { params = []; results = [] } ∷ []; imports = []; funcs = record { ty = 0; locals = []; body = Br label ∷ [] } ∷ []; tables = []; mems = []; globals = []; exports = []; start = None; elems = []; datas = [] };
} ∷ []

of_label : (label : ℕ) → all_in_range (Br label ∷ []) ≡ (small label && true) && true
unfolding out-Instr denote.Hole.Carrier.out
of_label label = simp (fold_out-Instr Bool (all_pass_step small_operand), fold_out-Instr Bool number_step) refl

greatest_label : Every (λ p. InRange p.«module») (branching 4294967295)
greatest_label = (record { imports = tt; funcs = ((omega arith, (tt, of_label 4294967295)), tt); tables = tt; mems = tt; globals = tt; exports = tt; start = tt; elems = tt; datas = tt }, tt)

a_greater_label : Every (λ p. InRange p.«module») (branching 4294967296) → true ≡ false
a_greater_label r = sym r.0.funcs.0.1.1 ∙ of_label 4294967296
