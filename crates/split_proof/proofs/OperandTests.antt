-- The operands of code pass a test where every operand passes it for which each test that it passes
-- is passed by some operand of the code.
use Rattle.base_lists.proofs.Common.{◌≡◌, ◌∙◌, List, [], ◌∷◌, Bool, true, refl, list_all, list_any, and_from, left_either, right_either}
use Rattle.base_lists.specs.Every.{Every}
use Rattle.wasm_tree_spec.specs.Prelude.{Operand, Instr, out-Instr, all_operands_pass, any_operand_passes, held, operand_passes, operands_of, operands_pass, AnyInside, PassesInside}
use Rattle.wasm_tree.proofs.OperandLaws.{by_held}

-- An operand passes the wanted test where each test that it passes is passed by some operand of the
-- code.
abbrev pub Met : (Operand → Bool) → ((Operand → Bool) → Bool) → Type 0
Met wanted any = (o : Operand) → ((test : Operand → Bool) → test o ≡ true → any test ≡ true) → wanted o ≡ true

each_met : (wanted : Operand → Bool) (os : List Operand) → Met wanted (λ test. list_any test os) → list_all wanted os ≡ true
each_met wanted [] h = refl
each_met wanted (o ∷ os) h =
    and_from (wanted o) (list_all wanted os) (h o (λ test e. left_either (test o) (list_any test os) e)) (each_met wanted os (λ p t. h p (λ test e. right_either (test o) (list_any test os) (t test e))))

module _ (inside : PassesInside) (any : AnyInside) (wanted : Operand → Bool) where
  abbrev Passes : Instr → Type 0
  Passes i = Met wanted (λ test. operand_passes test i) → operands_pass wanted i ≡ true

  all_met : (is : List Instr) → Every Passes is → Met wanted (λ test. any_operand_passes test is) → all_operands_pass wanted is ≡ true
  all_met [] p h = refl
  all_met (i ∷ is) p h =
      and_from (operands_pass wanted i) (all_operands_pass wanted is) (p.0 (λ o t. h o (λ test e. left_either (operand_passes test i) (any_operand_passes test is) (t test e))))
      (all_met is p.1 (λ o t. h o (λ test e. right_either (operand_passes test i) (any_operand_passes test is) (t test e))))

  instr_met : (i : Instr) → Passes i
  instr_met = by_held Passes (λ i p h.
      inside wanted i
      ∙ and_from (list_all wanted (operands_of i)) (all_operands_pass wanted (held (out-Instr i)))
      (each_met wanted (operands_of i) (λ o t. h o (λ test e. any test i ∙ left_either (list_any test (operands_of i)) (any_operand_passes test (held (out-Instr i))) (t test e))))
      (all_met (held (out-Instr i)) p (λ o t. h o (λ test e. any test i ∙ right_either (list_any test (operands_of i)) (any_operand_passes test (held (out-Instr i))) (t test e)))))

  every_met : (is : List Instr) → Every Passes is
  every_met [] = tt
  every_met (i ∷ is) = (instr_met i, every_met is)

  pub all_wanted : (is : List Instr) → Met wanted (λ test. any_operand_passes test is) → all_operands_pass wanted is ≡ true
  all_wanted is = all_met is (every_met is)
