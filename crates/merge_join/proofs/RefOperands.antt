-- The functions that `ref.func` names in code: as operands of the code, and in the code with new
-- indices.
use Rattle.base_lists.proofs.Common.{◌≡◌, ◌∙◌, refl, sym, ap, ap₂, ℕ, Bool, true, false, ◌&&◌, ◌||◌, not, List, [], ◌∷◌, ◌++◌, map, slice_index, flat_map, list_all, list_all-append, and_from, and_parts, cond, Option, Some, None, cons_option, filter_map}
use Rattle.base_lists.specs.Every.{Every}
use Rattle.wasm_tree_spec.specs.Prelude.{Space, Functions, Operand, Instr, fold_out-Instr, map-Instr, out-Instr, same_space, operands, operands_of, held, operands_pass, all_operands_pass}
use Rattle.wasm_tree.specs.declared.instr.Instr.TheOpen.{Instr-F}
use Rattle.wasm_tree.specs.OperandLaws.{moved, MappedCodePasses, PassesInside}
use Rattle.wasm_tree.proofs.OperandLaws.{operands_map, held_map, by_held}
use Rattle.index_remap.specs.declared.remap.Remap.{Remap}
use Rattle.index_remap.specs.Prelude.{entry, entries, has, has_entry, fits_all, renumbered_all, refs, refs_all, refs_step, referred}

-- Whether the function of an operand of `ref.func` passes the test. Any other operand passes.
abbrev ref_passes : (ℕ → Bool) → Operand → Bool
ref_passes test o = o.called || (not (same_space o.space Functions) || test o.index)

module _ (passes_inside : PassesInside) (test : ℕ → Bool) where
  all_joined : (xs : List (List ℕ)) → list_all test (flat_map (λ x. x) xs) ≡ list_all (list_all test) xs
  all_joined [] = refl
  all_joined (x ∷ xs) = list_all-append test x (flat_map (λ y. y) xs) ∙ ap (λ b. list_all test x && b) (all_joined xs)

  own_refs : (os : List Operand) → list_all test (filter_map referred os) ≡ list_all (ref_passes test) os
  own_refs [] = refl
  own_refs (o ∷ os) = by (same_space o.space Functions) o.called (own_refs os)
    where
      by : (s c : Bool) → list_all test (filter_map referred os) ≡ list_all (ref_passes test) os →
          list_all test (cons_option (cond (s && not c) (Some o.index) None) (filter_map referred os)) ≡ (c || (not s || test o.index)) && list_all (ref_passes test) os
      by true true later = later
      by true false later = ap (λ b. test o.index && b) later
      by false true later = later
      by false false later = later

  layer_refs : (layer : Instr-F (List ℕ)) → list_all test (refs_step layer) ≡ list_all (ref_passes test) (operands layer) && list_all (list_all test) (held layer)
  layer_refs layer = list_all-append test (filter_map referred (operands layer)) (flat_map (λ x. x) (held layer)) ∙ ap₂ (λ a b. a && b) (own_refs (operands layer)) (all_joined (held layer))

  abbrev Same : Instr → Type 0
  Same i = list_all test (refs i) ≡ operands_pass (ref_passes test) i

  all_same : (is : List Instr) → Every Same is → list_all (list_all test) (map refs is) ≡ all_operands_pass (ref_passes test) is
  all_same [] q = refl
  all_same (i ∷ is) q = ap₂ (λ a b. a && b) q.0 (all_same is q.1)

  same_inside : (i : Instr) → Every Same (held (out-Instr i)) → Same i
  same_inside i q =
      let layer : Instr-F (List ℕ) = map-Instr Instr (List ℕ) refs (out-Instr i) in
      ap (list_all test) (fold_out-Instr (List ℕ) refs_step i)
      ∙ layer_refs layer
      ∙ ap (λ os. list_all (ref_passes test) os && list_all (list_all test) (held layer)) (operands_map refs (out-Instr i))
      ∙ ap (λ xs. list_all (ref_passes test) (operands_of i) && list_all (list_all test) xs) (held_map refs (out-Instr i))
      ∙ ap (λ b. list_all (ref_passes test) (operands_of i) && b) (all_same (held (out-Instr i)) q)
      ∙ sym (passes_inside (ref_passes test) i)

  each_same : (is : List Instr) → Every Same is
  each_same [] = tt
  each_same (i ∷ is) = (by_held Same same_inside i, each_same is)

  refs_pass : (is : List Instr) → list_all test (refs_all is) ≡ all_operands_pass (ref_passes test) is
  refs_pass is = all_joined (map refs is) ∙ all_same is (each_same is)

-- Code passes a test of operands if it passes two others that together imply the test.
module _ (passes_inside : PassesInside) (p q r : Operand → Bool) (then : (o : Operand) → p o ≡ true → q o ≡ true → r o ≡ true) where
  abbrev Follows : Instr → Type 0
  Follows i = operands_pass p i ≡ true → operands_pass q i ≡ true → operands_pass r i ≡ true

  own_follow : (os : List Operand) → list_all p os ≡ true → list_all q os ≡ true → list_all r os ≡ true
  own_follow [] h k = refl
  own_follow (o ∷ os) h k =
      let a = and_parts (p o) (list_all p os) h in let b = and_parts (q o) (list_all q os) k in
      and_from (r o) (list_all r os) (then o a.0 b.0) (own_follow os a.1 b.1)

  code_follows : (is : List Instr) → Every Follows is → all_operands_pass p is ≡ true → all_operands_pass q is ≡ true → all_operands_pass r is ≡ true
  code_follows [] e h k = refl
  code_follows (i ∷ is) e h k =
      let a = and_parts (operands_pass p i) (all_operands_pass p is) h in let b = and_parts (operands_pass q i) (all_operands_pass q is) k in
      and_from (operands_pass r i) (all_operands_pass r is) (e.0 a.0 b.0) (code_follows is e.1 a.1 b.1)

  follows_inside : (i : Instr) → Every Follows (held (out-Instr i)) → Follows i
  follows_inside i e h k =
      let inside = held (out-Instr i) in
      let a = and_parts (list_all p (operands_of i)) (all_operands_pass p inside) (sym (passes_inside p i) ∙ h) in
      let b = and_parts (list_all q (operands_of i)) (all_operands_pass q inside) (sym (passes_inside q i) ∙ k) in
      passes_inside r i ∙ and_from (list_all r (operands_of i)) (all_operands_pass r inside) (own_follow (operands_of i) a.0 b.0) (code_follows inside e a.1 b.1)

  each_follows : (is : List Instr) → Every Follows is
  each_follows [] = tt
  each_follows (i ∷ is) = (by_held Follows follows_inside i, each_follows is)

  all_follow : (is : List Instr) → all_operands_pass p is ≡ true → all_operands_pass q is ≡ true → all_operands_pass r is ≡ true
  all_follow is = code_follows is (each_follows is)

-- The functions that `ref.func` names in code with new indices pass the new test if the functions
-- that it names in the code pass the old one.
module _ (passes_inside : PassesInside) (mapped_code_passes : MappedCodePasses) (m : Remap) (old new : ℕ → Bool) (kept : (f : ℕ) → has m.funcs f ≡ true → old f ≡ true → new (slice_index m.funcs f) ≡ true) where
  operand_kept : (s : Space) (x : ℕ) (called : Bool) → has (entries m s) x ≡ true → (called || (not (same_space s Functions) || old x)) ≡ true → (called || (not (same_space s Functions) || new (entry m s x))) ≡ true
  operand_kept s x true h k = refl
  operand_kept Functions x false h k = kept x h k
  operand_kept s x false h k = k

  pub refs_kept : (is : List Instr) → fits_all m is ≡ true → list_all old (refs_all is) ≡ true → list_all new (refs_all (renumbered_all m is)) ≡ true
  refs_kept is fits h =
      refs_pass passes_inside new (renumbered_all m is) ∙ mapped_code_passes (entry m) (ref_passes new) is
      ∙ all_follow passes_inside (has_entry m) (ref_passes old) (λ o. ref_passes new (moved (entry m) o)) (λ o. operand_kept o.space o.index o.called) is fits (sym (refs_pass passes_inside old is) ∙ h)
